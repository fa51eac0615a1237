-- What one medium gives at a first reading.
use Rattle.std.proofs.Common.{◌≡◌, ℕ, List, None, sym, ap, ◌∙◌, subst}
use Rattle.vdr_terms.specs.Records.{Record}
use Rattle.vdr_config.specs.Sizes.{window_of}
use Rattle.vdr_segment.specs.declared.area.Area.{Area}
use Rattle.vdr_rescue.specs.declared.findings.Finding.{Finding}
use Rattle.vdr_rescue.specs.declared.fronts.Head.{Head}
use Rattle.vdr_rescue.specs.declared.told.Told.{Told}
use Rattle.vdr_rescue.specs.Alones.{AloneState, IsAloneOn, IsReadThrough, IsSameMedium, Rescue, Rescued, account_of}
use Rattle.vdr_rescue.specs.Cursors.{CursorState}
use Rattle.vdr_rescue.specs.Findings.{AreFindings}
use Rattle.vdr_rescue.specs.Readings.{AreRead}
use Rattle.vdr_compare.specs.Seconds.{last_second}
use Rattle.vdr_compare.specs.Sides.{Gives}
use Rattle.vdr_compare.specs.Surveys.{IsSurveyOf, SurveyState}

-- The same segments of a medium, wherever its reader stands.
gives_on : (bytes : List ℕ) (c d : CursorState) (given : List Record) → d.area ≡ c.area → d.heads ≡ c.heads → Gives bytes c given → Gives bytes d given
gives_on bytes c d given area heads g = (
  g.0,
  subst (λ (a : Area). AreRead a.segment bytes None 0 d.heads g.0 given) (sym area) (subst (λ (hs : List Head). AreRead c.area.segment bytes None 0 hs g.0 given) (sym heads) g.1),
)

-- A medium a was read to its end, and is b then.
pub surveyed : (m : ℕ) (bytes own : List ℕ) (x : Rescue) (a b : AloneState) (s : SurveyState)
    → ((m : ℕ) (bytes : List ℕ) (a : AloneState) (x : Rescue) → IsAloneOn m bytes a → Rescued m bytes x → (told : List Told) × IsReadThrough bytes a.cursor told x.given)
    → ((m : ℕ) (bytes : List ℕ) (a b : AloneState) (x : Rescue) (given : List Record) (findings : List Finding) → IsAloneOn m bytes a → IsSameMedium a b
    → IsReadThrough bytes a.cursor b.cursor.told given → Rescued m bytes x → AreFindings (account_of b) findings → findings ≡ x.findings)
    → a.config ≡ x.config → IsAloneOn m bytes a → Rescued m bytes x → IsSameMedium a b → own ≡ bytes
    → ((given : List Record) × IsReadThrough own a.cursor b.cursor.told given) → AreFindings (account_of b) s.findings
    → s.cursor ≡ b.cursor → s.seconds ≡ window_of b.config b.cursor.area.medium → s.last_second ≡ last_second x.given → IsSurveyOf m bytes x s
surveyed m bytes own x a b s read found config alone rescued same is through findings cursor seconds last = record {
  gives = gives_on bytes a.cursor s.cursor x.given (ap (λ (c : CursorState). c.area) cursor ∙ same.area) (ap (λ (c : CursorState). c.heads) cursor ∙ same.heads) (read m bytes a x alone rescued);
  seconds = seconds ∙ (λ i. window_of (same.kept i).config (same.area i).medium) ∙ (λ i. window_of (config i) (alone.medium i));
  last_second = last;
  findings = found m bytes a b x through.0 s.findings alone same (subst (λ (l : List ℕ). IsReadThrough l a.cursor b.cursor.told through.0) is through.1) rescued findings;
}
