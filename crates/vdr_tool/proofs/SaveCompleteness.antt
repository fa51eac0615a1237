-- By exclusion: what may be listed, saved or released is, and what may not is refused by its own refusal.
use Rattle.std.proofs.Common.{◌≡◌, inl, inr, ⊎_elim, ℕ, List, Option, Some, None, option_map, refl, sym, ap, subst, ◌∙◌}
use Rattle.vdr_core.specs.Histories.{Event, Incident, live}
use Rattle.vdr_core.specs.Runs.{Stamp}
use Rattle.vdr_opening.specs.Media.{Contents, HoldsContents, HoldsParts, parts_of}
use Rattle.vdr_vault.specs.Vaults.{of_stamp}
use Rattle.vdr_command.specs.Opened.{IfNoIncident, IsOpenableWith, MediaEnds, MetUnsound, OneAnswer, newest_of}
use Rattle.vdr_command.specs.Outside.{MediaSeen}
use Rattle.vdr_tool.specs.Releases.{CanRelease, IsReleaseStatus, ReleasesAll}
use Rattle.vdr_tool.specs.Saves.{CanSave, IfSaveRefused, IsJudged, IsSaveStatus, SavesAll, save_cause}
use Rattle.vdr_command.specs.declared.status.SaveCause.{SaveCause}
use Rattle.vdr_command.specs.declared.status.Status.{Status}
use Rattle.vdr_command.specs.declared.status.Status.TheVariants.{Done, Words, Config, Small, Unformatted, Formatted, Damaged, MediaFault, PortFault, LinkFault, InputFault, OutputFault, NoMemory, Feed, NoChannel, NoIncident, SaveRefused, Place, Tick, ExportKind, ExportNothing, ExportMixed, ExportLong, ExportPart, Capture, NoEvidence, Missing}
use Rattle.vdr_command.proofs.OpenedCompleteness.{damaged_refused, last_read, memory_refused, opened_refused, unformatted_refused}

one_cause : (a b : SaveCause) (found : Option SaveCause) → found ≡ Some a → found ≡ Some b → SaveRefused a ≡ SaveRefused b
one_cause a b found first second = let same : Some a ≡ Some b = sym first ∙ second in cc

no_cause : {P : Type 0} (cause : SaveCause) (found : Option SaveCause) → found ≡ None → found ≡ Some cause → P
no_cause cause found first second = let clash : None ≡ Some cause = sym first ∙ second in let none : ⊥ = cc in absurd none

-- Nothing is live under the id, and something is.
not_both_live : {P : Type 0} (table other : List (Option Incident)) (id : ℕ) (saved : Incident) → table ≡ other → live table id ≡ Some saved → live other id ≡ None → P
not_both_live table other id saved same is none =
    let clash : Some saved ≡ None = sym is ∙ (ap (λ (t : List (Option Incident)). live t id) same ∙ none) in let no_one : ⊥ = cc in absurd no_one

module _ {tells tells_images : Type 0} (old new : MediaSeen tells tells_images) (told : tells) (law : OneAnswer old.disk.reads) (MayBe : List Event → Type 0) where
  -- A save is judged by what was read as by what is held.
  judged_too : (label : List ℕ) (cause : Option SaveCause) (x y : Contents) → HoldsParts old.disk.reads x → HoldsContents old.disk.reads y → IsJudged label cause x → IsJudged label cause y
  judged_too label cause x y holds also judged =
      subst (λ (stamp : Option Stamp). save_cause label (option_map of_stamp stamp) y.table ≡ cause) (last_read old.disk.reads law x y holds also)
      (subst (λ (table : List (Option Incident)). save_cause label (newest_of x) table ≡ cause) (law.table x (parts_of y) holds (law.parts y also)) judged)

  pub saves_all : (label : List ℕ) (status : Status) → (status ≡ OutputFault → ⊥) → (status ≡ MediaFault → ⊥) → IsSaveStatus status
      → MediaEnds (CanSave label) (MetUnsound old.disk new.disk (CanSave label)) MayBe old new status
      → IfSaveRefused status (λ cause. tells → IsOpenableWith old.disk.reads (IsJudged label (Some cause)))
      → SavesAll label old.disk.reads status
  saves_all label Done output media own ends refused =
      let p = ends.openable tt told in
      record {
        refused = opened_refused old.disk.reads law Done p.0 p.1 p.2 p.3;
        cause = λ x cause holds meet is. no_cause cause (save_cause label (newest_of x) x.table) (judged_too label None p.1 x p.2 holds p.4) is;
        done = λ x holds meet recorded can. tt;
      }
  saves_all label Unformatted output media own ends refused =
      let un = (ends.unformatted refl).1 told in
      record {
        refused = unformatted_refused old.disk.reads un;
        cause = λ x cause holds meet is. absurd (law.formatted x holds un);
        done = λ x holds meet recorded can. absurd (law.formatted x holds un);
      }
  saves_all label (Damaged k at) output media own ends refused = ⊎_elim
      (λ opening. let r = opening.1 told in
      record {
        refused = damaged_refused old.disk.reads law k at r.0 r.1;
        cause = λ x cause holds meet is. absurd (law.either x k at holds meet r.1);
        done = λ x holds meet recorded can. absurd (law.either x k at holds meet r.1);
      })
      (λ unsound. let h = unsound told in
      let p = h.0 in
      record {
        refused = opened_refused old.disk.reads law (Damaged k at) p.0 p.1 p.2 p.3;
        cause = λ x cause holds meet is. no_cause cause (save_cause label (newest_of x) x.table) (judged_too label None p.1 x p.2 holds p.4.0) is;
        done = λ x holds meet recorded can. absurd (h.1 x holds recorded);
      })
      ends.damaged
  saves_all label (SaveRefused why) output media own ends refused =
      let h = refused told in
      record {
        refused = opened_refused old.disk.reads law (SaveRefused why) h.0 h.1 h.2 h.3;
        cause = λ x cause holds meet is. inl (one_cause why cause (save_cause label (newest_of x) x.table) (judged_too label (Some why) h.1 x h.2 holds h.4) is);
        done = λ x holds meet recorded can. no_cause why (save_cause label (newest_of x) x.table) can (judged_too label (Some why) h.1 x h.2 holds h.4);
      }
  saves_all label NoMemory output media own ends refused = record {
    refused = memory_refused old.disk.reads;
    cause = λ x cause holds meet is. inr refl;
    done = λ x holds meet recorded can. tt;
  }
  saves_all label MediaFault output media own ends refused = absurd (media refl)
  saves_all label OutputFault output media own ends refused = absurd (output refl)
  saves_all label Words output media own ends refused = absurd own
  saves_all label (Config n) output media own ends refused = absurd own
  saves_all label (Small small) output media own ends refused = absurd own
  saves_all label Formatted output media own ends refused = absurd own
  saves_all label InputFault output media own ends refused = absurd own
  saves_all label (Feed n at) output media own ends refused = absurd own
  saves_all label NoChannel output media own ends refused = absurd own
  saves_all label Place output media own ends refused = absurd own
  saves_all label (PortFault group) output media own ends refused = absurd own
  saves_all label (LinkFault link) output media own ends refused = absurd own
  saves_all label Tick output media own ends refused = absurd own
  saves_all label ExportKind output media own ends refused = absurd own
  saves_all label ExportNothing output media own ends refused = absurd own
  saves_all label (ExportMixed place) output media own ends refused = absurd own
  saves_all label ExportLong output media own ends refused = absurd own
  saves_all label (ExportPart number) output media own ends refused = absurd own
  saves_all label (Missing place) output media own ends refused = absurd own
  saves_all label (Capture number offset) output media own ends refused = absurd own
  saves_all label (NoEvidence named offset) output media own ends refused = absurd own
  saves_all label (NoIncident id) output media own ends refused = absurd own

  pub releases_all : (id : ℕ) (status : Status) → (status ≡ MediaFault → ⊥) → IsReleaseStatus status
      → MediaEnds (CanRelease id) (λ m offset. ⊥) MayBe old new status
      → IfNoIncident status (λ asked. (asked ≡ id) × (tells → IsOpenableWith old.disk.reads (λ x. live x.table id ≡ None)))
      → ReleasesAll id old.disk.reads status
  releases_all id Done media own ends missing =
      let p = ends.openable tt told in
      record {
        refused = opened_refused old.disk.reads law Done p.0 p.1 p.2 p.3;
        incident = λ x holds meet none. not_both_live p.1.table x.table id p.4.0 (law.table p.1 (parts_of x) p.2 (law.parts x holds)) p.4.1 none;
        done = λ x holds meet can. tt;
      }
  releases_all id Unformatted media own ends missing =
      let un = (ends.unformatted refl).1 told in
      record {
        refused = unformatted_refused old.disk.reads un;
        incident = λ x holds meet none. absurd (law.formatted x holds un);
        done = λ x holds meet can. absurd (law.formatted x holds un);
      }
  releases_all id (Damaged k at) media own ends missing = ⊎_elim
      (λ opening. let r = opening.1 told in
      record {
        refused = damaged_refused old.disk.reads law k at r.0 r.1;
        incident = λ x holds meet none. absurd (law.either x k at holds meet r.1);
        done = λ x holds meet can. absurd (law.either x k at holds meet r.1);
      })
      (λ none. absurd none)
      ends.damaged
  releases_all id (NoIncident asked) media own ends missing =
      let h = missing.1 told in
      record {
        refused = opened_refused old.disk.reads law (NoIncident asked) h.0 h.1 h.2 h.3;
        incident = λ x holds meet none. inl (ap (λ (n : ℕ). NoIncident n) missing.0);
        done = λ x holds meet can. not_both_live x.table h.1.table id can.0 (law.table (parts_of x) h.1 (law.parts x holds) h.2) can.1 h.4;
      }
  releases_all id NoMemory media own ends missing = record { refused = memory_refused old.disk.reads; incident = λ x holds meet none. inr refl; done = λ x holds meet can. tt }
  releases_all id MediaFault media own ends missing = absurd (media refl)
  releases_all id OutputFault media own ends missing = absurd own
  releases_all id Words media own ends missing = absurd own
  releases_all id (Config n) media own ends missing = absurd own
  releases_all id (Small small) media own ends missing = absurd own
  releases_all id Formatted media own ends missing = absurd own
  releases_all id InputFault media own ends missing = absurd own
  releases_all id (Feed n at) media own ends missing = absurd own
  releases_all id NoChannel media own ends missing = absurd own
  releases_all id Place media own ends missing = absurd own
  releases_all id (PortFault group) media own ends missing = absurd own
  releases_all id (LinkFault link) media own ends missing = absurd own
  releases_all id Tick media own ends missing = absurd own
  releases_all id ExportKind media own ends missing = absurd own
  releases_all id ExportNothing media own ends missing = absurd own
  releases_all id (ExportMixed place) media own ends missing = absurd own
  releases_all id ExportLong media own ends missing = absurd own
  releases_all id (ExportPart number) media own ends missing = absurd own
  releases_all id (Missing place) media own ends missing = absurd own
  releases_all id (Capture number offset) media own ends missing = absurd own
  releases_all id (NoEvidence named offset) media own ends missing = absurd own
  releases_all id (SaveRefused cause) media own ends missing = absurd own
