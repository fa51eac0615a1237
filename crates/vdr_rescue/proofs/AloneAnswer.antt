-- One medium alone, and the one answer that it gives.
use Rattle.std.proofs.Common.{◌≡◌, ℕ, List, length, Option, None, ⊎_elim, sym, ap, ◌∙◌, subst}
use Rattle.std.specs.Prelude.{◌↔◌, IsTrue}
use Rattle.vdr_terms.specs.Records.{Record}
use Rattle.vdr_terms.specs.Queries.{Query}
use Rattle.vdr_terms.specs.Slots.{slot_count}
use Rattle.vdr_core.specs.Histories.{Incident}
use Rattle.vdr_config.specs.Configuration.{Configuration}
use Rattle.vdr_config.specs.Sizes.{window_of}
use Rattle.vdr_media.specs.Medium.{IsSuperblock}
use Rattle.vdr_segment.specs.declared.area.Area.{Area}
use Rattle.vdr_opening.specs.Media.{HoldsConfigText}
use Rattle.vdr_rescue.specs.declared.findings.Finding.{Finding}
use Rattle.vdr_rescue.specs.declared.fronts.Head.{Head}
use Rattle.vdr_rescue.specs.declared.told.Told.{Told}
use Rattle.vdr_rescue.specs.Alones.{AloneState, IsAloneOn, IsOfKind, IsReadThrough, IsReadingOrder, IsSameMedium, RefusesAlone, Rescue, Rescued, Selects, account_of, selected_of}
use Rattle.vdr_rescue.specs.Findings.{Account, AreFindings}
use Rattle.vdr_rescue.specs.Fronts.{AreFronts, FrontsState}
use Rattle.vdr_rescue.specs.Readings.{AreRead}
use Rattle.vdr_rescue.specs.Saves.{AreSaves, SavesState, saved_slots}
use Rattle.vdr_rescue.specs.Visiting.{selected_by}
use Rattle.vdr_rescue.proofs.OneAnswer.{one_configuration, one_findings, one_fronts, one_reading, one_saves, one_test}
use Rattle.vdr_rescue.proofs.SortLemmas.{one_order}

pub as_refused : (m offset : ℕ) (bytes : List ℕ) (c : Configuration) → IsOfKind m bytes → HoldsConfigText c bytes → RefusesAlone m bytes offset → ⊥
as_refused m offset bytes c kind holds r = ⊎_elim
    (λ (k : (IsOfKind m bytes → ⊥) × (offset ≡ 0)). k.0 kind)
    (λ (k : IsOfKind m bytes × ((d : Configuration) → HoldsConfigText d bytes → ⊥) × (offset ≡ 12288)). k.1 c holds)
    r

pub one_refusal : (m p q : ℕ) (bytes : List ℕ) → RefusesAlone m bytes p → RefusesAlone m bytes q → p ≡ q
one_refusal m p q bytes r s = ⊎_elim
    (λ (k : (IsOfKind m bytes → ⊥) × (p ≡ 0)). ⊎_elim
    (λ (l : (IsOfKind m bytes → ⊥) × (q ≡ 0)). k.1 ∙ sym l.1)
    (λ (l : IsOfKind m bytes × ((d : Configuration) → HoldsConfigText d bytes → ⊥) × (q ≡ 12288)). absurd (k.0 l.0))
    s)
    (λ (k : IsOfKind m bytes × ((d : Configuration) → HoldsConfigText d bytes → ⊥) × (p ≡ 12288)). ⊎_elim
    (λ (l : (IsOfKind m bytes → ⊥) × (q ≡ 0)). absurd (l.0 k.0))
    (λ (l : IsOfKind m bytes × ((d : Configuration) → HoldsConfigText d bytes → ⊥) × (q ≡ 12288)). k.2 ∙ sym l.2)
    s)
    r

module _ (m : ℕ) (bytes : List ℕ) (a : AloneState) (x : Rescue) (h : IsAloneOn m bytes a) (k : Rescued m bytes x) where
  config : a.config ≡ x.config
  config = one_configuration a.config x.config bytes h.config k.config

  saves : a.saves ≡ k.saves
  saves = one_saves bytes (saved_slots m x.config) a.saves k.saves (subst (λ (c : Configuration). AreSaves bytes (saved_slots m c) a.saves) config h.saves) k.saved

  fronts : h.fronts ≡ k.fronts
  fronts = one_fronts x.config.segment bytes (slot_count x.config.segment (length bytes)) h.fronts k.fronts
      (subst (λ (c : Configuration). AreFronts c.segment bytes (slot_count c.segment (length bytes)) h.fronts) config h.are) k.are

  order : a.cursor.heads ≡ k.order
  order = one_order k.fronts.heads a.cursor.heads k.order (subst (λ (f : FrontsState). IsReadingOrder f.heads a.cursor.heads) fronts h.order) k.sorted

  segment : a.cursor.area.segment ≡ x.config.segment
  segment = h.segment ∙ ap (λ (c : Configuration). c.segment) config

  pub same_answer : (a.config ≡ x.config) × (a.saves.table ≡ x.table)
  same_answer = (config, ap (λ (s : SavesState). s.table) saves ∙ sym k.table)

  read_here : IsReadThrough bytes a.cursor k.told x.given
  read_here = subst (λ (n : ℕ). AreRead n bytes None 0 a.cursor.heads k.told x.given) (sym segment) (subst (λ (hs : List Head). AreRead x.config.segment bytes None 0 hs k.told x.given) (sym order) k.read)

  pub selects_here : (query : Query) → Selects bytes a query (selected_of x query)
  selects_here query = record {
    told = k.told;
    given = x.given;
    read = read_here;
    are = ap (λ (t : List (Option Incident)). selected_by t query x.given) (k.table ∙ sym (ap (λ (s : SavesState). s.table) saves));
  }

  legal : a.legal ≡ k.legal
  legal = one_test (IsSuperblock m x.config.segment bytes) a.legal k.legal (subst (λ (c : Configuration). IsTrue a.legal ↔ IsSuperblock m c.segment bytes) config h.legal) k.superblock

  pub found_here : (b : AloneState) (given : List Record) (findings : List Finding) → IsSameMedium a b → IsReadThrough bytes a.cursor b.cursor.told given → AreFindings (account_of b) findings → findings ≡ x.findings
  found_here b given findings same read found =
      let told : b.cursor.told ≡ k.told = (one_reading a.cursor.area.segment bytes None 0 a.cursor.heads b.cursor.told k.told given x.given read read_here).0 in
      one_findings _ findings x.findings (subst (λ (y : Account). AreFindings y findings) (λ i. record {
        segment = (ap (λ (y : Area). y.segment) same.area ∙ segment) i;
        slots = (ap (λ (y : Area). y.slots) same.area ∙ h.slots ∙ ap (λ (c : Configuration). slot_count c.segment (length bytes)) config) i;
        legal = (ap (λ (s : AloneState). s.legal) same.kept ∙ legal) i;
        bad = (ap (λ (s : AloneState). s.saves.bad) same.kept ∙ ap (λ (s : SavesState). s.bad) saves) i;
        torn = (ap (λ (s : AloneState). s.torn) same.kept ∙ h.torn ∙ ap (λ (f : FrontsState). f.torn) fronts) i;
        headless = (ap (λ (s : AloneState). s.headless) same.kept ∙ h.headless ∙ ap (λ (f : FrontsState). f.headless) fronts) i;
        closed = (ap (λ (s : AloneState). s.closed) same.kept ∙ h.closed ∙ ap (λ (f : FrontsState). f.closed) fronts) i;
        last_closed = (ap (λ (s : AloneState). s.last_closed) same.kept ∙ h.last_closed ∙ ap (λ (f : FrontsState). f.last_closed) fronts) i;
        heads = (same.heads ∙ order) i;
        told = told i;
        seconds = (ap (λ (s : AloneState). window_of s.config b.cursor.area.medium) same.kept ∙ ap (λ (c : Configuration). window_of c b.cursor.area.medium) config
            ∙ ap (λ (n : ℕ). window_of x.config n) (ap (λ (y : Area). y.medium) same.area ∙ h.medium)) i;
        pins = (ap (λ (s : AloneState). s.saves.pins) same.kept ∙ ap (λ (s : SavesState). s.pins) saves) i;
      }) found) k.findings

pub selects_given : (m : ℕ) (bytes : List ℕ) (a : AloneState) (x : Rescue) (query : Query) → IsAloneOn m bytes a → Rescued m bytes x → Selects bytes a query (selected_of x query)
selects_given m bytes a x query h k = selects_here m bytes a x h k query

pub found_once : (m : ℕ) (bytes : List ℕ) (a b : AloneState) (x : Rescue) (given : List Record) (findings : List Finding) → IsAloneOn m bytes a → IsSameMedium a b
    → IsReadThrough bytes a.cursor b.cursor.told given → Rescued m bytes x → AreFindings (account_of b) findings → findings ≡ x.findings
found_once m bytes a b x given findings h same read k found = found_here m bytes a x h k b given findings same read found

pub reads_given : (m : ℕ) (bytes : List ℕ) (a : AloneState) (x : Rescue) → IsAloneOn m bytes a → Rescued m bytes x → (told : List Told) × IsReadThrough bytes a.cursor told x.given
reads_given m bytes a x h k = (k.told, read_here m bytes a x h k)
