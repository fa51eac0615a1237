-- What stands before the slots of one medium alone.
use Rattle.std.proofs.Common.{◌≡◌, ◌-◌, ◌≤◌, ◌∷◌, ℕ, Bool, true, List, [], length, take, drop, refl, sym, ap, ◌∙◌, subst, arith, take-take}
use Rattle.std.specs.Prelude.{◌↔◌, IsTrue, bytes_eq, not}
use Rattle.std.proofs.lemmas.List.{take_rest}
use Rattle.vdr_terms.specs.Slots.{slot_count}
use Rattle.vdr_media.specs.Layout.{superblock_bytes}
use Rattle.vdr_opening.specs.Parts.{SaysSegment}
use Rattle.vdr_media.specs.Medium.{IsSuperblock}
use Rattle.vdr_outside.specs.Parts.{part}
use Rattle.vdr_opening.proofs.Fronts.{differ, is_superblock, says_front}
use Rattle.vdr_config.specs.Configuration.{Configuration}
use Rattle.vdr_segment.specs.declared.area.Area.{Area}
use Rattle.vdr_opening.specs.Media.{HoldsConfigText}
use Rattle.vdr_rescue.specs.Alones.{AloneState, IsAloneOn, IsOfKind, IsReadingOrder, kind_bytes}
use Rattle.vdr_rescue.specs.Fronts.{AreFronts, FrontsState}
use Rattle.vdr_rescue.specs.Saves.{AreSaves, SavesState, saved_slots}

pub not_said : (m size segment slots : ℕ) (bytes legal : List ℕ) (r : Bool) → slots ≡ slot_count segment size → legal ≡ superblock_bytes m size segment slots
    → r ≡ not (bytes_eq (take (length bytes - 1) (drop 1 bytes)) legal) → r ≡ true → SaysSegment m size segment bytes → ⊥
not_said m size segment slots bytes legal r counted is_legal compared differs s =
    differ (take (length bytes - 1) (drop 1 bytes)) legal r compared differs (take_rest bytes 1 ∙ s.fields ∙ sym (is_legal ∙ ap (λ (n : ℕ). superblock_bytes m size segment n) counted))

module _ (m : ℕ) (b bytes : List ℕ) (first : bytes ≡ take 23 b) where
  front_fields : (b : List ℕ) → drop 1 (take 23 b) ≡ take 22 (drop 1 b)
  front_fields [] = refl
  front_fields (x ∷ b) = refl

  kind_part : take 6 (drop 1 bytes) ≡ part b 1 6
  kind_part = ap (λ (l : List ℕ). take 6 (drop 1 l)) first ∙ ap (λ (l : List ℕ). take 6 l) (front_fields b) ∙ take-take 6 22 (drop 1 b) (omega arith)

  pub kind_here : 32768 ≤ length b → take 6 (drop 1 bytes) ≡ kind_bytes m → IsOfKind m b
  kind_here room is = record { room = room; kind = sym kind_part ∙ is }

  pub other_kind : (take 6 (drop 1 bytes) ≡ kind_bytes m → ⊥) → IsOfKind m b → ⊥
  other_kind none k = none (kind_part ∙ k.kind)

  pub legal_by : (size segment : ℕ) (r : Bool) → length b ≡ size → 32768 ≤ size → IsTrue r ↔ SaysSegment m size segment bytes → IsTrue r ↔ IsSuperblock m segment b
  legal_by size segment r whole room says = (
    λ t. is_superblock m size segment b bytes first whole room (says.0 t),
    λ s. says.1 (says_front m size segment b bytes first whole s),
  )

-- What was read of a medium is put together

pub opened_alone : (m : ℕ) (b : List ℕ) (config : Configuration) (area : Area) (saves : SavesState) (fronts : FrontsState) (legal : Bool) (a : AloneState)
    → IsOfKind m b → HoldsConfigText config b → IsTrue legal ↔ IsSuperblock m config.segment b
    → area.medium ≡ m → area.segment ≡ config.segment → area.slots ≡ slot_count config.segment (length b)
    → AreSaves b (saved_slots m config) saves → AreFronts area.segment b area.slots fronts
    → a.config ≡ config → a.legal ≡ legal → a.saves ≡ saves → a.cursor.area ≡ area → IsReadingOrder fronts.heads a.cursor.heads
    → (a.torn ≡ fronts.torn) × (a.headless ≡ fronts.headless) × (a.closed ≡ fronts.closed) × (a.last_closed ≡ fronts.last_closed) → IsAloneOn m b a
opened_alone m b config area saves fronts legal a kind holds superblock medium segment slots saved are is_config is_legal is_saves is_area order shown = record {
  kind = kind;
  config = subst (λ (x : Configuration). HoldsConfigText x b) (sym is_config) holds;
  legal = subst (λ (x : Configuration). IsTrue a.legal ↔ IsSuperblock m x.segment b) (sym is_config) (subst (λ (r : Bool). IsTrue r ↔ IsSuperblock m config.segment b) (sym is_legal) superblock);
  medium = ap (λ (x : Area). x.medium) is_area ∙ medium;
  segment = ap (λ (x : Area). x.segment) is_area ∙ segment ∙ sym (ap (λ (x : Configuration). x.segment) is_config);
  slots = ap (λ (x : Area). x.slots) is_area ∙ slots ∙ sym (ap (λ (x : Configuration). slot_count x.segment (length b)) is_config);
  saves = subst (λ (x : Configuration). AreSaves b (saved_slots m x) a.saves) (sym is_config) (subst (AreSaves b (saved_slots m config)) (sym is_saves) saved);
  fronts = fronts;
  are = subst (λ (x : Configuration). AreFronts x.segment b (slot_count x.segment (length b)) fronts) (sym is_config)
      (subst (λ (n : ℕ). AreFronts config.segment b n fronts) slots (subst (λ (n : ℕ). AreFronts n b area.slots fronts) segment are));
  order = order;
  torn = shown.0;
  headless = shown.1;
  closed = shown.2;
  last_closed = shown.3;
}
