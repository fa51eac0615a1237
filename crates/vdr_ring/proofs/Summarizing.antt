-- A segment of a medium gets its summary, at every moment.
use Rattle.std.proofs.Common.{◌≡◌, ℕ, List, [], ◌∷◌, ◌++◌, length, slice_get, Option, Some, None, Result, OnOk, refl, sym, ap, ◌∙◌, subst, length-set}
use Rattle.std.proofs.lemmas.Result.{on_ok_weaker}
use Rattle.std.proofs.lemmas.List.Elements.{All-contains}
use Rattle.vdr_entry.specs.declared.summary.Summary.{Summary}
use Rattle.vdr_outside.specs.Disk.{Disk}
use Rattle.vdr_outside.specs.Moments.{ChangesOnly, Settled}
use Rattle.vdr_outside.proofs.Moments.{changes_weaken}
use Rattle.vdr_segment.specs.Segments.{Segment, with_summary}
use Rattle.vdr_segment.specs.Slots.{HoldsSlots, HoldsEither, slots_with_summary}
use Rattle.vdr_directory.specs.Sequence.{Placed, AreInSequence}
use Rattle.vdr_directory.specs.Holds.{HoldsPlaced, HoldsAny}
use Rattle.vdr_directory.specs.Leaving.{summarized}
use Rattle.vdr_directory.proofs.Placing.{replace_in_sequence}
use Rattle.vdr_directory.proofs.Behind.{in_the_middle}
use Rattle.vdr_ring.proofs.Freeing.{holds_either, settled_slots, settled_placed}

module _ {tells tells_images : Type 0} (m segment count : ℕ) (older : List Placed) (p : Placed) (rest : List Placed) (slot : ℕ) (s : Summary) (at : p.slot ≡ slot) (none : p.segment.header.summary ≡ None)
    (mid new : Disk tells tells_images) (told : tells) (settled : Settled m (HoldsPlaced segment count (older ++ p ∷ rest)) mid) where
  abbrev before : List Placed
  before = older ++ p ∷ rest

  abbrev after : List Placed
  after = older ++ summarized p s ∷ rest

  abbrev slots : List (Option Segment)
  slots = (settled.reads told).slots

  slots_before : Settled m (HoldsSlots segment slots) mid
  slots_before = settled_slots m segment count before mid settled told

  there : slice_get slots slot ≡ Some (Some p.segment)
  there = ap (λ (j : ℕ). slice_get slots j) (sym at)
      ∙ All-contains (λ p. slice_get slots p.slot ≡ Some (Some p.segment)) before p (settled.reads told).sequence.there (in_the_middle older p rest)

  sequence : AreInSequence (slots_with_summary slots slot p.segment s) after
  sequence = subst (λ (j : ℕ). AreInSequence (slots_with_summary slots j p.segment s) after) at
      (replace_in_sequence slots older p rest (with_summary p.segment (Some s)) refl (settled.reads told).sequence)

  every : length (slots_with_summary slots slot p.segment s) ≡ count
  every = length-set slots slot (Some (with_summary p.segment (Some s))) ∙ (settled.reads told).all_slots

  pub summarized_moments : ((slots : List (Option Segment)) (g : Segment) → Settled m (HoldsSlots segment slots) mid → slice_get slots slot ≡ Some (Some g) → g.header.summary ≡ None
      → ChangesOnly m (HoldsEither segment slots (slots_with_summary slots slot g s)) mid new) → ChangesOnly m (HoldsAny segment count (before ∷ after ∷ [])) mid new
  summarized_moments moments =
      changes_weaken m _ (HoldsAny segment count (before ∷ after ∷ [])) mid new (moments slots p.segment slots_before there none)
      (λ x h. holds_either segment count slots (slots_with_summary slots slot p.segment s) before after x (settled.reads told).sequence sequence (settled.reads told).all_slots every h)

  pub summarized_settled : {T E : Type 0} (result : Result T E)
      → ((slots : List (Option Segment)) (g : Segment) → Settled m (HoldsSlots segment slots) mid → slice_get slots slot ≡ Some (Some g) → g.header.summary ≡ None
      → OnOk result (Settled m (HoldsSlots segment (slots_with_summary slots slot g s)) new))
      → OnOk result (Settled m (HoldsPlaced segment count after) new)
  summarized_settled result settled_now =
      on_ok_weaker result (λ (now : Settled m (HoldsSlots segment (slots_with_summary slots slot p.segment s)) new). settled_placed m segment count (slots_with_summary slots slot p.segment s) after new sequence every now)
      (settled_now slots p.segment slots_before there none)
