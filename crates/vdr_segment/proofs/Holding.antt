-- What a medium's slots hold: in one way, slot by slot, and after a write within one.
use Rattle.std.proofs.Common.{◌≡◌, inl, inr, ℕ, ◌+◌, ◌*◌, ◌<◌, ◌≤◌, List, [], ◌∷◌, ◌++◌, length, get_or, set, take, drop, slice_get, Option, None, Some, refl, sym, ◌∙◌, ap, subst, arith, length-drop, length-set, length-take-le}
use Rattle.std.proofs.Math.Nat.{mul-le-mul_right}
use Rattle.std.proofs.lemmas.Bool.{cases_eq}
use Rattle.std.proofs.lemmas.List.{same_lists, set-get_or, take-take, length_push, get_or_push, get_or_append_left}
use Rattle.std.proofs.lemmas.Option.{get_or_from_slice_get, slice_get_within}
use Rattle.vdr_outside.specs.Disk.{over}
use Rattle.vdr_outside.specs.Parts.{part}
use Rattle.vdr_outside.proofs.Bytes.{length-over}
use Rattle.vdr_outside.proofs.Parts.{part_other, slots_over}
use Rattle.vdr_segment.specs.declared.header.Header.{Header}
use Rattle.vdr_segment.specs.Segments.{Segment, IsSlot}
use Rattle.vdr_segment.proofs.SegmentLemmas.{one_header, one_slot}
use Rattle.vdr_segment.specs.Slots.{HoldsSlots, IsFront, header_of, place_of}

-- Slot by slot

pub slot_of : (segment j : ℕ) (slots : List (Option Segment)) (held : Option Segment) (bytes : List ℕ) → HoldsSlots segment slots bytes → slice_get slots j ≡ Some held → IsSlot (part bytes (place_of segment j) segment) held
slot_of segment j slots held bytes holds is =
    subst (λ (s : Option Segment). IsSlot (part bytes (place_of segment j) segment) s) (get_or_from_slice_get slots j held None is) (holds.each.each j None (slice_get_within slots j held is))

-- a slot stands within the medium
pub slot_long : (segment j : ℕ) (slots : List (Option Segment)) (bytes : List ℕ) → HoldsSlots segment slots bytes → j < length slots → length (part bytes (place_of segment j) segment) ≡ segment
slot_long segment j slots bytes holds lt =
    let le : (j + 1) * segment ≤ length slots * segment = mul-le-mul_right segment (omega (arith, lt)) in
    length-take-le segment (drop (place_of segment j) bytes) (omega (arith, le, holds.room, length-drop (place_of segment j) bytes))

pub one_holding : (segment : ℕ) (xs ys : List (Option Segment)) (bytes : List ℕ) → HoldsSlots segment xs bytes → HoldsSlots segment ys bytes → length xs ≡ length ys → xs ≡ ys
one_holding segment xs ys bytes a b same =
    same_lists xs ys same (λ k d lt. one_slot (part bytes (place_of segment k) segment) (get_or xs k d) (get_or ys k d) (a.each.each k d lt) (b.each.each k d (omega (arith, lt, same))))

-- its first bytes
pub front_of : (p : List ℕ) (n : ℕ) (held : Option Segment) → 64 ≤ n → IsSlot (take n p) held → IsFront (take 64 p) (header_of held)
front_of p n held le is = subst (λ (xs : List ℕ). IsFront xs (header_of held)) (take-take 64 n p le) (of_slot (take n p) held is)
  where
    gate_first : (q : List ℕ) → slice_get (take 64 q) 0 ≡ slice_get q 0
    gate_first [] = refl
    gate_first (y ∷ q) = refl

    of_slot : (q : List ℕ) (h : Option Segment) → IsSlot q h → IsFront (take 64 q) (header_of h)
    of_slot q None closed = λ opened. closed (sym (gate_first q) ∙ opened)
    of_slot q (Some s) is = (gate_first q ∙ is.0, is.1.header)

pub front_at : (segment j : ℕ) (slots : List (Option Segment)) (held : Option Segment) (bytes : List ℕ) → HoldsSlots segment slots bytes → slice_get slots j ≡ Some held → 64 ≤ segment → IsFront (part bytes (place_of segment j) 64) (header_of held)
front_at segment j slots held bytes holds is le = front_of (drop (place_of segment j) bytes) segment held le (slot_of segment j slots held bytes holds is)

pub one_front : (bytes : List ℕ) (h k : Option Header) → IsFront bytes h → IsFront bytes k → h ≡ k
one_front bytes None None a b = refl
one_front bytes None (Some k) a b = absurd (a b.0)
one_front bytes (Some h) None a b = absurd (b a.0)
one_front bytes (Some h) (Some k) a b = ap (λ (x : Header). Some x) (one_header bytes h k a.1 b.1)

-- One slot more, as a walk over all of them meets it

pub holds_none : (segment : ℕ) (bytes : List ℕ) → 32768 ≤ length bytes → HoldsSlots segment [] bytes
holds_none segment bytes room = record { room = omega (arith, room); each = record { each = λ j d lt. absurd (omega (arith, lt)) } }

pub holds_more : (segment : ℕ) (slots : List (Option Segment)) (held : Option Segment) (bytes : List ℕ) → HoldsSlots segment slots bytes → place_of segment (length slots) + segment ≤ length bytes
    → IsSlot (part bytes (place_of segment (length slots)) segment) held → HoldsSlots segment (slots ++ held ∷ []) bytes
holds_more segment slots held bytes holds room is = record {
  room = subst (λ (n : ℕ). 32768 + n * segment ≤ length bytes) (sym (length_push slots held)) (omega (arith, room));
  each = record {
    each = λ j d lt. elim (cases_eq j (length slots)) [
      | inl same ↦
          subst (λ (n : ℕ). IsSlot (part bytes (place_of segment n) segment) (get_or (slots ++ held ∷ []) n d)) (sym same)
          (subst (λ (s : Option Segment). IsSlot (part bytes (place_of segment (length slots)) segment) s) (sym (get_or_push slots held d (length slots) refl)) is)
      | inr other ↦
          let within : j < length slots = omega (arith, lt, other, length_push slots held) in
          subst (λ (s : Option Segment). IsSlot (part bytes (place_of segment j) segment) s) (sym (get_or_append_left slots (held ∷ []) d j within)) (holds.each.each j d within)
    ];
  };
}

-- A write

-- within slot j, at k from its beginning
pub holds_over : (segment : ℕ) (slots : List (Option Segment)) (b : List ℕ) (j k at : ℕ) (x : List ℕ) (s : Option Segment) → HoldsSlots segment slots b → j < length slots → at ≡ place_of segment j + k → k + length x ≤ segment
    → IsSlot (over (part b (place_of segment j) segment) k x) s → HoldsSlots segment (set slots j s) (over b at x)
holds_over segment slots b j k at x s holds lt is fits here = record {
  room = subst (λ (n : ℕ). 32768 + n * segment ≤ length (over b at x)) (sym (length-set slots j s)) (omega (arith, holds.room, length-over b at x));
  each = slots_over IsSlot 32768 segment slots b j k at x s holds.each lt is fits here;
}

-- that leaves slot j what it was
pub holds_still : (segment : ℕ) (slots : List (Option Segment)) (b : List ℕ) (j k at : ℕ) (x : List ℕ) (s : Option Segment) → HoldsSlots segment slots b → slice_get slots j ≡ Some s → at ≡ place_of segment j + k → k + length x ≤ segment
    → IsSlot (over (part b (place_of segment j) segment) k x) s → HoldsSlots segment slots (over b at x)
holds_still segment slots b j k at x s holds held is fits here =
    subst (λ (l : List (Option Segment)). HoldsSlots segment l (over b at x)) (ap (λ (o : Option Segment). set slots j o) (sym (get_or_from_slice_get slots j s None held)) ∙ set-get_or slots j None)
    (holds_over segment slots b j k at x s holds (slice_get_within slots j s held) is fits here)

-- behind all slots
pub holds_past : (segment : ℕ) (slots : List (Option Segment)) (b : List ℕ) (at : ℕ) (x : List ℕ) → HoldsSlots segment slots b → 32768 + length slots * segment ≤ at → HoldsSlots segment slots (over b at x)
holds_past segment slots b at x holds behind = record {
  room = omega (arith, holds.room, length-over b at x);
  each = record {
    each = λ i d lt.
        let le : (i + 1) * segment ≤ length slots * segment = mul-le-mul_right segment (omega (arith, lt)) in
        subst (λ (l : List ℕ). IsSlot l (get_or slots i d)) (sym (part_other b (32768 + i * segment) segment at x (inl (omega (arith, le, behind))))) (holds.each.each i d lt);
  };
}
