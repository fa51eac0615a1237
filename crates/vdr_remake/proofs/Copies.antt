-- Segments in slots of one medium, and the slots of another into which they are copied.
use Rattle.std.proofs.Common.{◌≡◌, ◌⊎◌, inl, inr, ◌+◌, ◌*◌, ◌<◌, ◌≤◌, ℕ, zero, suc, List, [], ◌∷◌, ◌++◌, length, map, set, drop, get_or, slice_get, replicate, All, Option, None, Some, refl, sym, ◌∙◌, ap, subst, arith, length-drop, length-take-le}
use Rattle.std.proofs.Math.Nat.{mul-le-mul_right}
use Rattle.std.proofs.lemmas.List.Elements.{All-head, All-tail}
use Rattle.vdr_outside.specs.Disk.{Disk, content, over}
use Rattle.vdr_outside.proofs.Moments.{size_read}
use Rattle.vdr_segment.specs.declared.area.Area.{Area}
use Rattle.vdr_segment.specs.Areas.{HasRoom}
use Rattle.vdr_outside.specs.Parts.{part}
use Rattle.vdr_segment.specs.Segments.{Segment, IsSlot}
use Rattle.vdr_segment.specs.Slots.{HoldsSlots, place_of}
use Rattle.vdr_segment.proofs.Holding.{holds_over, slot_long, slot_of}
use Rattle.vdr_directory.specs.declared.entry.Entry.{Entry}
use Rattle.vdr_directory.specs.Entries.{Describe}
use Rattle.vdr_directory.specs.Holds.{HoldsPlaced}
use Rattle.vdr_directory.specs.Opening.{slot_bytes}
use Rattle.vdr_directory.specs.Sequence.{Placed}
use Rattle.vdr_remake.specs.Copies.{Hold, filled, segment_in}

-- The segments beside the entries

pub hold_drop : (n segment : ℕ) (b : List ℕ) (es : List Entry) (ps : List Placed) → Hold segment b es ps → Hold segment b (drop n es) (drop n ps)
hold_drop zero segment b es ps h = h
hold_drop (suc n) segment b [] [] h = tt
hold_drop (suc n) segment b [] (p ∷ ps) h = absurd h
hold_drop (suc n) segment b (e ∷ es) [] h = absurd h
hold_drop (suc n) segment b (e ∷ es) (p ∷ ps) h = hold_drop n segment b es ps h.1

pub hold_length : (segment : ℕ) (b : List ℕ) (es : List Entry) (ps : List Placed) → Hold segment b es ps → length ps ≡ length es
hold_length segment b [] [] h = refl
hold_length segment b [] (p ∷ ps) h = absurd h
hold_length segment b (e ∷ es) [] h = absurd h
hold_length segment b (e ∷ es) (p ∷ ps) h = ap suc (hold_length segment b es ps h.1)

-- what stands beside the entry of this number
pub record HeldAt (segment : ℕ) (b : List ℕ) (ps : List Placed) (i slot : ℕ) : Type 0 where
  pub here : Placed
  pub at : slice_get ps i ≡ Some here
  pub is : IsSlot (slot_bytes segment slot b) (Some here.segment)

pub hold_at : (segment : ℕ) (b : List ℕ) (es : List Entry) (ps : List Placed) (i : ℕ) (d : Entry) → Hold segment b es ps → i < length es → HeldAt segment b ps i (get_or es i d).slot
hold_at segment b [] ps i d h lt = absurd (omega (arith, lt))
hold_at segment b (e ∷ es) [] i d h lt = absurd h
hold_at segment b (e ∷ es) (p ∷ ps) zero d h lt = record { here = p; at = refl; is = subst (λ (n : ℕ). IsSlot (slot_bytes segment n b) (Some p.segment)) (sym h.0.0) h.0.1 }
hold_at segment b (e ∷ es) (p ∷ ps) (suc i) d h lt =
    let rest = hold_at segment b es ps i d h.1 (omega (arith, lt)) in
    record { here = rest.here; at = rest.at; is = rest.is }

-- what opening described, the slots hold
held_slots : (segment : ℕ) (b : List ℕ) (slots : List (Option Segment)) (ps : List Placed) (es : List Entry) → HoldsSlots segment slots b → All (λ p. slice_get slots p.slot ≡ Some (Some p.segment)) ps → Describe ps es → Hold segment b es ps
held_slots segment b slots [] [] holds there d = tt
held_slots segment b slots [] (e ∷ es) holds there d = absurd d
held_slots segment b slots (p ∷ ps) [] holds there d = absurd d
held_slots segment b slots (p ∷ ps) (e ∷ es) holds there d = (
  (d.0.slot, slot_of segment p.slot slots (Some p.segment) b holds (All-head (λ (q : Placed). slice_get slots q.slot ≡ Some (Some q.segment)) p ps there)),
  held_slots segment b slots ps es holds (All-tail (λ (q : Placed). slice_get slots q.slot ≡ Some (Some q.segment)) p ps there) d.1,
)

pub held : (segment count : ℕ) (b : List ℕ) (ps : List Placed) (es : List Entry) → HoldsPlaced segment count ps b → Describe ps es → Hold segment b es ps
held segment count b ps es h d = held_slots segment b h.slots ps es h.holds h.sequence.there d

-- The first slots of so many hold the first so many of these segments

abbrev pub so_far : (count i : ℕ) → List Placed → List (Option Segment)
so_far zero i ps = []
so_far (suc n) zero ps = None ∷ so_far n zero ps
so_far (suc n) (suc i) [] = None ∷ so_far n i []
so_far (suc n) (suc i) (p ∷ ps) = Some p.segment ∷ so_far n i ps

pub length-so_far : (count i : ℕ) (ps : List Placed) → length (so_far count i ps) ≡ count
length-so_far zero i ps = refl
length-so_far (suc n) zero ps = ap suc (length-so_far n zero ps)
length-so_far (suc n) (suc i) [] = ap suc (length-so_far n i [])
length-so_far (suc n) (suc i) (p ∷ ps) = ap suc (length-so_far n i ps)

pub so_far_none : (count : ℕ) (ps : List Placed) → so_far count 0 ps ≡ replicate count None
so_far_none zero ps = refl
so_far_none (suc n) ps = ap (λ (xs : List (Option Segment)). None ∷ xs) (so_far_none n ps)

pub so_far_more : (count i : ℕ) (ps : List Placed) (p : Placed) → slice_get ps i ≡ Some p → i < count → set (so_far count i ps) i (Some p.segment) ≡ so_far count (suc i) ps
so_far_more zero i ps p at lt = absurd (omega (arith, lt))
so_far_more (suc n) zero [] p at lt = let none : ⊥ = cc in absurd none
so_far_more (suc n) zero (q ∷ ps) p at lt = let same : q ≡ p = cc in ap (λ (x : Placed). Some x.segment ∷ so_far n zero (q ∷ ps)) (sym same) ∙ ap (λ (xs : List (Option Segment)). Some q.segment ∷ xs) (so_far_none n (q ∷ ps) ∙ sym (so_far_none n ps))
so_far_more (suc n) (suc i) [] p at lt = let none : ⊥ = cc in absurd none
so_far_more (suc n) (suc i) (q ∷ ps) p at lt = ap (λ (xs : List (Option Segment)). Some q.segment ∷ xs) (so_far_more n i ps p at (omega (arith, lt)))

so_far_nothing : (count i : ℕ) → so_far count i [] ≡ replicate count None
so_far_nothing zero i = refl
so_far_nothing (suc n) zero = ap (λ (xs : List (Option Segment)). None ∷ xs) (so_far_nothing n zero)
so_far_nothing (suc n) (suc i) = ap (λ (xs : List (Option Segment)). None ∷ xs) (so_far_nothing n i)

pub so_far_all : (count i : ℕ) (ps : List Placed) → length ps ≤ i → length ps ≤ count → so_far count i ps ≡ filled count ps
so_far_all count i [] le room = so_far_nothing count i ∙ ap (λ (n : ℕ). replicate n None) (omega arith)
so_far_all zero i (p ∷ ps) le room = absurd (omega (arith, room))
so_far_all (suc n) zero (p ∷ ps) le room = absurd (omega (arith, le))
so_far_all (suc n) (suc i) (p ∷ ps) le room =
    ap (λ (xs : List (Option Segment)). Some p.segment ∷ xs) (so_far_all n i ps (omega (arith, le)) (omega (arith, room)))
    ∙ ap (λ (k : ℕ). Some p.segment ∷ (map segment_in ps ++ replicate k None)) (omega arith)

pub length-filled : (count : ℕ) (ps : List Placed) → length ps ≤ count → length (filled count ps) ≡ count
length-filled count ps room = ap length (sym (so_far_all count (length ps) ps (omega arith) room)) ∙ length-so_far count (length ps) ps

-- A whole slot is written

pub over_whole : (p x : List ℕ) → length p ≡ length x → over p 0 x ≡ x
over_whole [] [] same = refl
over_whole [] (z ∷ x) same = absurd (omega (arith, same))
over_whole (y ∷ p) [] same = absurd (omega (arith, same))
over_whole (y ∷ p) (z ∷ x) same = ap (λ (xs : List ℕ). z ∷ xs) (over_whole p x (omega (arith, same)))

-- a slot within its medium has its size
pub part_long : (segment count j : ℕ) (b : List ℕ) → 32768 + count * segment ≤ length b → j < count → length (part b (place_of segment j) segment) ≡ segment
part_long segment count j b room lt =
    let le : (j + 1) * segment ≤ count * segment = mul-le-mul_right segment (omega (arith, lt)) in
    length-take-le segment (drop (place_of segment j) b) (omega (arith, le, room, length-drop (place_of segment j) b))

-- the slots of an area stand within what its medium reads as
pub room_read : {tells tells_images : Type 0} (d : Disk tells tells_images) (area : Area) → HasRoom area d.sizes → tells → 32768 + area.slots * area.segment ≤ length (content d.reads area.medium)
room_read d area room told = omega (arith, room.room, size_read d area.medium told)

pub one_more : (segment count i slot : ℕ) (ps : List Placed) (from b now : List ℕ) → HeldAt segment from ps i slot → i < count → length (slot_bytes segment slot from) ≡ segment
    → HoldsSlots segment (so_far count i ps) b → now ≡ over b (place_of segment i) (slot_bytes segment slot from) → HoldsSlots segment (so_far count (suc i) ps) now
one_more segment count i slot ps from b now h lt long holds is =
    let within : i < length (so_far count i ps) = omega (arith, lt, length-so_far count i ps) in
    subst (HoldsSlots segment (so_far count (suc i) ps)) (sym is)
    (subst (λ (xs : List (Option Segment)). HoldsSlots segment xs (over b (place_of segment i) (slot_bytes segment slot from))) (so_far_more count i ps h.here h.at lt)
    (holds_over segment (so_far count i ps) b i 0 (place_of segment i) (slot_bytes segment slot from) (Some h.here.segment) holds within (omega arith) (omega (arith, long))
    (subst (λ (x : List ℕ). IsSlot x (Some h.here.segment)) (sym (over_whole (part b (place_of segment i) segment) (slot_bytes segment slot from) (slot_long segment i (so_far count i ps) b holds within ∙ sym long))) h.is)))

-- the same with the other medium's segments
pub one_more_of : (s t count i slot : ℕ) (ps : List Placed) (from b now : List ℕ) → t ≡ s → HeldAt s from ps i slot → i < count → length (slot_bytes s slot from) ≡ s
    → HoldsSlots t (so_far count i ps) b → now ≡ over b (place_of t i) (slot_bytes s slot from) → HoldsSlots t (so_far count (i + 1) ps) now
one_more_of s t count i slot ps from b now same h lt long =
    subst (λ (n : ℕ). HoldsSlots n (so_far count i ps) b → now ≡ over b (place_of n i) (slot_bytes s slot from) → HoldsSlots n (so_far count (i + 1) ps) now) (sym same)
    (subst (λ (k : ℕ). HoldsSlots s (so_far count i ps) b → now ≡ over b (place_of s i) (slot_bytes s slot from) → HoldsSlots s (so_far count k ps) now) next (one_more s count i slot ps from b now h lt long))
  where
    next : suc i ≡ i + 1
    next = omega arith

-- and as the slot was read after other calls
pub copied_more : (s t count i slot : ℕ) (ps : List Placed) (from mid b now : List ℕ) → now ≡ over b (place_of t i) (slot_bytes s slot mid) → mid ≡ from → t ≡ s → HeldAt s from ps i slot → i < count → length (slot_bytes s slot from) ≡ s
    → HoldsSlots t (so_far count i ps) b → HoldsSlots t (so_far count (i + 1) ps) now
copied_more s t count i slot ps from mid b now is read same h lt long holds =
    one_more_of s t count i slot ps from b now same h lt long holds (is ∙ ap (λ (x : List ℕ). over b (place_of t i) (slot_bytes s slot x)) read)

-- The newest of the entries, with the segments beside them

pub record NewestHeld (n segment count : ℕ) (b : List ℕ) (es : List Entry) (ps : List Placed) : Type 0 where
  pub held : Hold segment b es (drop n ps)
  pub few : length (drop n ps) ≤ count
  pub most : (n ≡ 0) ⊎ (length (drop n ps) ≡ count)

pub newest_held : (n segment count : ℕ) (b : List ℕ) (es kept : List Entry) (ps : List Placed) → Hold segment b es ps → (kept ≡ drop n es) × ((n ≡ 0) ⊎ (length kept ≡ count)) → length kept ≤ count → NewestHeld n segment count b kept ps
newest_held n segment count b es kept ps h newest few =
    let held : Hold segment b kept (drop n ps) = subst (λ (xs : List Entry). Hold segment b xs (drop n ps)) (sym newest.0) (hold_drop n segment b es ps h) in
    let long = hold_length segment b kept (drop n ps) held in
    record {
      held = held;
      few = omega (arith, long, few);
      most = elim newest.1 [ inl none ↦ inl none | inr full ↦ inr (long ∙ full) ];
    }

-- what opening described, as the medium reads after it
pub held_by : (segment count : ℕ) (b now : List ℕ) (ps : List Placed) (es items : List Entry) → now ≡ b → es ≡ items → HoldsPlaced segment count ps b → Describe ps items → Hold segment now es ps
held_by segment count b now ps es items same are h d =
    subst (λ (x : List ℕ). Hold segment x es ps) (sym same) (subst (λ (xs : List Entry). Hold segment b xs ps) (sym are) (held segment count b ps items h d))
