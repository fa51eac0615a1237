-- What the incident slots hold: in one way, slot by slot, and after a write within one.
use Rattle.std.proofs.Common.{◌≡◌, inl, inr, ℕ, ◌+◌, ◌<◌, ◌≤◌, List, [], ◌∷◌, ◌++◌, length, get_or, set, drop, slice_get, Option, None, Some, refl, sym, ◌∙◌, ap, subst, arith, length-drop, length-set, length-take-le}
use Rattle.std.proofs.lemmas.Bool.{cases_eq}
use Rattle.std.proofs.lemmas.List.{same_lists, set-get_or, length_push, get_or_push, get_or_append_left}
use Rattle.std.proofs.lemmas.Option.{get_or_from_slice_get, slice_get_within}
use Rattle.vdr_core.specs.Histories.{Incident}
use Rattle.vdr_outside.specs.Disk.{over}
use Rattle.vdr_outside.specs.Parts.{part}
use Rattle.vdr_outside.proofs.Bytes.{length-over, le_or_gt}
use Rattle.vdr_outside.proofs.Parts.{part_other, slots_over}
use Rattle.vdr_incident.specs.Saves.{IsIncidentSlot}
use Rattle.vdr_incident.specs.Tables.{HoldsTable, SameBesideSlot, Refuses, place_of}
use Rattle.vdr_incident.proofs.Slot.{one_slot}

-- Slot by slot

pub slot_of : (slots j : ℕ) (table : List (Option Incident)) (saved : Option Incident) (bytes : List ℕ) → HoldsTable slots table bytes → slice_get table j ≡ Some saved → IsIncidentSlot (part bytes (place_of j) 256) saved
slot_of slots j table saved bytes holds is =
    subst (λ (s : Option Incident). IsIncidentSlot (part bytes (place_of j) 256) s) (get_or_from_slice_get table j saved None is) (holds.each.each j None (slice_get_within table j saved is))

-- a slot stands within the medium
pub slot_long : (slots j : ℕ) (table : List (Option Incident)) (bytes : List ℕ) → HoldsTable slots table bytes → j < length table → length (part bytes (place_of j) 256) ≡ 256
slot_long slots j table bytes holds lt = length-take-le 256 (drop (place_of j) bytes) (omega (arith, lt, holds.size, holds.room, length-drop (place_of j) bytes))

pub one_table : (slots : ℕ) (xs ys : List (Option Incident)) (bytes : List ℕ) → HoldsTable slots xs bytes → HoldsTable slots ys bytes → xs ≡ ys
one_table slots xs ys bytes a b =
    same_lists xs ys (a.size ∙ sym b.size) (λ k d lt. one_slot (part bytes (place_of k) 256) (get_or xs k d) (get_or ys k d) (a.each.each k d lt) (b.each.each k d (omega (arith, lt, a.size, b.size))))

-- One slot more, as a reader of all of them meets it

pub holds_none : (bytes : List ℕ) → 32768 ≤ length bytes → HoldsTable 0 [] bytes
holds_none bytes room = record { size = refl; room = omega (arith, room); each = record { each = λ j d lt. absurd (omega (arith, lt)) } }

pub holds_more : (slots : ℕ) (table : List (Option Incident)) (saved : Option Incident) (bytes : List ℕ) → HoldsTable slots table bytes → place_of slots + 256 ≤ length bytes
    → IsIncidentSlot (part bytes (place_of slots) 256) saved → HoldsTable (slots + 1) (table ++ saved ∷ []) bytes
holds_more slots table saved bytes holds room is = record {
  size = length_push table saved ∙ omega (arith, holds.size);
  room = omega (arith, room);
  each = record {
    each = λ j d lt. elim (cases_eq j slots) [
      | inl same ↦
          subst (λ (n : ℕ). IsIncidentSlot (part bytes (place_of n) 256) (get_or (table ++ saved ∷ []) n d)) (sym same)
          (subst (λ (s : Option Incident). IsIncidentSlot (part bytes (place_of slots) 256) s) (sym (get_or_push table saved d slots holds.size)) is)
      | inr other ↦
          let within : j < length table = omega (arith, lt, other, length_push table saved, holds.size) in
          subst (λ (s : Option Incident). IsIncidentSlot (part bytes (place_of j) 256) s) (sym (get_or_append_left table (saved ∷ []) d j within)) (holds.each.each j d within)
    ];
  };
}

-- A write

-- within slot j, at k from its beginning
pub holds_over : (slots : ℕ) (table : List (Option Incident)) (b : List ℕ) (j k at : ℕ) (x : List ℕ) (s : Option Incident) → HoldsTable slots table b → j < length table → at ≡ place_of j + k → k + length x ≤ 256
    → IsIncidentSlot (over (part b (place_of j) 256) k x) s → HoldsTable slots (set table j s) (over b at x)
holds_over slots table b j k at x s holds lt is fits here = record {
  size = length-set table j s ∙ holds.size;
  room = omega (arith, holds.room, length-over b at x);
  each = slots_over IsIncidentSlot 4096 256 table b j k at x s holds.each lt is fits here;
}

-- that leaves slot j what it was
pub holds_still : (slots : ℕ) (table : List (Option Incident)) (b : List ℕ) (j k at : ℕ) (x : List ℕ) (s : Option Incident) → HoldsTable slots table b → slice_get table j ≡ Some s → at ≡ place_of j + k → k + length x ≤ 256
    → IsIncidentSlot (over (part b (place_of j) 256) k x) s → HoldsTable slots table (over b at x)
holds_still slots table b j k at x s holds saved is fits here =
    subst (λ (l : List (Option Incident)). HoldsTable slots l (over b at x)) (ap (λ (o : Option Incident). set table j o) (sym (get_or_from_slice_get table j s None saved)) ∙ set-get_or table j None)
    (holds_over slots table b j k at x s holds (slice_get_within table j s saved) is fits here)

-- Beside the slot

pub beside_none : (j : ℕ) (b : List ℕ) → SameBesideSlot j b b
beside_none j b = record { size = refl; same = λ from n apart. refl }

pub beside_over : (j k at : ℕ) (old b x : List ℕ) → SameBesideSlot j old b → at ≡ place_of j + k → k + length x ≤ 256 → SameBesideSlot j old (over b at x)
beside_over j k at old b x beside is fits = record {
  size = length-over b at x ∙ beside.size;
  same = λ from n apart. part_other b from n at x (elim apart [ inl before ↦ inl (omega (arith, before, is)) | inr behind ↦ inr (omega (arith, behind, is, fits)) ]) ∙ beside.same from n apart;
}

-- the first slot that is not legal
pub refuses_here : (slots j offset : ℕ) (table : List (Option Incident)) (bytes : List ℕ) → HoldsTable j table bytes → j < slots → offset ≡ place_of j → ((saved : Option Incident) → IsIncidentSlot (part bytes (place_of j) 256) saved → ⊥) → Refuses slots bytes offset
refuses_here slots j offset table bytes holds lt at none = record { slot = j; within = lt; legal = (table, holds); broken = none; at = at }

pub held_not_refused : (slots offset : ℕ) (table : List (Option Incident)) (bytes : List ℕ) → HoldsTable slots table bytes → Refuses slots bytes offset → ⊥
held_not_refused slots offset table bytes holds r = r.broken (get_or table r.slot None) (holds.each.each r.slot None (omega (arith, r.within, holds.size)))

-- a slot before the first is legal
not_before : (slots k l : ℕ) (bytes : List ℕ) (r : Refuses slots bytes k) (s : Refuses slots bytes l) → r.slot < s.slot → ⊥
not_before slots k l bytes r s lt =
    let holds = s.legal.1 in
    r.broken (get_or s.legal.0 r.slot None) (holds.each.each r.slot None (omega (arith, lt, holds.size)))

pub one_refused : (slots k l : ℕ) (bytes : List ℕ) → Refuses slots bytes k → Refuses slots bytes l → k ≡ l
one_refused slots k l bytes r s = elim (le_or_gt s.slot r.slot) [
  | inl le ↦ elim (le_or_gt r.slot s.slot) [
    | inl ge ↦ omega (arith, r.at, s.at, le, ge)
    | inr gt ↦ absurd (not_before slots l k bytes s r gt)
  ]
  | inr gt ↦ absurd (not_before slots k l bytes r s gt)
]
