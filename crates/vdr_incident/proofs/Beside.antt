-- What is written in one incident slot, or behind all of them, and what stands beside it.
use Rattle.std.proofs.Common.{◌≡◌, ◌⊎◌, inl, inr, ℕ, zero, suc, ◌+◌, ◌*◌, ◌<◌, ◌≤◌, List, [], ◌∷◌, length, get_or, take, drop, slice_get, Option, refl, sym, ◌∙◌, ap, subst, arith}
use Rattle.std.proofs.lemmas.List.{drop-drop, take-take}
use Rattle.vdr_core.specs.Histories.{Incident}
use Rattle.vdr_outside.specs.Parts.{part}
use Rattle.vdr_segment.specs.Segments.{Segment, IsSlot}
use Rattle.vdr_segment.specs.Slots.{HoldsSlots}
use Rattle.vdr_incident.specs.Saves.{IsIncidentSlot}
use Rattle.vdr_incident.specs.Tables.{HoldsTable, SameBesideSlot, place_of}

pub segments_beside : (slot segment : ℕ) (xs : List (Option Segment)) (old new : List ℕ) → slot < 32 → SameBesideSlot slot old new → HoldsSlots segment xs old → HoldsSlots segment xs new
segments_beside slot segment xs old new lt beside holds = record {
  room = omega (arith, beside.size, holds.room);
  each = record {
    each = λ j d within. subst (λ (p : List ℕ). IsSlot p (get_or xs j d)) (sym (beside.same (32768 + j * segment) segment (inr (omega (arith, lt))))) (holds.each.each j d within);
  };
}

byte_of : (bytes : List ℕ) (at : ℕ) → slice_get (part bytes at 1) 0 ≡ slice_get bytes at
byte_of [] zero = refl
byte_of [] (suc at) = refl
byte_of (y ∷ bytes) zero = refl
byte_of (y ∷ bytes) (suc at) = byte_of bytes at

pub byte_beside : (slot at : ℕ) (old new : List ℕ) → SameBesideSlot slot old new → (at < place_of slot) ⊎ (place_of slot + 256 ≤ at) → slice_get new at ≡ slice_get old at
byte_beside slot at old new beside apart =
    let outside : (at + 1 ≤ place_of slot) ⊎ (place_of slot + 256 ≤ at) = elim apart [ inl before ↦ inl (omega (arith, before)) | inr behind ↦ inr behind ] in
    sym (byte_of new at) ∙ ap (λ (p : List ℕ). slice_get p 0) (beside.same at 1 outside) ∙ byte_of old at

part_within : (bytes : List ℕ) (k n m : ℕ) → k + n ≤ m → take n (drop k (take m bytes)) ≡ take n (drop k bytes)
part_within bytes zero n m fits = take-take n m bytes (omega (arith, fits))
part_within [] (suc k) n zero fits = refl
part_within [] (suc k) n (suc m) fits = refl
part_within (y ∷ bytes) (suc k) n zero fits = absurd (omega (arith, fits))
part_within (y ∷ bytes) (suc k) n (suc m) fits = part_within bytes k n m (omega (arith, fits))

-- an incident slot is a part of what stands between the superblock and the configuration
slot_within : (bytes : List ℕ) (j : ℕ) → j < 32 → take 256 (drop (j * 256) (part bytes 4096 8192)) ≡ part bytes (place_of j) 256
slot_within bytes j lt =
    part_within (drop 4096 bytes) (j * 256) 256 8192 (omega (arith, lt))
    ∙ ap (λ (xs : List ℕ). take 256 xs) (drop-drop (j * 256) 4096 bytes)

pub table_beside : (slots : ℕ) (table : List (Option Incident)) (old new : List ℕ) → slots ≤ 32 → length new ≡ length old → part new 4096 8192 ≡ part old 4096 8192 → HoldsTable slots table old → HoldsTable slots table new
table_beside slots table old new few long same holds = record {
  size = holds.size;
  room = omega (arith, holds.room, long);
  each = record {
    each = λ j d within.
        let lt : j < 32 = omega (arith, within, holds.size, few) in
        subst (λ (p : List ℕ). IsIncidentSlot p (get_or table j d)) (sym (slot_within old j lt) ∙ ap (λ (area : List ℕ). take 256 (drop (j * 256) area)) (sym same) ∙ slot_within new j lt) (holds.each.each j d within);
  };
}
