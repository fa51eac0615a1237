-- Reading slot after slot.
use Rattle.std.proofs.Common.{◌≡◌, ℕ, suc, ◌+◌, ◌<◌, ◌≤◌, List, [], ◌∷◌, ◌++◌, length, Result, Err, Option, sym, ◌∙◌, ap, subst, arith}
use Rattle.vdr_core.specs.Histories.{Incident}
use Rattle.vdr_outside.specs.Causes.{counted}
use Rattle.vdr_outside.specs.Disk.{Disk, content}
use Rattle.vdr_outside.specs.Parts.{part}
use Rattle.vdr_outside.proofs.Moments.{size_read}
use Rattle.vdr_terms.proofs.Results.{same_err}
use Rattle.vdr_incident.specs.Saves.{IsIncidentSlot}
use Rattle.vdr_incident.specs.Tables.{HasIncidents, HoldsTable, ReadsSlots, counted_slots, place_of}
use Rattle.vdr_incident.proofs.Holding.{holds_none, holds_more}

pub counted_more : (before mid now : List ℕ) (n : ℕ) → mid ≡ counted_slots before n → now ≡ counted mid 1 256 → now ≡ counted_slots before (n + 1)
counted_more before mid now n is more =
    let next : n + 1 ≡ suc n = omega arith in
    more ∙ ap (λ (l : List ℕ). counted l 1 256) is ∙ ap (counted_slots before) (sym next)

pub reads_more : (slots n : ℕ) (before mid now : List ℕ) → n < slots → mid ≡ counted_slots before n → now ≡ counted mid 1 256 → ReadsSlots slots before now
reads_more slots n before mid now lt is more = record { read = n + 1; within = omega (arith, lt); counts = counted_more before mid now n is more }

module _ {tells tells_images : Type 0} (d : Disk tells tells_images) (incidents : HasIncidents d.sizes) (told : tells) where
  medium_long : 32768 ≤ length (content d.reads 1)
  medium_long = omega (arith, size_read d 1 told, incidents.room)

  pub none_read : HoldsTable 0 [] (content d.reads 1)
  none_read = holds_none (content d.reads 1) medium_long

  pub slot_read : (slot : ℕ) (table new : List (Option Incident)) (saved : Option Incident) → slot < 32 → new ≡ table ++ saved ∷ [] → HoldsTable slot table (content d.reads 1) → IsIncidentSlot (part (content d.reads 1) (place_of slot) 256) saved
      → HoldsTable (slot + 1) new (content d.reads 1)
  slot_read slot table new saved few is holds here =
      subst (λ (t : List (Option Incident)). HoldsTable (slot + 1) t (content d.reads 1)) (sym is) (holds_more slot table saved (content d.reads 1) holds (omega (arith, few, medium_long)) here)
