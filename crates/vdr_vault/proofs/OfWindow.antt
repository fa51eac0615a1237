-- The first record of a window is the first that is found of it.
use Rattle.std.proofs.Common.{◌≡◌, ◌<◌, ◌-◌, ◌^◌, ℕ, ℤ, Bool, true, false, ◌&&◌, cond, List, [], ◌∷◌, filter, slice_get, option_map, Option, Some, None, Result, Ok, Err, refl, sym, ap, ◌∙◌, subst, arith}
use Rattle.std.specs.Prelude.{All, Contains, int_le, pos, negsuc, unsigned_abs}
use Rattle.std.proofs.Math.Bool.{and-true}
use Rattle.std.proofs.lemmas.Bool.{and_from, le-leb}
use Rattle.std.proofs.lemmas.List.Elements.{All-head, All-tail, All-weaker}
use Rattle.std.proofs.lemmas.Option.{same_Some}
use Rattle.vdr_terms.specs.Legality.{IsRecord}
use Rattle.vdr_terms.specs.Records.{Record, last, second}
use Rattle.vdr_terms.specs.Windows.{in_window, window, window_before}
use Rattle.vdr_terms.specs.Queries.{Query, matches}
use Rattle.vdr_terms.specs.Queries.Span.{Window}
use Rattle.vdr_terms.specs.Queries.Medium.{WindowOf}
use Rattle.vdr_durability.proofs.Lists.{last_contained, none_contained}
use Rattle.vdr_durability.proofs.Retained.{in_the_window}
use Rattle.vdr_durability.specs.Playback.{found}
use Rattle.vdr_directory.specs.Sequence.{Placed, all_records}
use Rattle.vdr_ring.specs.Rings.{RingState, Reads}
use Rattle.vdr_ring.specs.declared.refused.ReadRefused.{ReadRefused}
use Rattle.vdr_ring.specs.declared.refused.ReadRefused.TheVariants.{Damaged}
use Rattle.vdr_ring.proofs.Beginning.{legal_batches}
use Rattle.vdr_outside.specs.Disk.{Disk, content}
use Rattle.vdr_vault.specs.Saves.{first_in_window}
use Rattle.vdr_ring.specs.Walks.{CursorState, AreLeft, GivesNext, slots_read}
use Rattle.vdr_ring.proofs.Walking.{new_left}
use Rattle.vdr_ring.proofs.Records.{all_legal}

-- The records of the long-term medium, whatever their channels and stamps.
abbrev pub everything : Query
everything = record { medium = WindowOf 1; channel = None; from = negsuc (2 ^ 63 - 1); to = pos (2 ^ 63 - 1) }

all_asked : (r : Record) → IsRecord r → matches everything r ≡ true
all_asked r legal =
    let utc = legal.utc in
    let high = utc.in_time in
    let low : int_le everything.from r.utc ≡ true = ap (λ (z : ℤ). int_le everything.from z) utc.whole in
    let least : int_le r.utc everything.to ≡ true = ap (λ (z : ℤ). int_le z everything.to) utc.whole ∙ le-leb (unsigned_abs r.utc) (2 ^ 63 - 1) (omega (arith, high)) in
    and_from _ _ low least

module _ (seconds last_second : ℕ) where
  all_found : (held : List Record) → All (λ r. matches everything r ≡ true) held → filter (λ r. in_window (second r.tick) last_second seconds) held ≡ found everything (Some (Window last_second seconds)) held
  all_found [] h = refl
  all_found (r ∷ rs) h =
      let recent = in_window (second r.tick) last_second seconds in
      let m = All-head (λ r. matches everything r ≡ true) r rs h in
      let rest = all_found rs (All-tail (λ r. matches everything r ≡ true) r rs h) in
      let same : recent ≡ (recent && matches everything r) = sym (and-true recent) ∙ ap (λ (b : Bool). recent && b) (sym m) in
      ap (λ (p : Bool × List Record). cond p.0 (r ∷ p.1) p.1) (λ i. (same i, rest i))

-- The first record that is found is the first of the window.
module _ {tells tells_images : Type 0} (ring : RingState) (disk : Disk tells tells_images) (placed : List Placed) (reads : Reads ring placed disk) (told : tells)
    (seconds last_second : ℕ) (some : 0 < seconds) (newest : Record) (ends : last (all_records placed) ≡ Some newest) (at : second newest.tick ≡ last_second) where
  in_it : Contains (window seconds (all_records placed)) newest
  in_it = in_the_window seconds (all_records placed) newest (record { newest = newest; ends = ends; there = last_contained (all_records placed) newest ends; close = omega (arith, some) })

  window_found : window seconds (all_records placed) ≡ found everything (Some (Window last_second seconds)) (all_records placed)
  window_found =
      ap (λ (o : Option Record). window_before o seconds (all_records placed)) ends
      ∙ ap (λ (n : ℕ). filter (λ r. in_window (second r.tick) n seconds) (all_records placed)) at
      ∙ all_found seconds last_second (all_records placed) (All-weaker IsRecord (λ r. matches everything r ≡ true) all_asked (all_records placed)
      (all_legal placed (legal_batches ring.segment ring.slots placed (content disk.reads ring.medium) (reads.settled.reads told))))

  abbrev Gives : (item : Option Record) (ToCome : List Record → Type 0) → Result Bool ReadRefused → Type 0
  Gives item ToCome result = GivesNext (window seconds (all_records placed)) result item ToCome

  -- The first step of a new cursor.
  module _ (c : CursorState) (fresh : c.standing ≡ None) (item : Option Record) (ToCome : List Record → Type 0) (result : Result Bool ReadRefused)
      (plays : AreLeft (slots_read ring disk) placed everything (Some (Window last_second seconds)) c (window seconds (all_records placed)) → Gives item ToCome result) where
    gives : Gives item ToCome result
    gives = plays (subst (AreLeft (slots_read ring disk) placed everything (Some (Window last_second seconds)) c) (sym window_found)
        (new_left everything (Some (Window last_second seconds)) (slots_read ring disk) placed c fresh))

    pub first_is : (b : Bool) → result ≡ Ok b → b ≡ true → (r : Record) → item ≡ Some r → first_in_window seconds (all_records placed) ≡ Some r.place
    first_is b is so r at = go (subst (Gives item ToCome) (is ∙ ap (λ (b : Bool). Ok b) so) gives)
      where
        go : Gives item ToCome (Ok true) → first_in_window seconds (all_records placed) ≡ Some r.place
        go (x, more, are, here, rest) =
            ap (λ (rs : List Record). option_map (λ r. r.place) (slice_get rs 0)) are ∙ ap (λ (x : Record). Some x.place) (same_Some x r (sym here ∙ at))

    pub never_none : (b : Bool) → result ≡ Ok b → b ≡ false → ⊥
    never_none b is so = none_contained newest (subst (λ (rs : List Record). Contains rs newest) (subst (Gives item ToCome) (is ∙ ap (λ (b : Bool). Ok b) so) gives).0 in_it)

    pub never_damaged : (m offset : ℕ) → result ≡ Err (Damaged m offset) → ⊥
    never_damaged m offset is = subst (Gives item ToCome) is gives
