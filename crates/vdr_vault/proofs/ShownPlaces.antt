-- Places on a medium are low enough for the next one.
use Rattle.std.proofs.Common.{◌≡◌, ◌+◌, ◌-◌, ◌^◌, ◌<◌, ℕ, ℤ, min, List, drop, All, Option, Some, None, option_map, refl, sym, ap, ◌∙◌, subst, arith}
use Rattle.std.proofs.lemmas.Option.{same_Some}
use Rattle.std.proofs.lemmas.List.Elements.{All-contains, All-nil, All-weaker}
use Rattle.vdr_terms.specs.Records.{Record, last}
use Rattle.vdr_terms.specs.Legality.{IsRecord}
use Rattle.vdr_durability.proofs.Lists.{last_contained}
use Rattle.vdr_core.specs.Histories.{stamp_of}
use Rattle.vdr_durability.specs.Readings.{next_after}
use Rattle.vdr_entry.specs.declared.summary.Summary.{Summary}
use Rattle.vdr_segment.specs.Batches.{IsBatch}
use Rattle.vdr_directory.specs.Sequence.{Placed, all_records, batches_of}
use Rattle.vdr_directory.specs.Opening.{AreBatchesRead, AreKnown, slot_bytes}
use Rattle.vdr_directory.specs.Holds.{HoldsPlaced}
use Rattle.vdr_ring.proofs.Beginning.{legal_batches}
use Rattle.vdr_vault.specs.Vaults.{of_stamp, tick_utc}
use Rattle.vdr_ring.proofs.Records.{all_legal}

next_low : (placed : List Placed) → All (λ p. All IsBatch (batches_of p)) placed → next_after (last (all_records placed)) < 2 ^ 64
next_low placed legal = go (last (all_records placed)) refl
  where
    go : (o : Option Record) → last (all_records placed) ≡ o → next_after o < 2 ^ 64
    go None e = omega arith
    go (Some r) e = let low = (All-contains IsRecord (all_records placed) r (all_legal placed legal) (last_contained (all_records placed) r e)).place in omega (arith, low)

pub next_is_low : (segment count : ℕ) (placed : List Placed) (bytes : List ℕ) → HoldsPlaced segment count placed bytes → next_after (last (all_records placed)) < 2 ^ 64
next_is_low segment count placed bytes holds = next_low placed (legal_batches segment count placed bytes holds)

-- The batches that opening reads are legal.
legal_read : (s : Option Summary) (bytes : List ℕ) (batches : List (List Record)) → AreBatchesRead s bytes batches → All IsBatch batches
legal_read None bytes batches are = are.legal
legal_read (Some s) bytes batches are = subst (All IsBatch) (sym are) (All-nil IsBatch)

pub next_known_low : (segment count : ℕ) (known : List Placed) (bytes : List ℕ) → AreKnown segment count bytes known → next_after (last (all_records known)) < 2 ^ 64
next_known_low segment count known bytes are = next_low known
    (All-weaker (λ p. AreBatchesRead p.segment.header.summary (drop 64 (slot_bytes segment p.slot bytes)) p.segment.batches) (λ p. All IsBatch (batches_of p))
    (λ p. legal_read p.segment.header.summary (drop 64 (slot_bytes segment p.slot bytes)) p.segment.batches) known are.batches)

-- What a ring tells of its last record gives the next place.
pub next_is : (o : Option Record) (told : Option (ℕ × ℕ × ℤ)) (place tick : ℕ) (utc : ℤ) (result : ℕ) → told ≡ option_map (λ r. (r.place, r.tick, r.utc)) o → told ≡ Some (place, tick, utc)
    → result ≡ min (place + 1) (2 ^ 64 - 1) → next_after o < 2 ^ 64 → result ≡ next_after o
next_is None told place tick utc result e f is low = cc
next_is (Some r) told place tick utc result e f is low = let same : place ≡ r.place = ap (λ (x : ℕ × ℕ × ℤ). x.0) (same_Some (place, tick, utc) (r.place, r.tick, r.utc) (sym f ∙ e)) in omega (arith, is, low, same)

-- Tick and stamp of the last record.
pub stamp_told : (o : Option Record) → option_map tick_utc o ≡ option_map of_stamp (stamp_of o None)
stamp_told None = refl
stamp_told (Some r) = refl
