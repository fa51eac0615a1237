-- How many bytes the records of items take, and those of a close.
use Rattle.std.proofs.Common.{ℕ, zero, suc, ◌+◌, ◌*◌, ◌/◌, ◌≤◌, ℤ, List, [], ◌∷◌, ◌++◌, length, Bool, true, false, All, ◌≡◌, refl, sym, ap, ◌∙◌, arith}
use Rattle.std.proofs.lemmas.List.Elements.{All-head, All-tail}
use Rattle.std.proofs.lemmas.List.Sums.{sum_by-append, sum_by-cons}
use Rattle.vdr_terms.specs.declared.counts.Counts.{Counts}
use Rattle.vdr_terms.specs.Records.{Record, total}
use Rattle.vdr_terms.specs.Sizes.{record_size, records_size}
use Rattle.vdr_terms.specs.Counting.{Pending, with_missed}
use Rattle.vdr_terms.specs.Rates.{Limit}
use Rattle.vdr_core.specs.Runs.{RunStart}
use Rattle.vdr_core.specs.Taken.{Captured}
use Rattle.vdr_core.specs.Recorder.{Recorder, next_in, tick_of, tick_with, gap_unless_none, gap_of, datagram_of, passed, admits, took, taken_all, recorder_after, gaps_below, stop_of, closing}
use Rattle.vdr_core.proofs.Taking.{more_taken}
use Rattle.vdr_durability.specs.Commits.{IsFit, closing_size, item_size, items_size, largest_item, least_item}

gap_size : (start : RunStart) (g place first tick : ℕ) (utc : ℤ) (m : Counts) (k : ℕ) → records_size (gap_unless_none start g place first tick utc m k) ≤ 84
gap_size start g place first tick utc m zero = omega arith
gap_size start g place first tick utc m (suc k) = omega arith

took_size : (start : RunStart) (r : Recorder) (c : Captured) → records_size (took start r c).made ≤ records_size r.made + item_size c
took_size start r c = go (admits start r c)
  where
    waiting : Pending
    waiting = with_missed c.missed (r.pending c.group)

    gap : List Record
    gap = gap_of start c.group (next_in start r.made) (tick_with start r c) c.utc waiting

    datagram : Record
    datagram = datagram_of start c (tick_with start r c) (next_in start r.made + length gap)

    go : (passes : Bool) → records_size (passed passes start c (tick_with start r c) r (with_missed c.missed (r.pending c.group))).made ≤ records_size r.made + item_size c
    go false = omega arith
    go true =
        let a = sum_by-append record_size r.made (gap ++ datagram ∷ []) in
        let b = sum_by-append record_size gap (datagram ∷ []) in
        let d = gap_size start c.group (next_in start r.made) waiting.first (tick_with start r c) c.utc waiting.missed (total waiting.missed) in
        omega (arith, a, b, d)

all_size : (start : RunStart) (r : Recorder) (items : List Captured) → records_size (taken_all start r items).made ≤ records_size r.made + items_size items
all_size start r [] = omega arith
all_size start r (c ∷ items) =
    let a = took_size start r c in
    let b = all_size start (took start r c) items in
    let sum = sum_by-cons item_size c items in
    omega (arith, a, b, sum)

pub made_size : (start : RunStart) (before more : List Captured) (new : List Record)
    → (recorder_after start (before ++ more)).made ≡ (recorder_after start before).made ++ new → records_size new ≤ items_size more
made_size start before more new e =
    let a = all_size start (recorder_after start before) more in
    let b = ap records_size (ap (λ (r : Recorder). r.made) (sym (more_taken start before more)) ∙ e) in
    let c = sum_by-append record_size (recorder_after start before).made new in
    omega (arith, a, b, c)

-- Items that are no longer than what is recorded take at most 1,600 bytes each, and any items 128 at least.
at_most : (limits : ℕ → Limit) (items : List Captured) → All (IsFit limits) items → items_size items ≤ largest_item * length items
at_most limits [] all = omega arith
at_most limits (c ∷ items) all =
    let short = (All-head (IsFit limits) c items all).short in
    let rest = at_most limits items (All-tail (IsFit limits) c items all) in
    let sum = sum_by-cons item_size c items in
    omega (arith, short, rest, sum)

at_least : (items : List Captured) → least_item * length items ≤ items_size items
at_least [] = omega arith
at_least (c ∷ items) =
    let rest = at_least items in
    let sum = sum_by-cons item_size c items in
    omega (arith, rest, sum)

pub few_fit : (limits : ℕ → Limit) (batch : ℕ) (items : List Captured) → All (IsFit limits) items → length items ≤ batch / largest_item → items_size items ≤ batch
few_fit limits batch items all few = let most = at_most limits items all in omega (arith, most, few)

pub fit_few : (batch : ℕ) (items : List Captured) → items_size items ≤ batch → length items ≤ batch / least_item
fit_few batch items fit = let least = at_least items in omega (arith, least, fit)

gaps_size : (start : RunStart) (r : Recorder) (rest : ℕ → Counts) (n : ℕ) → records_size (gaps_below n start r rest) ≤ 84 * n
gaps_size start r rest zero = omega arith
gaps_size start r rest (suc n) =
    let p : Pending = with_missed (rest n) (r.pending n) in
    let place : ℕ = next_in start r.made + length (gaps_below n start r rest) in
    let a = sum_by-append record_size (gaps_below n start r rest) (gap_of start n place (tick_of start r) r.utc p) in
    let b = gap_size start n place p.first (tick_of start r) r.utc p.missed (total p.missed) in
    let c = gaps_size start r rest n in
    omega (arith, a, b, c)

close_size : (start : RunStart) (r : Recorder) (rest : ℕ → Counts) (n : ℕ) (stop : Record) → record_size stop ≡ 44 → records_size (gaps_below n start r rest ++ stop ∷ []) ≤ 84 * n + 44
close_size start r rest n stop e =
    let a = sum_by-append record_size (gaps_below n start r rest) (stop ∷ []) in
    let b = gaps_size start r rest n in
    omega (arith, a, b, e)

pub closes_size : (start : RunStart) (before : List Captured) (rest : ℕ → Counts) → records_size (closing start (recorder_after start before) rest) ≤ closing_size
closes_size start before rest = close_size start (recorder_after start before) rest 16 (stop_of start (recorder_after start before) rest) refl
