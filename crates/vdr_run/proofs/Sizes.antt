-- The records of a run take as many bytes wherever it begins.
use Rattle.std.proofs.Common.{◌≡◌, ◌≤◌, ◌+◌, ◌==◌, ℕ, zero, suc, ℤ, max, List, [], ◌∷◌, ◌++◌, length, Bool, true, false, cond, Option, Some, None, refl, sym, ap, ◌∙◌, subst, arith, ⊎_elim}
use Rattle.std.proofs.lemmas.Bool.{cases_eq, eq-eqb, ne_eqb}
use Rattle.std.proofs.lemmas.List.Sums.{sum_by-append}
use Rattle.vdr_terms.specs.declared.counts.Counts.{Counts}
use Rattle.vdr_terms.specs.Records.{Record, second, total}
use Rattle.vdr_terms.specs.Rates.{Limit, lengths_in, has_room}
use Rattle.vdr_terms.specs.Sizes.{record_size, records_size}
use Rattle.vdr_terms.specs.Counting.{Pending, with_missed, past_datagram, past_refusal}
use Rattle.vdr_core.specs.Runs.{RunStart, Stamp, base_after, base_of}
use Rattle.vdr_core.specs.Taken.{Captured}
use Rattle.vdr_core.specs.Recorder.{Recorder, begun, next_in, gap_unless_none, gap_of, datagram_of, passed, tick_with, admits, took, taken_all, recorder_after}
use Rattle.vdr_core.proofs.Taking.{more_taken}
use Rattle.vdr_meter.proofs.Measured.{lengths_after}
use Rattle.vdr_run.specs.Sizes.{run_by, bytes_of}
use Rattle.vdr_run.proofs.Meters.{gap_alone}

-- The bytes of the Gap of so many missed items.
abbrev pub gap_bytes : ℕ → ℕ
gap_bytes zero = 0
gap_bytes (suc some) = 84

gap_size : (start : RunStart) (g place first tick : ℕ) (utc : ℤ) (m : Counts) (k : ℕ) → records_size (gap_unless_none start g place first tick utc m k) ≡ gap_bytes k
gap_size start g place first tick utc m zero = refl
gap_size start g place first tick utc m (suc k) = refl

-- What an admitted item adds, and a refused one.
pub admitted_size : (start : RunStart) (c : Captured) (tick : ℕ) (r : Recorder) (p : Pending)
    → records_size (passed true start c tick r p).made ≡ records_size r.made + (gap_bytes (total p.missed) + (44 + length c.bytes))
admitted_size start c tick r p =
    let gap : List Record = gap_of start c.group (next_in start r.made) tick c.utc p in
    let datagram : Record = datagram_of start c tick (next_in start r.made + length gap) in
    let a = sum_by-append record_size r.made (gap ++ datagram ∷ []) in
    let b = sum_by-append record_size gap (datagram ∷ []) in
    let d = gap_size start c.group (next_in start r.made) p.first tick c.utc p.missed (total p.missed) in
    omega (arith, a, b, d)

took_more : (start : RunStart) (r : Recorder) (c : Captured) → records_size r.made ≤ records_size (took start r c).made
took_more start r c = go (admits start r c)
  where
    go : (b : Bool) → records_size r.made ≤ records_size (passed b start c (tick_with start r c) r (with_missed c.missed (r.pending c.group))).made
    go false = omega arith
    go true = let a = admitted_size start c (tick_with start r c) r (with_missed c.missed (r.pending c.group)) in omega (arith, a)

all_more : (start : RunStart) (r : Recorder) (items : List Captured) → records_size r.made ≤ records_size (taken_all start r items).made
all_more start r [] = omega arith
all_more start r (c ∷ items) =
    let a = took_more start r c in
    let b = all_more start (took start r c) items in
    omega (arith, a, b)

pub bytes_grow : (limits : ℕ → Limit) (items more : List Captured) → bytes_of limits items ≤ bytes_of limits (items ++ more)
bytes_grow limits items more =
    let a = all_more (run_by limits) (recorder_after (run_by limits) items) more in
    let b = ap (λ (r : Recorder). records_size r.made) (more_taken (run_by limits) items more) in
    omega (arith, a, b)

gap_most : (n : ℕ) → gap_bytes n ≤ 84
gap_most zero = omega arith
gap_most (suc n) = omega arith

took_most : (start : RunStart) (r : Recorder) (c : Captured) → records_size (took start r c).made ≤ records_size r.made + (128 + length c.bytes)
took_most start r c = go (admits start r c)
  where
    go : (b : Bool) → records_size (passed b start c (tick_with start r c) r (with_missed c.missed (r.pending c.group))).made ≤ records_size r.made + (128 + length c.bytes)
    go false = omega arith
    go true =
        let a = admitted_size start c (tick_with start r c) r (with_missed c.missed (r.pending c.group)) in
        let g = gap_most (total (with_missed c.missed (r.pending c.group)).missed) in
        omega (arith, a, g)

pub bytes_most : (limits : ℕ → Limit) (items : List Captured) (c : Captured) → bytes_of limits (items ++ c ∷ []) ≤ bytes_of limits items + (128 + length c.bytes)
bytes_most limits items c =
    let a = ap (λ (r : Recorder). records_size r.made) (more_taken (run_by limits) items (c ∷ [])) in
    let b = took_most (run_by limits) (recorder_after (run_by limits) items) c in
    omega (arith, a, b)

-- A run begins at a whole second.
abbrev whole_seconds : RunStart → ℕ
whole_seconds start = second (base_of start)

at_second : (last : Option Stamp) (n : ℕ) → second (base_after last + n) ≡ second (base_after last) + second n
at_second None n = omega arith
at_second (Some stamp) n = omega arith

same_second : (s m k : ℕ) → (s + m == s + k) ≡ (m == k)
same_second s m k = ⊎_elim
    (λ (e : m ≡ k). eq-eqb (s + m) (s + k) (omega (arith, e)) ∙ sym (eq-eqb m k e))
    (λ ne. ne_eqb (s + m) (s + k) (λ e. ne (omega (arith, e))) ∙ sym (ne_eqb m k ne))
    (cases_eq m k)

-- Two runs of the same items, by the same limits: what the meter of each knows of a second is the same, from the second in which it began.
record Alike (start other : RunStart) (r s : Recorder) : Type 0 where
  greatest : r.greatest ≡ s.greatest
  pending : (g : ℕ) → r.pending g ≡ s.pending g
  size : records_size r.made ≡ records_size s.made
  lengths : (g k : ℕ) → lengths_in g (whole_seconds start + k) r.made ≡ lengths_in g (whole_seconds other + k) s.made

module _ (start other : RunStart) (limits : start.limits ≡ other.limits) where
  module _ (r s : Recorder) (c : Captured) (a : Alike start other r s) where
    abbrev received : ℕ
    received = max r.greatest c.received

    same_received : received ≡ max s.greatest c.received
    same_received = ap (λ (n : ℕ). max n c.received) a.greatest

    lengths_now : lengths_in c.group (second (tick_with start r c)) r.made ≡ lengths_in c.group (second (tick_with other s c)) s.made
    lengths_now =
        ap (λ (k : ℕ). lengths_in c.group k r.made) (at_second start.last received)
        ∙ (a.lengths c.group (second received)
        ∙ ap (λ (k : ℕ). lengths_in c.group k s.made) (ap (λ (n : ℕ). whole_seconds other + second n) same_received ∙ sym (at_second other.last (max s.greatest c.received))))

    same_admits : admits start r c ≡ admits other s c
    same_admits = λ i. has_room (limits i c.group) (lengths_now i) (length c.bytes)

    lengths_of : (start : RunStart) (r : Recorder) (p : Pending) (g k : ℕ)
        → lengths_in g (whole_seconds start + k) (passed true start c (tick_with start r c) r p).made
        ≡ lengths_in g (whole_seconds start + k) r.made ++ cond (c.group == g) (cond (second (max r.greatest c.received) == k) (length c.bytes ∷ []) []) []
    lengths_of start r p g k =
        lengths_after g (whole_seconds start + k) c.group (tick_with start r c) (length c.bytes) r.made _ _
        (gap_alone start c.group _ _ _ _ _ _) (record { kind = refl; group = refl; tick = refl; bytes = refl })
        ∙ ap (λ (b : Bool). lengths_in g (whole_seconds start + k) r.made ++ cond (c.group == g) (cond b (length c.bytes ∷ []) []) [])
        (ap (λ (n : ℕ). n == whole_seconds start + k) (at_second start.last (max r.greatest c.received)) ∙ same_second (whole_seconds start) (second (max r.greatest c.received)) k)

    module _ (p q : Pending) (same : p ≡ q) where
      passed_alike : (b : Bool) → Alike start other (passed b start c (tick_with start r c) r p) (passed b other c (tick_with other s c) s q)
      passed_alike false = record {
        greatest = same_received;
        pending = λ g i. cond (g == c.group) (past_refusal (same i)) (a.pending g i);
        size = a.size;
        lengths = a.lengths;
      }
      passed_alike true = record {
        greatest = same_received;
        pending = λ g i. cond (g == c.group) (past_datagram (same i)) (a.pending g i);
        size = admitted_size start c (tick_with start r c) r p
            ∙ ((λ i. a.size i + (gap_bytes (total (same i).missed) + (44 + length c.bytes))) ∙ sym (admitted_size other c (tick_with other s c) s q));
        lengths = λ g k. lengths_of start r p g k
            ∙ ((λ i. a.lengths g k i ++ cond (c.group == g) (cond (second (same_received i) == k) (length c.bytes ∷ []) []) []) ∙ sym (lengths_of other s q g k));
      }

    took_alike : Alike start other (took start r c) (took other s c)
    took_alike = subst (λ (b : Bool). Alike start other (took start r c) (passed b other c (tick_with other s c) s (with_missed c.missed (s.pending c.group)))) same_admits
        (passed_alike (with_missed c.missed (r.pending c.group)) (with_missed c.missed (s.pending c.group)) (ap (with_missed c.missed) (a.pending c.group)) (admits start r c))

  all_alike : (r s : Recorder) (items : List Captured) → Alike start other r s → Alike start other (taken_all start r items) (taken_all other s items)
  all_alike r s [] a = a
  all_alike r s (c ∷ items) a = all_alike (took start r c) (took other s c) items (took_alike r s c a)

  begun_alike : Alike start other (begun start) (begun other)
  begun_alike = record { greatest = refl; pending = λ g. refl; size = refl; lengths = λ g k. refl }

  pub same_bytes : (items : List Captured) → records_size (recorder_after start items).made ≡ records_size (recorder_after other items).made
  same_bytes items = (all_alike (begun start) (begun other) items begun_alike).size

pub bytes_anywhere : (start : RunStart) (items : List Captured) → records_size (recorder_after start items).made ≡ bytes_of start.limits items
bytes_anywhere start items = same_bytes start (run_by start.limits) refl items
