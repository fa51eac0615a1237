-- What the records of a run add up to.
use Rattle.std.proofs.Common.{◌≡◌, ◌≤◌, ◌<◌, ◌+◌, ℕ, zero, suc, ℤ, List, [], ◌∷◌, ◌++◌, length, Bool, true, false, cond, ◌&&◌, ◌==◌, refl, sym, ap, ◌∙◌, subst, arith, ⊎_elim, append-nil, append_assoc, length-append}
use Rattle.std.proofs.lemmas.Bool.{cases_eq, eq-eqb, ne_eqb, cond-true, cond-false}
use Rattle.std.proofs.lemmas.List.Elements.{filter-append}
use Rattle.vdr_terms.specs.declared.counts.Counts.{Counts}
use Rattle.vdr_terms.specs.Records.{Content, Record, none_missed, total, is_datagram, has_items, records_of, datagrams_of}
use Rattle.vdr_terms.specs.Records.Content.{Stop}
use Rattle.vdr_terms.specs.Counting.{Pending, merged, with_missed, one_rate, past_datagram, past_refusal}
use Rattle.vdr_core.specs.Runs.{RunStart}
use Rattle.vdr_core.specs.Taken.{Captured, of_group}
use Rattle.vdr_core.specs.Recorder.{Recorder, begun, next_in, tick_of, tick_with, gap_unless_none, gap_of, datagram_of, with_pending, passed, admits, took, taken_all, recorder_after, gaps_below}
use Rattle.vdr_core.specs.Sums.{missed_of, sum_counts, missed_in, recorded_in, missed_before, counted_by, AddsUp}
use Rattle.vdr_core.proofs.Feeding.{counts_path}
use Rattle.vdr_core.proofs.Lanes.{gap_own, gap_other, gap_no_data}
use Rattle.vdr_core.proofs.Gaps.{own_gap, no_gap}
use Rattle.vdr_core.proofs.Counted.{length_snoc}
use Rattle.vdr_core.proofs.Counts.{merged_none, none_merged, merged_assoc, all_zero, sum_append, sum_one, sum_if}

pub missed_append : (g : ℕ) (xs ys : List Record) → missed_in g (xs ++ ys) ≡ merged (missed_in g xs) (missed_in g ys)
missed_append g xs ys =
    ap (sum_counts (λ (r : Record). missed_of r.content)) (filter-append (λ (r : Record). has_items r.content && r.group == g) xs ys)
    ∙ sum_append (λ (r : Record). missed_of r.content) (records_of g xs) (records_of g ys)

pub recorded_append : (g : ℕ) (xs ys : List Record) → recorded_in g (xs ++ ys) ≡ recorded_in g xs + recorded_in g ys
recorded_append g xs ys =
    ap (λ (rs : List Record). length rs) (filter-append (λ (r : Record). is_datagram r.content && r.group == g) xs ys)
    ∙ length-append (datagrams_of g xs) (datagrams_of g ys)

-- a Gap says what was missed, also where nothing was and there is none
gap_sum : (start : RunStart) (g place first tick : ℕ) (utc : ℤ) (missed : Counts) (k : ℕ) → k ≡ total missed
    → sum_counts (λ (r : Record). missed_of r.content) (gap_unless_none start g place first tick utc missed k) ≡ missed
gap_sum start g place first tick utc missed zero e = sym (all_zero missed (sym e))
gap_sum start g place first tick utc missed (suc k) e = none_merged missed

gap_missed : (start : RunStart) (g place first tick : ℕ) (utc : ℤ) (missed : Counts) (k : ℕ) → k ≡ total missed → missed_in g (gap_unless_none start g place first tick utc missed k) ≡ missed
gap_missed start g place first tick utc missed k e =
    ap (sum_counts (λ (r : Record). missed_of r.content)) (gap_own start g place first tick utc missed k) ∙ gap_sum start g place first tick utc missed k e

gap_misses_none : (start : RunStart) (g place first tick : ℕ) (utc : ℤ) (missed : Counts) (k h : ℕ) → (g ≡ h → ⊥) → missed_in h (gap_unless_none start g place first tick utc missed k) ≡ none_missed
gap_misses_none start g place first tick utc missed k h ne = ap (sum_counts (λ (r : Record). missed_of r.content)) (gap_other start g place first tick utc missed k h ne)

gap_records_none : (start : RunStart) (g place first tick : ℕ) (utc : ℤ) (missed : Counts) (k h : ℕ) → recorded_in h (gap_unless_none start g place first tick utc missed k) ≡ 0
gap_records_none start g place first tick utc missed k h = ap (λ (rs : List Record). length rs) (gap_no_data start g place first tick utc missed k h)

refused_counts : (made waiting missed : Counts) → merged made (one_rate (merged waiting missed)) ≡ merged (merged made waiting) (one_rate missed)
refused_counts made waiting missed = counts_path (merged made (one_rate (merged waiting missed))) (merged (merged made waiting) (one_rate missed)) (omega arith) (omega arith) (omega arith) (omega arith)

-- what one more item adds
module _ (start : RunStart) (r : Recorder) (c : Captured) where
  abbrev pending_with : Pending
  pending_with = with_missed c.missed (r.pending c.group)

  abbrev tick : ℕ
  tick = tick_with start r c

  abbrev gap : List Record
  gap = gap_of start c.group (next_in start r.made) tick c.utc pending_with

  abbrev datagram : Record
  datagram = datagram_of start c tick (next_in start r.made + length gap)

  abbrev after : Bool → Recorder
  after passes = passed passes start c tick r pending_with

  datagram_missed : (g : ℕ) → missed_in g (gap ++ datagram ∷ []) ≡ missed_in g gap
  datagram_missed g = missed_append g gap (datagram ∷ [])
      ∙ (ap (merged (missed_in g gap)) (sum_if (λ (r : Record). missed_of r.content) datagram (c.group == g) refl) ∙ merged_none (missed_in g gap))

  made_missed : (g : ℕ) → missed_in g (after true).made ≡ merged (missed_in g r.made) (missed_in g gap)
  made_missed g = missed_append g r.made (gap ++ datagram ∷ []) ∙ ap (merged (missed_in g r.made)) (datagram_missed g)

  made_recorded : (g : ℕ) → recorded_in g (after true).made ≡ recorded_in g r.made + length (cond (c.group == g) (datagram ∷ []) [])
  made_recorded g =
      let a = recorded_append g r.made (gap ++ datagram ∷ []) in
      let b = recorded_append g gap (datagram ∷ []) in
      let d = gap_records_none start c.group (next_in start r.made) pending_with.first tick c.utc pending_with.missed (total pending_with.missed) g in
      omega (arith, a, b, d)

  pending_own : (p : Pending) → with_pending r.pending c.group p c.group ≡ p
  pending_own p = cond-true (c.group == c.group) p (r.pending c.group) (eq-eqb c.group c.group refl)

  pending_other : (g : ℕ) (p : Pending) → (c.group ≡ g → ⊥) → with_pending r.pending c.group p g ≡ r.pending g
  pending_other g p ne = cond-false (g == c.group) p (r.pending g) (ne_eqb g c.group (λ e. ne (sym e)))

  pub own_counted : (passes : Bool) → counted_by (after passes) c.group ≡ merged (counted_by r c.group) (cond passes c.missed (one_rate c.missed))
  own_counted true =
      let before : Counts = missed_in c.group r.made in
      let waiting : Counts = (r.pending c.group).missed in
      ap (λ (m : Counts). merged m (with_pending r.pending c.group (past_datagram pending_with) c.group).missed)
      (made_missed c.group ∙ ap (merged before) (gap_missed start c.group (next_in start r.made) pending_with.first tick c.utc pending_with.missed (total pending_with.missed) refl))
      ∙ (ap (λ (p : Pending). merged (merged before (merged waiting c.missed)) p.missed) (pending_own (past_datagram pending_with))
      ∙ (merged_none (merged before (merged waiting c.missed)) ∙ sym (merged_assoc before waiting c.missed)))
  own_counted false =
      ap (λ (p : Pending). merged (missed_in c.group r.made) p.missed) (pending_own (past_refusal pending_with))
      ∙ refused_counts (missed_in c.group r.made) (r.pending c.group).missed c.missed

  pub own_recorded : (passes : Bool) → recorded_in c.group (after passes).made ≡ recorded_in c.group r.made + cond passes 1 0
  own_recorded true = made_recorded c.group
      ∙ ap (λ (n : ℕ). recorded_in c.group r.made + n) (ap (λ (rs : List Record). length rs) (cond-true (c.group == c.group) (datagram ∷ []) [] (eq-eqb c.group c.group refl)))
  own_recorded false = omega arith

  pub other_counted : (g : ℕ) → (c.group ≡ g → ⊥) → (passes : Bool) → counted_by (after passes) g ≡ counted_by r g
  other_counted g ne true =
      ap (λ (m : Counts). merged m (with_pending r.pending c.group (past_datagram pending_with) g).missed)
      (made_missed g ∙ (ap (merged (missed_in g r.made)) (gap_misses_none start c.group (next_in start r.made) pending_with.first tick c.utc pending_with.missed (total pending_with.missed) g ne)
      ∙ merged_none (missed_in g r.made)))
      ∙ ap (λ (p : Pending). merged (missed_in g r.made) p.missed) (pending_other g (past_datagram pending_with) ne)
  other_counted g ne false = ap (λ (p : Pending). merged (missed_in g r.made) p.missed) (pending_other g (past_refusal pending_with) ne)

  pub other_recorded : (g : ℕ) → (c.group ≡ g → ⊥) → (passes : Bool) → recorded_in g (after passes).made ≡ recorded_in g r.made
  other_recorded g ne true =
      let a = made_recorded g in
      let b = ap (λ (rs : List Record). length rs) (cond-false (c.group == g) (datagram ∷ []) [] (ne_eqb c.group g ne)) in
      omega (arith, a, b)
  other_recorded g ne false = refl

begun_adds_up : (start : RunStart) (g : ℕ) → AddsUp g [] (begun start)
begun_adds_up start g = record { full = refl; bad = refl; large = refl; passed = refl }

module _ (start : RunStart) (r : Recorder) (c : Captured) (g : ℕ) (popped : List Captured) (h : AddsUp g popped r) where
  joined : (passes : Bool) (now : Recorder) → counted_by now g ≡ merged (counted_by r g) (cond passes c.missed (one_rate c.missed))
      → recorded_in g now.made ≡ recorded_in g r.made + cond passes 1 0 → AddsUp g (popped ++ c ∷ []) now
  joined passes now k n =
      let sums : missed_before (popped ++ c ∷ []) ≡ merged (missed_before popped) c.missed =
      sum_append (λ (c : Captured). c.missed) popped (c ∷ []) ∙ ap (merged (missed_before popped)) (sum_one (λ (c : Captured). c.missed) c) in
      go passes k n sums (length_snoc popped c)
    where
      go : (passes : Bool) → counted_by now g ≡ merged (counted_by r g) (cond passes c.missed (one_rate c.missed))
          → recorded_in g now.made ≡ recorded_in g r.made + cond passes 1 0 → missed_before (popped ++ c ∷ []) ≡ merged (missed_before popped) c.missed
          → length (popped ++ c ∷ []) ≡ suc (length popped) → AddsUp g (popped ++ c ∷ []) now
      go true k n sums size = record {
        full = let a = ap (λ (m : Counts). m.full) k in let b = ap (λ (m : Counts). m.full) sums in let d = h.full in omega (arith, a, b, d);
        bad = let a = ap (λ (m : Counts). m.bad) k in let b = ap (λ (m : Counts). m.bad) sums in let d = h.bad in omega (arith, a, b, d);
        large = let a = ap (λ (m : Counts). m.large) k in let b = ap (λ (m : Counts). m.large) sums in let d = h.large in omega (arith, a, b, d);
        passed = let a = ap (λ (m : Counts). m.rate) k in let b = ap (λ (m : Counts). m.rate) sums in let d = h.passed in omega (arith, a, b, d, n, size);
      }
      go false k n sums size = record {
        full = let a = ap (λ (m : Counts). m.full) k in let b = ap (λ (m : Counts). m.full) sums in let d = h.full in omega (arith, a, b, d);
        bad = let a = ap (λ (m : Counts). m.bad) k in let b = ap (λ (m : Counts). m.bad) sums in let d = h.bad in omega (arith, a, b, d);
        large = let a = ap (λ (m : Counts). m.large) k in let b = ap (λ (m : Counts). m.large) sums in let d = h.large in omega (arith, a, b, d);
        passed = let a = ap (λ (m : Counts). m.rate) k in let b = ap (λ (m : Counts). m.rate) sums in let d = h.passed in omega (arith, a, b, d, n, size);
      }

  own_adds_up : c.group ≡ g → (passes : Bool) → AddsUp g (popped ++ c ∷ []) (after start r c passes)
  own_adds_up e passes = joined passes (after start r c passes)
      (subst (λ (k : ℕ). counted_by (after start r c passes) k ≡ merged (counted_by r k) (cond passes c.missed (one_rate c.missed))) e (own_counted start r c passes))
      (subst (λ (k : ℕ). recorded_in k (after start r c passes).made ≡ recorded_in k r.made + cond passes 1 0) e (own_recorded start r c passes))

  other_adds_up : (c.group ≡ g → ⊥) → (passes : Bool) → AddsUp g popped (after start r c passes)
  other_adds_up ne passes = record {
    full = ap (λ (m : Counts). m.full) (other_counted start r c g ne passes) ∙ h.full;
    bad = ap (λ (m : Counts). m.bad) (other_counted start r c g ne passes) ∙ h.bad;
    large = ap (λ (m : Counts). m.large) (other_counted start r c g ne passes) ∙ h.large;
    passed = let a = other_recorded start r c g ne passes in let b = ap (λ (m : Counts). m.rate) (other_counted start r c g ne passes) in let k = h.passed in omega (arith, a, b, k);
  }

adds_up_if : (start : RunStart) (r : Recorder) (c : Captured) (g : ℕ) (popped : List Captured) → AddsUp g popped r → AddsUp g (popped ++ of_group g (c ∷ [])) (took start r c)
adds_up_if start r c g popped h = ⊎_elim
    (λ (e : c.group ≡ g). subst (λ (cs : List Captured). AddsUp g (popped ++ cs) (took start r c)) (sym (cond-true (c.group == g) (c ∷ []) [] (eq-eqb c.group g e)))
    (own_adds_up start r c g popped h e (admits start r c)))
    (λ (ne : c.group ≡ g → ⊥). subst (λ (cs : List Captured). AddsUp g cs (took start r c))
    (sym (ap (λ (cs : List Captured). popped ++ cs) (cond-false (c.group == g) (c ∷ []) [] (ne_eqb c.group g ne)) ∙ append-nil popped))
    (other_adds_up start r c g popped h ne (admits start r c)))
    (cases_eq c.group g)

all_add_up : (start : RunStart) (r : Recorder) (items popped : List Captured) (g : ℕ) → AddsUp g popped r → AddsUp g (popped ++ of_group g items) (taken_all start r items)
all_add_up start r [] popped g h = subst (λ (cs : List Captured). AddsUp g cs r) (sym (append-nil popped)) h
all_add_up start r (c ∷ items) popped g h =
    subst (λ (cs : List Captured). AddsUp g cs (taken_all start (took start r c) items))
    (append_assoc popped (of_group g (c ∷ [])) (of_group g items) ∙ ap (λ (cs : List Captured). popped ++ cs) (sym (filter-append (λ (c : Captured). c.group == g) (c ∷ []) items)))
    (all_add_up start (took start r c) items (popped ++ of_group g (c ∷ [])) g (adds_up_if start r c g popped h))

pub made_add_up : (start : RunStart) (items : List Captured) (g : ℕ) → AddsUp g (of_group g items) (recorder_after start items)
made_add_up start items g = all_add_up start (begun start) items [] g (begun_adds_up start g)

-- the closing gaps of the groups below n, and a Stop
module _ (start : RunStart) (r : Recorder) (rest : ℕ → Counts) (n g : ℕ) (stop : Record) (is_stop : stop.content ≡ Stop) where
  abbrev run : List Record
  run = r.made ++ (gaps_below n start r rest ++ stop ∷ [])

  stop_missed : missed_in g (stop ∷ []) ≡ none_missed
  stop_missed = ap (λ (c : Content). sum_counts (λ (r : Record). missed_of r.content) (cond (has_items c && stop.group == g) (stop ∷ []) [])) is_stop

  run_missed : missed_in g run ≡ merged (missed_in g r.made) (missed_in g (gaps_below n start r rest))
  run_missed = missed_append g r.made (gaps_below n start r rest ++ stop ∷ [])
      ∙ ap (merged (missed_in g r.made)) (missed_append g (gaps_below n start r rest) (stop ∷ [])
      ∙ (ap (merged (missed_in g (gaps_below n start r rest))) stop_missed ∙ merged_none (missed_in g (gaps_below n start r rest))))

  -- a group below n has what was counted, and what its port missed at the end
  pub near_missed : g < n → missed_in g run ≡ merged (counted_by r g) (rest g)
  near_missed l =
      let p = own_gap start r rest n g l in
      let missed : Counts = merged (r.pending g).missed (rest g) in
      run_missed
      ∙ (ap (merged (missed_in g r.made))
      (ap (sum_counts (λ (r : Record). missed_of r.content)) p.1
      ∙ gap_sum start g p.0 (r.pending g).first (tick_of start r) r.utc missed (total missed) refl)
      ∙ sym (merged_assoc (missed_in g r.made) (r.pending g).missed (rest g)))

  pub far_missed : n ≤ g → missed_in g run ≡ missed_in g r.made
  far_missed l = run_missed ∙ (ap (λ (rs : List Record). merged (missed_in g r.made) (sum_counts (λ (r : Record). missed_of r.content) rs)) (no_gap start r rest n g l) ∙ merged_none (missed_in g r.made))

  -- a close records nothing
  pub run_datagrams : datagrams_of g run ≡ datagrams_of g r.made
  run_datagrams =
      filter-append (λ (r : Record). is_datagram r.content && r.group == g) r.made (gaps_below n start r rest ++ stop ∷ [])
      ∙ (ap (λ (rs : List Record). datagrams_of g r.made ++ rs)
      (filter-append (λ (r : Record). is_datagram r.content && r.group == g) (gaps_below n start r rest) (stop ∷ [])
      ∙ (ap (λ (rs : List Record). rs ++ datagrams_of g (stop ∷ [])) (no_datagrams n)
      ∙ ap (λ (c : Content). cond (is_datagram c && stop.group == g) (stop ∷ []) []) is_stop))
      ∙ append-nil (datagrams_of g r.made))
    where
      no_datagrams : (n : ℕ) → datagrams_of g (gaps_below n start r rest) ≡ []
      no_datagrams zero = refl
      no_datagrams (suc n) =
          filter-append (λ (r : Record). is_datagram r.content && r.group == g) (gaps_below n start r rest) _
          ∙ (ap (λ (rs : List Record). rs ++ datagrams_of g (gap_of start n (next_in start r.made + length (gaps_below n start r rest)) (tick_of start r) r.utc (with_missed (rest n) (r.pending n)))) (no_datagrams n)
          ∙ gap_no_data start n (next_in start r.made + length (gaps_below n start r rest)) (r.pending n).first (tick_of start r) r.utc (merged (r.pending n).missed (rest n)) _ g)

  pub run_recorded : recorded_in g run ≡ recorded_in g r.made
  run_recorded = ap (λ (rs : List Record). length rs) run_datagrams
