-- What one more item of a feed changes.
use Rattle.std.proofs.Common.{◌≡◌, ◌≤◌, ◌+◌, ◌*◌, ℕ, zero, suc, ℤ, List, [], ◌∷◌, ◌++◌, length, Bool, true, false, refl, sym, ap, ◌∙◌, arith, append-nil, append_assoc, length-drop, length-append}
use Rattle.std.proofs.lemmas.List.Sums.{fold-append}
use Rattle.vdr_terms.specs.declared.counts.Counts.{Counts}
use Rattle.vdr_terms.specs.declared.datagram.Verdict.{Verdict}
use Rattle.vdr_terms.specs.declared.datagram.Verdict.TheVariants.{Yes, Bad, Large}
use Rattle.vdr_terms.specs.Records.{Record, Item, FeedItem, total, datagrams_of, last}
use Rattle.vdr_terms.specs.Counting.{Pending, with_missed}
use Rattle.vdr_terms.specs.Datagrams.{verdict, is_yes, is_bad, is_large}
use Rattle.vdr_core.specs.Runs.{RunStart}
use Rattle.vdr_core.specs.Taken.{Captured}
use Rattle.vdr_core.specs.Feed.{items_of, counts_of, number_after, missed_since}
use Rattle.vdr_core.specs.Recorder.{Recorder, begun, took, taken_all, passed, admits, tick_with, next_in, gap_of, gap_unless_none, datagram_of}
use Rattle.vdr_core.specs.Replay.{since_yes, captured_if, taken_of, fed, missed_with, GoesOn, NumbersAddUp, RecordsAreFew}
use Rattle.vdr_core.proofs.Counted.{count_yes, count_no, length_snoc}
use Rattle.vdr_core.proofs.Feeding.{yes_of, counts_path, items_own, items_other, since_more, total_counts, same_fed}

-- what is taken of a feed with one more item
taken_snoc : (feed xs : List FeedItem) (x : FeedItem) → taken_of feed (xs ++ x ∷ []) ≡ taken_of feed xs ++ captured_if (yes_of x.item) (feed ++ xs) x
taken_snoc feed [] x =
    append-nil (captured_if (yes_of x.item) feed x) ∙ ap (λ (ys : List FeedItem). captured_if (yes_of x.item) ys x) (sym (append-nil feed))
taken_snoc feed (y ∷ ys) x =
    ap (λ (cs : List Captured). captured_if (yes_of y.item) feed y ++ cs)
    (taken_snoc (feed ++ y ∷ []) ys x ∙ ap (λ (zs : List FeedItem). taken_of (feed ++ y ∷ []) ys ++ captured_if (yes_of x.item) zs x) (append_assoc feed (y ∷ []) ys))
    ∙ sym (append_assoc (captured_if (yes_of y.item) feed y) (taken_of (feed ++ y ∷ []) ys) (captured_if (yes_of x.item) (feed ++ y ∷ ys) x))

counts_more : (items : List Item) (i : Item) (v : Verdict) → verdict i.bytes ≡ v → is_yes v ≡ false → counts_of (items ++ i ∷ []) ≡ missed_with v (counts_of items)
counts_more items i Yes e n = let none : ⊥ = cc in absurd none
counts_more items i Bad e n = counts_path (counts_of (items ++ i ∷ [])) (missed_with Bad (counts_of items))
    refl
    (count_no (λ (i : Item). is_yes (verdict i.bytes)) items i (ap is_yes e))
    (count_yes (λ (i : Item). is_bad (verdict i.bytes)) items i (ap is_bad e))
    (count_no (λ (i : Item). is_large (verdict i.bytes)) items i (ap is_large e))
counts_more items i Large e n = counts_path (counts_of (items ++ i ∷ [])) (missed_with Large (counts_of items))
    refl
    (count_no (λ (i : Item). is_yes (verdict i.bytes)) items i (ap is_yes e))
    (count_no (λ (i : Item). is_bad (verdict i.bytes)) items i (ap is_bad e))
    (count_yes (λ (i : Item). is_large (verdict i.bytes)) items i (ap is_large e))

missed_more : (items : List Item) (i : Item) (v : Verdict) → verdict i.bytes ≡ v → counts_of (since_yes (items ++ i ∷ [])) ≡ missed_with v (counts_of (since_yes items))
missed_more items i Yes e = ap counts_of (since_more items i true (ap is_yes e))
missed_more items i Bad e = ap counts_of (since_more items i false (ap is_yes e)) ∙ counts_more (since_yes items) i Bad e refl
missed_more items i Large e = ap counts_of (since_more items i false (ap is_yes e)) ∙ counts_more (since_yes items) i Large e refl

pub goes_on : (start : RunStart) (feed : List FeedItem) (x : FeedItem) → GoesOn start feed x
goes_on start feed x = record {
  recorder = ap (taken_all start (begun start)) (taken_snoc [] feed x)
      ∙ fold-append (took start) (begun start) (taken_of [] feed) (captured_if (yes_of x.item) feed x);
  own_count = ap (λ (is : List Item). length is) (items_own feed x) ∙ length_snoc (items_of x.group feed) x.item;
  own_missed = ap (λ (is : List Item). counts_of (since_yes is)) (items_own feed x) ∙ missed_more (items_of x.group feed) x.item (verdict x.item.bytes) refl;
  others = λ g ne. items_other feed x g ne;
}

pub numbers_add_up : (start : RunStart) (feed : List FeedItem) (g : ℕ) → NumbersAddUp start feed g
numbers_add_up start feed g =
    let h = (same_fed start feed).groups g in
    let made : List Record = (fed start feed).made in
    let a = ap total h.missed in
    let b = total_counts (missed_since g made feed) in
    let c = length-drop (number_after (last (datagrams_of g made))) (items_of g feed) in
    let d = h.first in
    let e = h.bound in
    omega (arith, a, b, c, d, e)

gap_is_one : (start : RunStart) (g place first tick : ℕ) (utc : ℤ) (missed : Counts) (k : ℕ) → length (gap_unless_none start g place first tick utc missed k) ≤ 1
gap_is_one start g place first tick utc missed zero = omega arith
gap_is_one start g place first tick utc missed (suc k) = omega arith

passed_few : (b : Bool) (start : RunStart) (c : Captured) (tick : ℕ) (r : Recorder) (p : Pending) → length (passed b start c tick r p).made ≤ length r.made + 2
passed_few true start c tick r p =
    let place : ℕ = next_in start r.made in
    let gap : List Record = gap_of start c.group place tick c.utc p in
    let one = gap_is_one start c.group place p.first tick c.utc p.missed (total p.missed) in
    let a = length-append r.made (gap ++ datagram_of start c tick (place + length gap) ∷ []) in
    let b = length-append gap (datagram_of start c tick (place + length gap) ∷ []) in
    omega (arith, one, a, b)
passed_few false start c tick r p = omega arith

taken_few : (start : RunStart) (r : Recorder) (cs : List Captured) → length (taken_all start r cs).made ≤ length r.made + 2 * length cs
taken_few start r [] = omega arith
taken_few start r (c ∷ cs) =
    let a = passed_few (admits start r c) start c (tick_with start r c) r (with_missed c.missed (r.pending c.group)) in
    let b = taken_few start (took start r c) cs in
    omega (arith, a, b)

captured_few : (b : Bool) (feed : List FeedItem) (x : FeedItem) → length (captured_if b feed x) ≤ 1
captured_few true feed x = omega arith
captured_few false feed x = omega arith

of_feed_few : (feed xs : List FeedItem) → length (taken_of feed xs) ≤ length xs
of_feed_few feed [] = omega arith
of_feed_few feed (x ∷ xs) =
    let a = length-append (captured_if (yes_of x.item) feed x) (taken_of (feed ++ x ∷ []) xs) in
    let b = captured_few (yes_of x.item) feed x in
    let c = of_feed_few (feed ++ x ∷ []) xs in
    omega (arith, a, b, c)

pub records_are_few : (start : RunStart) (feed : List FeedItem) → RecordsAreFew start feed
records_are_few start feed =
    let a = taken_few start (begun start) (taken_of [] feed) in
    let b = of_feed_few [] feed in
    omega (arith, a, b)
