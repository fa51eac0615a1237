-- The sums of a closed run and of a feed.
use Rattle.std.proofs.Common.{◌≡◌, ◌≤◌, ◌<◌, ◌+◌, ℕ, List, [], ◌∷◌, ◌++◌, length, Bool, true, false, ◌==◌, count_by, refl, sym, ap, ◌∙◌, subst, arith, ⊎_elim, length-append}
use Rattle.std.proofs.lemmas.Bool.{cases_lt, cond_both}
use Rattle.std.proofs.lemmas.List.Sums.{sum_by-cons}
use Rattle.vdr_terms.specs.declared.counts.Counts.{Counts}
use Rattle.vdr_terms.specs.Records.{Record, Item, FeedItem, total}
use Rattle.vdr_terms.specs.Records.Content.{Stop}
use Rattle.vdr_terms.specs.Datagrams.{verdict, is_yes, is_bad, is_large}
use Rattle.vdr_terms.specs.Counting.{merged}
use Rattle.vdr_core.specs.Runs.{RunStart}
use Rattle.vdr_core.specs.Taken.{Captured, AreQueued, AllFeed, Feeds, of_group}
use Rattle.vdr_core.specs.Recorder.{Recorder, admits, recorder_after, gaps_below, stop_of, closed_run}
use Rattle.vdr_core.specs.Sums.{missed_in, missed_before, counted_by, Sums, AddsUp}
use Rattle.vdr_core.specs.Feed.{items_of, feed_records}
use Rattle.vdr_core.specs.Replay.{captured_after, captured_if, taken_of, rest_after, IsOfGroups}
use Rattle.vdr_core.specs.Summary.{ItemAddsUp, CloseAddsUp}
use Rattle.vdr_core.proofs.Counted.{count_append, count_one}
use Rattle.vdr_core.proofs.Feeding.{counts_path, total_counts, is_replay}
use Rattle.vdr_core.proofs.FeedAccounts.{all_feed}
use Rattle.vdr_core.proofs.Counts.{sum_append, sum_one}
use Rattle.vdr_core.proofs.Sums.{own_recorded, own_counted, other_recorded, other_counted, made_add_up, near_missed, far_missed, run_recorded}

-- what a queue says was missed before its items, and these items, are all that was given
record QueueSums (queue : List Captured) (items : List Item) : Type 0 where
  all : length items ≡ length queue + total (missed_before queue)
  rate : (missed_before queue).rate ≡ 0
  bad : (missed_before queue).bad ≡ count_by (λ i. is_bad (verdict i.bytes)) items
  large : (missed_before queue).large ≡ count_by (λ i. is_large (verdict i.bytes)) items

count_split : {X : Type 0} (p : X → Bool) (before : List X) (x : X) (rest : List X) → p x ≡ false → count_by p (before ++ x ∷ rest) ≡ count_by p before + count_by p rest
count_split p before x rest e =
    let a = count_append p before (x ∷ rest) in
    let b = count_append p (x ∷ []) rest in
    let c = count_one p x false e in
    omega (arith, a, b, c)

queue_sums : (g from : ℕ) (queue : List Captured) (items : List Item) → AreQueued g from queue items → QueueSums queue items
queue_sums g from [] items e = record {
  all = let a = ap (λ (is : List Item). length is) e in omega (arith, a);
  rate = refl;
  bad = sym (ap (count_by (λ (i : Item). is_bad (verdict i.bytes))) e);
  large = sym (ap (count_by (λ (i : Item). is_large (verdict i.bytes))) e);
}
queue_sums g from (c ∷ queue) items (before, rest, item, split, counts, is, more) =
    let h : QueueSums queue rest = queue_sums g (from + length before + 1) queue rest more in
    let sums : missed_before (c ∷ queue) ≡ merged c.missed (missed_before queue) =
    sum_append (λ (c : Captured). c.missed) (c ∷ []) queue ∙ ap (λ (m : Counts). merged m (missed_before queue)) (sum_one (λ (c : Captured). c.missed) c) in
    record {
      all = let a = ap (λ (is : List Item). length is) split in let b = length-append before (item ∷ rest) in let d = ap total sums in
          let k = counts.all in let m = h.all in omega (arith, a, b, d, k, m);
      rate = let d = ap (λ (m : Counts). m.rate) sums in let k = counts.rate in let m = h.rate in omega (arith, d, k, m);
      bad = let a = ap (count_by (λ (i : Item). is_bad (verdict i.bytes))) split in
          let b = count_split (λ (i : Item). is_bad (verdict i.bytes)) before item rest (ap is_bad is.recordable) in
          let d = ap (λ (m : Counts). m.bad) sums in let k = counts.bad in let m = h.bad in omega (arith, a, b, d, k, m);
      large = let a = ap (count_by (λ (i : Item). is_large (verdict i.bytes))) split in
          let b = count_split (λ (i : Item). is_large (verdict i.bytes)) before item rest (ap is_large is.recordable) in
          let d = ap (λ (m : Counts). m.large) sums in let k = counts.large in let m = h.large in omega (arith, a, b, d, k, m);
    }

-- what the Gaps of a group say, where the group is below n or its port gave nothing
run_missed : (start : RunStart) (r : Recorder) (rest : ℕ → Counts) (n g : ℕ) (stop : Record) → stop.content ≡ Stop → (popped : List Captured) → AddsUp g popped r
    → (n ≤ g → (length popped ≡ 0) × (total (missed_before popped) ≡ 0) × (total (rest g) ≡ 0))
    → missed_in g (r.made ++ (gaps_below n start r rest ++ stop ∷ [])) ≡ merged (counted_by r g) (rest g)
run_missed start r rest n g stop is_stop popped h far = ⊎_elim
    (λ (l : g < n). near_missed start r rest n g stop is_stop l)
    (λ (l : n ≤ g).
    let k = far l in
    far_missed start r rest n g stop is_stop l
    ∙ counts_path (missed_in g r.made) (merged (counted_by r g) (rest g))
    (let a = h.full in omega (arith, a, k))
    (let a = h.passed in omega (arith, a, k))
    (let a = h.bad in omega (arith, a, k))
    (let a = h.large in omega (arith, a, k)))
    (cases_lt g n)

-- the sums of a run that is closed, whatever the number of groups
sums_below : (start : RunStart) (r : Recorder) (rest : ℕ → Counts) (n g : ℕ) (stop : Record) → stop.content ≡ Stop → (popped : List Captured) → AddsUp g popped r
    → (given : List Item) → Feeds g popped (rest g) given → (n ≤ g → given ≡ [])
    → Sums g given (length popped) ((missed_before popped).full + (rest g).full) (r.made ++ (gaps_below n start r rest ++ stop ∷ []))
sums_below start r rest n g stop is_stop popped h given f far =
    let q : QueueSums popped f.inside = queue_sums g 0 popped f.inside f.is_queued in
    let k = f.is_counted in
    let size : length given ≡ length f.inside + length f.since = ap (λ (is : List Item). length is) f.order ∙ length-append f.inside f.since in
    let nothing : n ≤ g → (length popped ≡ 0) × (total (missed_before popped) ≡ 0) × (total (rest g) ≡ 0) =
    (λ l. let z = ap (λ (is : List Item). length is) (far l) in let a = q.all in let b = k.all in
    (omega (arith, z, a, b, size), omega (arith, z, a, b, size), omega (arith, z, a, b, size))) in
    let missed = run_missed start r rest n g stop is_stop popped h nothing in
    let recorded = run_recorded start r rest n g stop is_stop in
    record {
      all = let a = ap total missed in let b = q.all in let c = k.all in let d = h.full in let e = h.bad in let m = h.large in let o = h.passed in omega (arith, a, b, c, d, e, m, o, size, recorded);
      passed = let a = ap (λ (m : Counts). m.rate) missed in let b = q.rate in let c = k.rate in let o = h.passed in omega (arith, a, b, c, o, recorded);
      full = let a = ap (λ (m : Counts). m.full) missed in let d = h.full in omega (arith, a, d);
      bad = let a = ap (λ (m : Counts). m.bad) missed in let b = q.bad in let c = k.bad in let d = h.bad in
          let e = ap (count_by (λ (i : Item). is_bad (verdict i.bytes))) f.order in let m = count_append (λ (i : Item). is_bad (verdict i.bytes)) f.inside f.since in omega (arith, a, b, c, d, e, m);
      large = let a = ap (λ (m : Counts). m.large) missed in let b = q.large in let c = k.large in let d = h.large in
          let e = ap (count_by (λ (i : Item). is_large (verdict i.bytes))) f.order in let m = count_append (λ (i : Item). is_large (verdict i.bytes)) f.inside f.since in omega (arith, a, b, c, d, e, m);
    }

pub closed_sums : (start : RunStart) (items : List Captured) (rest : ℕ → Counts) (given : ℕ → List Item) → AllFeed items rest given → (g : ℕ)
    → Sums g (given g) (length (of_group g items)) ((missed_before (of_group g items)).full + (rest g).full) (closed_run start items rest)
closed_sums start items rest given feed g =
    sums_below start (recorder_after start items) rest 16 g (stop_of start (recorder_after start items) rest) refl (of_group g items)
    (made_add_up start items g) (given g) (feed.lanes g) (feed.beyond g)

pub close_adds_up : (start : RunStart) (items : List Captured) (rest : ℕ → Counts) (g : ℕ) → g < 16 → CloseAddsUp start items rest g
close_adds_up start items rest g l = record {
  recorded = run_recorded start (recorder_after start items) rest 16 g (stop_of start (recorder_after start items) rest) refl;
  missed = near_missed start (recorder_after start items) rest 16 g (stop_of start (recorder_after start items) rest) refl l;
}

-- the counts of a feed have no full
no_full_if : (g : ℕ) (feed : List FeedItem) (x : FeedItem) (later : List Captured) (b : Bool) → (missed_before (of_group g later)).full ≡ 0 → (missed_before (of_group g (captured_if b feed x ++ later))).full ≡ 0
no_full_if g feed x later false h = h
no_full_if g feed x later true h = cond_both (x.group == g) (captured_after feed x ∷ of_group g later) (of_group g later)
    (λ cs. (missed_before cs).full ≡ 0)
    (λ _. let a = sum_by-cons (λ (c : Captured). c.missed.full) (captured_after feed x) (of_group g later) in omega (arith, a, h))
    (λ _. h)

no_full : (g : ℕ) (feed xs : List FeedItem) → (missed_before (of_group g (taken_of feed xs))).full ≡ 0
no_full g feed [] = refl
no_full g feed (x ∷ xs) = no_full_if g feed x (taken_of (feed ++ x ∷ []) xs) (is_yes (verdict x.item.bytes)) (no_full g (feed ++ x ∷ []) xs)

-- where no queue was full, what was popped is what is recordable
none_full : (g : ℕ) (given : List Item) (popped full_steps : ℕ) (run : List Record) → full_steps ≡ 0 → Sums g given popped full_steps run → Sums g given (count_by (λ i. is_yes (verdict i.bytes)) given) 0 run
none_full g given popped full_steps run none h = record {
  all = h.all;
  passed = let a = total_counts given in let b = h.all in let c = h.full in let d = h.bad in let e = h.large in omega (arith, a, b, c, d, e, none);
  full = h.full ∙ none;
  bad = h.bad;
  large = h.large;
}

pub feed_sums : (start : RunStart) (feed : List FeedItem) → IsOfGroups feed → (g : ℕ)
    → Sums g (items_of g feed) (count_by (λ i. is_yes (verdict i.bytes)) (items_of g feed)) 0 (feed_records start feed)
feed_sums start feed small g =
    subst (λ (run : List Record). Sums g (items_of g feed) (count_by (λ (i : Item). is_yes (verdict i.bytes)) (items_of g feed)) 0 run) (sym (is_replay start feed))
    (none_full g (items_of g feed) (length (of_group g (taken_of [] feed))) ((missed_before (of_group g (taken_of [] feed))).full + (rest_after feed g).full)
    (closed_run start (taken_of [] feed) (rest_after feed)) (let a = no_full g [] feed in omega (arith, a))
    (closed_sums start (taken_of [] feed) (rest_after feed) (λ g. items_of g feed) (all_feed feed small) g))

pub item_adds_up : (start : RunStart) (r : Recorder) (c : Captured) → ItemAddsUp start r c
item_adds_up start r c = record {
  recorded = own_recorded start r c (admits start r c);
  counted = own_counted start r c (admits start r c);
  others = λ g ne. (other_recorded start r c g ne (admits start r c), other_counted start r c g ne (admits start r c));
}
