-- A run has its shape.
use Rattle.std.proofs.Common.{◌≡◌, ◌≤◌, ◌<◌, ◌+◌, ℕ, zero, suc, ℤ, max, List, [], ◌∷◌, ◌++◌, length, filter, fold, Bool, true, false, refl, sym, ap, ◌∙◌, subst, arith, append-nil, append_assoc}
use Rattle.std.proofs.lemmas.List.Sums.{fold-append}
use Rattle.std.specs.List.{AllByRecursion}
use Rattle.vdr_terms.specs.declared.counts.Counts.{Counts}
use Rattle.vdr_terms.specs.Records.{Content, Record, FeedItem, total, is_datagram, last}
use Rattle.vdr_terms.specs.Records.Content.{Start, Datagram, Gap, Stop}
use Rattle.vdr_terms.specs.Counting.{Pending, merged, with_missed}
use Rattle.vdr_core.specs.Runs.{RunStart, base_of}
use Rattle.vdr_core.specs.Taken.{Captured}
use Rattle.vdr_core.specs.Feed.{feed_records}
use Rattle.vdr_core.specs.Recorder.{Recorder, begun, next_in, tick_of, tick_with, gap_unless_none, gap_of, datagram_of, passed, admits, took, taken_all, recorder_after, gaps_below, stop_of, closed_run}
use Rattle.vdr_core.specs.Shapes.{tick_at, utc_or, IsMarker, AreTaken, MayStandBefore, AreInside, AreClosingGaps, IsOpenRun, IsClosedRun}
use Rattle.vdr_core.specs.Replay.{taken_of, rest_after}
use Rattle.vdr_core.proofs.Feeding.{is_replay}

-- what the records of these items are
abbrev datagrams : List Record → List Record
datagrams rs = filter (λ r. is_datagram r.content) rs

stands_more : (xs ys : List Record) (r : Record) (c : Content) → MayStandBefore xs r c → MayStandBefore (xs ++ ys) r c
stands_more xs ys r Start h = h
stands_more xs ys r (Datagram payload) h = tt
stands_more [] ys r (Gap missed) h = absurd h.0
stands_more (x ∷ xs) ys r (Gap missed) h = h
stands_more xs ys r Stop h = h

pub inside_append : (xs ys : List Record) → AreInside xs → AreInside ys → AreInside (xs ++ ys)
inside_append [] ys h k = k
inside_append (x ∷ xs) ys h k = (stands_more xs ys x x.content h.0, inside_append xs ys h.1 k)

-- an item that was refused comes before those that are taken
refused_first : (start : RunStart) (before items : List Captured) (c : Captured) (rs : List Record) → AreTaken start (before ++ c ∷ []) items rs → AreTaken start before (c ∷ items) rs
refused_first start before items c [] h = tt
refused_first start before items c (r ∷ rs) (refused, rest, d, split, is, tick, more) = (
  c ∷ refused,
  rest,
  d,
  ap (λ (cs : List Captured). c ∷ cs) split,
  is,
  tick ∙ ap (tick_at start) (append_assoc before (c ∷ []) (refused ++ d ∷ [])),
  subst (λ (cs : List Captured). AreTaken start cs rest rs) (append_assoc before (c ∷ []) (refused ++ d ∷ [])) more,
)

-- what further items make of a recorder
record Grown (start : RunStart) (before items : List Captured) (r now : Recorder) : Type 0 where
  new : List Record
  order : now.made ≡ r.made ++ new
  are_inside : AreInside new
  are_taken : AreTaken start before items (datagrams new)
  greatest : now.greatest ≡ fold (λ greatest c. max greatest c.received) r.greatest items
  utc : now.utc ≡ utc_or r.utc (last items)

pub gap_inside : (start : RunStart) (c : Captured) (tick place at first : ℕ) (missed : Counts) (k : ℕ)
    → AreInside (gap_unless_none start c.group place first tick c.utc missed k ++ datagram_of start c tick at ∷ [])
gap_inside start c tick place at first missed zero = (tt, tt)
gap_inside start c tick place at first missed (suc k) = (((refl, refl), (refl, refl)), (tt, tt))

gap_datagrams : (start : RunStart) (g place first tick : ℕ) (utc : ℤ) (missed : Counts) (k : ℕ) (later : List Record)
    → datagrams (gap_unless_none start g place first tick utc missed k ++ later) ≡ datagrams later
gap_datagrams start g place first tick utc missed zero later = refl
gap_datagrams start g place first tick utc missed (suc k) later = refl

utc_first : (items : List Captured) (c : Captured) (before : ℤ) → utc_or c.utc (last items) ≡ utc_or before (last (c ∷ items))
utc_first [] c before = refl
utc_first (d ∷ ds) c before = refl

module _ (start : RunStart) (before : List Captured) (r : Recorder) (c : Captured) (items : List Captured) (same : r.greatest ≡ fold (λ greatest c. max greatest c.received) 0 before) where
  now_same : max r.greatest c.received ≡ fold (λ greatest c. max greatest c.received) 0 (before ++ c ∷ [])
  now_same = ap (λ (n : ℕ). max n c.received) same ∙ sym (fold-append (λ (greatest : ℕ) (c : Captured). max greatest c.received) 0 before (c ∷ []))

  greatest_now : (passes : Bool) → (passed passes start c (tick_with start r c) r (with_missed c.missed (r.pending c.group))).greatest ≡ fold (λ greatest c. max greatest c.received) 0 (before ++ c ∷ [])
  greatest_now true = now_same
  greatest_now false = now_same

  grown_by : (passes : Bool) (end : Recorder) → Grown start (before ++ c ∷ []) items (passed passes start c (tick_with start r c) r (with_missed c.missed (r.pending c.group))) end
      → Grown start before (c ∷ items) r end
  grown_by false end h = record {
    new = h.new;
    order = h.order;
    are_inside = h.are_inside;
    are_taken = refused_first start before items c (datagrams h.new) h.are_taken;
    greatest = h.greatest;
    utc = h.utc ∙ utc_first items c r.utc;
  }
  grown_by true end h =
      let waiting : Pending = with_missed c.missed (r.pending c.group) in
      let tick : ℕ = tick_with start r c in
      let gap : List Record = gap_of start c.group (next_in start r.made) tick c.utc waiting in
      let d : Record = datagram_of start c tick (next_in start r.made + length gap) in
      record {
        new = (gap ++ d ∷ []) ++ h.new;
        order = h.order ∙ append_assoc r.made (gap ++ d ∷ []) h.new;
        are_inside = inside_append (gap ++ d ∷ []) h.new
            (gap_inside start c tick (next_in start r.made) (next_in start r.made + length gap) waiting.first waiting.missed (total waiting.missed)) h.are_inside;
        are_taken = subst (λ (rs : List Record). AreTaken start before (c ∷ items) rs)
            (sym (ap datagrams (append_assoc gap (d ∷ []) h.new) ∙ gap_datagrams start c.group (next_in start r.made) waiting.first tick c.utc waiting.missed (total waiting.missed) (d ∷ h.new)))
            ([], items, c, refl, record { content = refl; group = refl; number = refl; utc = refl }, ap (λ (n : ℕ). base_of start + n) now_same, h.are_taken);
        greatest = h.greatest;
        utc = h.utc ∙ utc_first items c r.utc;
      }

all_grown : (start : RunStart) (before : List Captured) (r : Recorder) (items : List Captured) → r.greatest ≡ fold (λ greatest c. max greatest c.received) 0 before → Grown start before items r (taken_all start r items)
all_grown start before r [] same = record { new = []; order = sym (append-nil r.made); are_inside = tt; are_taken = tt; greatest = refl; utc = refl }
all_grown start before r (c ∷ items) same =
    grown_by start before r c items same (admits start r c) (taken_all start (took start r c) items)
    (all_grown start (before ++ c ∷ []) (took start r c) items (greatest_now start before r c items same (admits start r c)))

grown : (start : RunStart) (items : List Captured) → Grown start [] items (begun start) (recorder_after start items)
grown start items = all_grown start [] (begun start) items refl

pub made_open : (start : RunStart) (items : List Captured) → IsOpenRun start items (recorder_after start items).made
made_open start items =
    let h : Grown start [] items (begun start) (recorder_after start items) = grown start items in
    record {
      first = _;
      body = h.new;
      order = h.order;
      is_start = record { content = refl; group = refl; number = refl; tick = refl; utc = refl };
      are_inside = h.are_inside;
      are_taken = h.are_taken;
    }

-- the closing gaps: one of each group at most, in order
gap_of_group : (start : RunStart) (g place first tick : ℕ) (utc : ℤ) (missed : Counts) (k : ℕ) → AllByRecursion (λ r. r.group ≡ g) (gap_unless_none start g place first tick utc missed k)
gap_of_group start g place first tick utc missed zero = tt
gap_of_group start g place first tick utc missed (suc k) = (refl, tt)

all_below : (m n : ℕ) (xs ys : List Record) → m ≤ n → AllByRecursion (λ r. r.group < m) xs → AllByRecursion (λ r. r.group < n) ys → AllByRecursion (λ r. r.group < n) (xs ++ ys)
all_below m n [] ys l h k = k
all_below m n (x ∷ xs) ys l h k = (omega (arith, l, h.0), all_below m n xs ys l h.1 k)

gap_below : (n : ℕ) (xs : List Record) → AllByRecursion (λ r. r.group ≡ n) xs → AllByRecursion (λ r. r.group < suc n) xs
gap_below n [] h = tt
gap_below n (x ∷ xs) h = (omega (arith, h.0), gap_below n xs h.1)

closing_more : (start : RunStart) (tick : ℕ) (utc : ℤ) (from g place first : ℕ) (missed : Counts) (k : ℕ) (xs : List Record) → from ≤ g → g < 16
    → AllByRecursion (λ r. r.group < g) xs → AreClosingGaps tick utc from xs → AreClosingGaps tick utc from (xs ++ gap_unless_none start g place first tick utc missed k)
closing_more start tick utc from g place first missed zero [] l near below h = tt
closing_more start tick utc from g place first missed (suc k) [] l near below h = (refl, l, near, refl, refl, tt)
closing_more start tick utc from g place first missed k (x ∷ xs) l near below (is, after, group, at, when, more) =
    (is, after, group, at, when, closing_more start tick utc (suc x.group) g place first missed k xs (omega (arith, below.0)) near below.1 more)

module _ (start : RunStart) (r : Recorder) (rest : ℕ → Counts) where
  gaps_are_below : (n : ℕ) → AllByRecursion (λ r. r.group < n) (gaps_below n start r rest)
  gaps_are_below zero = tt
  gaps_are_below (suc n) = all_below n (suc n) (gaps_below n start r rest) _ (omega arith) (gaps_are_below n)
      (gap_below n _ (gap_of_group start n (next_in start r.made + length (gaps_below n start r rest)) (r.pending n).first (tick_of start r) r.utc (merged (r.pending n).missed (rest n)) _))

  gaps_are_closing : (n : ℕ) → n ≤ 16 → AreClosingGaps (tick_of start r) r.utc 0 (gaps_below n start r rest)
  gaps_are_closing zero l = tt
  gaps_are_closing (suc n) l =
      closing_more start (tick_of start r) r.utc 0 n (next_in start r.made + length (gaps_below n start r rest)) (r.pending n).first (merged (r.pending n).missed (rest n)) _
      (gaps_below n start r rest) (omega arith) (omega (arith, l)) (gaps_are_below n) (gaps_are_closing n (omega (arith, l)))

closed_below : (start : RunStart) (items : List Captured) (rest : ℕ → Counts) (n : ℕ) (stop : Record) → n ≤ 16 → IsMarker Stop (tick_of start (recorder_after start items)) (recorder_after start items).utc stop
    → IsClosedRun start items ((recorder_after start items).made ++ (gaps_below n start (recorder_after start items) rest ++ stop ∷ []))
closed_below start items rest n stop l is_stop =
    let r : Recorder = recorder_after start items in
    let h : Grown start [] items (begun start) r = grown start items in
    let tick : tick_of start r ≡ tick_at start items = ap (λ (n : ℕ). base_of start + n) h.greatest in
    record {
      made = r.made;
      gaps = gaps_below n start r rest;
      stop = stop;
      order = refl;
      is_open = made_open start items;
      are_closing = subst (λ (x : ℕ × ℤ). AreClosingGaps x.0 x.1 0 (gaps_below n start r rest)) (λ i. (tick i, h.utc i)) (gaps_are_closing start r rest n l);
      is_stop = subst (λ (x : ℕ × ℤ). IsMarker Stop x.0 x.1 stop) (λ i. (tick i, h.utc i)) is_stop;
    }

pub closed_shape : (start : RunStart) (items : List Captured) (rest : ℕ → Counts) → IsClosedRun start items (closed_run start items rest)
closed_shape start items rest = closed_below start items rest 16 (stop_of start (recorder_after start items) rest) (omega arith)
    (record { content = refl; group = refl; number = refl; tick = refl; utc = refl })

pub feed_shape : (start : RunStart) (feed : List FeedItem) → IsClosedRun start (taken_of [] feed) (feed_records start feed)
feed_shape start feed = subst (IsClosedRun start (taken_of [] feed)) (sym (is_replay start feed)) (closed_shape start (taken_of [] feed) (rest_after feed))
