-- The ticks of a run.
use Rattle.std.proofs.Common.{◌≡◌, ◌≤◌, ◌<◌, ◌+◌, ◌⊎◌, ℕ, zero, suc, ℤ, max, List, [], ◌∷◌, ◌++◌, length, Bool, true, false, ◌==◌, slice_get, Option, Some, None, option_to_list, refl, sym, ap, ◌∙◌, subst, arith, inl, inr, ⊎_elim, append-nil, append_assoc, length-append, true≢false}
use Rattle.std.specs.List.{AllByRecursion}
use Rattle.std.proofs.lemmas.Bool.{eq-eqb, cond-true, cases_lt}
use Rattle.std.proofs.lemmas.List.Elements.{filter-append}
use Rattle.vdr_terms.specs.declared.counts.Counts.{Counts}
use Rattle.vdr_terms.specs.Records.{Record, Item, is_gap, total, records_of}
use Rattle.vdr_terms.specs.Records.Content.{Stop}
use Rattle.vdr_terms.specs.Rates.{Limit}
use Rattle.vdr_terms.specs.Order.{NeverFalls}
use Rattle.vdr_core.specs.Runs.{RunStart, base_of, IsGiven, SameStamp, GapStamps, TickOf, Ticks}
use Rattle.vdr_terms.specs.Counting.{Pending, merged, with_missed}
use Rattle.vdr_core.specs.Recorder.{Recorder, begun, next_in, tick_of, tick_with, gap_unless_none, gap_of, datagram_of, passed, admits, took, taken_all, recorder_after, gaps_below, stop_of}
use Rattle.vdr_core.specs.Machine.{Lane, with_queue}
use Rattle.vdr_core.specs.Law.{Admits, ClosedRunsAreRuns, CutRunsAreRuns, IsRun}
use Rattle.vdr_core.specs.Taken.{AreQueued, Captured, Feeds, of_group}
use Rattle.vdr_core.proofs.Lanes.{Inv}
use Rattle.vdr_core.proofs.Taking.{AllLanes}
use Rattle.vdr_core.proofs.Taken.{taken_keeps, lane_of, first_lanes, feeds_first, feeds_all}
use Rattle.vdr_core.proofs.Places.{all_continue, closed_continues}

get_at : {A : Type 0} (xs : List A) (x : A) (ys : List A) → slice_get (xs ++ x ∷ ys) (length xs) ≡ Some x
get_at [] x ys = refl
get_at (z ∷ xs) x ys = get_at xs x ys

-- the item at the front of a queue stands in what its port gave, at its number
front_item : (limit : Limit) (base tick g : ℕ) (rs : List Record) (p : Pending) (l : Lane) (c : Captured) (queue : List Captured) → Inv limit base tick g rs p l → l.queue ≡ c ∷ queue
    → (i : Item) × (slice_get l.given c.number ≡ Some i) × (c.received ≡ i.received) × (c.group ≡ g)
front_item limit base tick g rs p l c queue h e =
    let q : AreQueued g (length h.used + length h.waiting) (c ∷ queue) h.inside = subst (λ (q : List Captured). AreQueued g (length h.used + length h.waiting) q h.inside) e h.is_queued in
    let front : List Item = h.used ++ h.waiting ++ q.0 in
    let back : List Item = q.1 ++ h.since ++ option_to_list l.worker in
    let order : l.given ≡ front ++ q.2 ∷ back = h.order ∙ (ap (λ (xs : List Item). h.used ++ h.waiting ++ xs ++ h.since ++ option_to_list l.worker) q.3 ∙ simp append_assoc) in
    let size : c.number ≡ length front = (let a = q.5.number in let b = length-append (h.used ++ h.waiting) q.0 in let d = length-append h.used h.waiting in omega (arith, a, b, d)) in
    (q.2, ap (λ (xs : List Item). slice_get xs c.number) order ∙ (ap (slice_get (front ++ q.2 ∷ back)) size ∙ get_at front q.2 back), q.5.received, q.5.group)

gap_stamps_append : (xs ys : List Record) → GapStamps xs → GapStamps ys → GapStamps (xs ++ ys)
gap_stamps_append [] ys h k = k
gap_stamps_append (x ∷ xs) ys h k = ((λ e. more xs (h.0 e)), gap_stamps_append xs ys h.1 k)
  where
    more : (xs : List Record) → SameStamp x xs → SameStamp x (xs ++ ys)
    more [] s = absurd s
    more (z ∷ zs) s = s

each_append : (P : Record → Type 0) (xs ys : List Record) → AllByRecursion P xs → AllByRecursion P ys → AllByRecursion P (xs ++ ys)
each_append P [] ys h k = k
each_append P (x ∷ xs) ys h k = (h.0, each_append P xs ys h.1 k)

pub lower : (t u : ℕ) (ys : List Record) → t ≤ u → NeverFalls u ys → NeverFalls t ys
lower t u [] l h = tt
lower t u (y ∷ ys) l h = (omega (arith, h.0), h.1)

-- a Gap and what follows it
pub gap_ticks : (start : RunStart) (g place first tick : ℕ) (utc : ℤ) (m : Counts) (k : ℕ) → AllByRecursion (λ (x : Record). (x.tick ≡ tick) × (x.utc ≡ utc)) (gap_unless_none start g place first tick utc m k)
gap_ticks start g place first tick utc m zero = tt
gap_ticks start g place first tick utc m (suc k) = ((refl, refl), tt)

gap_each : (start : RunStart) (given : ℕ → List Item) (g place first tick : ℕ) (utc : ℤ) (m : Counts) (k : ℕ) → AllByRecursion (λ r. TickOf (base_of start) given r r.content) (gap_unless_none start g place first tick utc m k)
gap_each start given g place first tick utc m zero = tt
gap_each start given g place first tick utc m (suc k) = (tt, tt)

gap_stamps_new : (start : RunStart) (g place first tick : ℕ) (utc : ℤ) (m : Counts) (k : ℕ) (d : Record) → is_gap d.content ≡ false → d.tick ≡ tick → d.utc ≡ utc → GapStamps (gap_unless_none start g place first tick utc m k ++ d ∷ [])
gap_stamps_new start g place first tick utc m zero d e t u = ((λ q. absurd (true≢false (sym q ∙ e))), tt)
gap_stamps_new start g place first tick utc m (suc k) d e t u = ((λ _. (sym t, sym u)), ((λ q. absurd (true≢false (sym q ∙ e))), tt))

pub rising_new : (from tick : ℕ) → from ≤ tick → (utc : ℤ) (gap : List Record) (d : Record) (ys : List Record) → d.tick ≡ tick → AllByRecursion (λ (x : Record). (x.tick ≡ tick) × (x.utc ≡ utc)) gap → NeverFalls tick ys → NeverFalls from ((gap ++ d ∷ []) ++ ys)
rising_new from tick l utc [] d ys e a k = (omega (arith, e, l), lower d.tick tick ys (omega (arith, e)) k)
rising_new from tick l utc (x ∷ gap) d ys e a k = (omega (arith, a.0.0, l), rising_new x.tick tick (omega (arith, a.0.0)) utc gap d ys e a.1 k)

-- records of one stamp
one_stamp : (tick : ℕ) (utc : ℤ) (gaps : List Record) (stop : Record) → is_gap stop.content ≡ false → stop.tick ≡ tick → stop.utc ≡ utc → AllByRecursion (λ (x : Record). (x.tick ≡ tick) × (x.utc ≡ utc)) gaps → GapStamps (gaps ++ stop ∷ [])
one_stamp tick utc [] stop e t u a = ((λ q. absurd (true≢false (sym q ∙ e))), tt)
one_stamp tick utc (x ∷ []) stop e t u a = ((λ _. (a.0.0 ∙ sym t, a.0.1 ∙ sym u)), one_stamp tick utc [] stop e t u a.1)
one_stamp tick utc (x ∷ y ∷ gaps) stop e t u a = ((λ _. (a.0.0 ∙ sym a.1.0.0, a.0.1 ∙ sym a.1.0.1)), one_stamp tick utc (y ∷ gaps) stop e t u a.1)

pub closing_ticks : (start : RunStart) (r : Recorder) (rest : ℕ → Counts) (n : ℕ) → AllByRecursion (λ (x : Record). (x.tick ≡ tick_of start r) × (x.utc ≡ r.utc)) (gaps_below n start r rest)
closing_ticks start r rest zero = tt
closing_ticks start r rest (suc n) = each_append (λ (x : Record). (x.tick ≡ tick_of start r) × (x.utc ≡ r.utc)) (gaps_below n start r rest) _ (closing_ticks start r rest n)
    (gap_ticks start n (next_in start r.made + length (gaps_below n start r rest)) (r.pending n).first (tick_of start r) r.utc (merged (r.pending n).missed (rest n)) _)

closing_each : (start : RunStart) (given : ℕ → List Item) (r : Recorder) (rest : ℕ → Counts) (n : ℕ) → AllByRecursion (λ r. TickOf (base_of start) given r r.content) (gaps_below n start r rest)
closing_each start given r rest zero = tt
closing_each start given r rest (suc n) = each_append (λ r. TickOf (base_of start) given r r.content) (gaps_below n start r rest) _ (closing_each start given r rest n)
    (gap_each start given n (next_in start r.made + length (gaps_below n start r rest)) (r.pending n).first (tick_of start r) r.utc (merged (r.pending n).missed (rest n)) _)

-- what holds along a run
record Ticking (start : RunStart) (given : ℕ → List Item) (r : Recorder) : Type 0 where
  rising : (ys : List Record) → NeverFalls (tick_of start r) ys → NeverFalls (base_of start) (r.made ++ ys)
  gaps : GapStamps r.made
  each : AllByRecursion (λ r. TickOf (base_of start) given r r.content) r.made
  greatest : (r.greatest ≡ 0) ⊎ ((g k : ℕ) × (i : Item) × (slice_get (given g) k ≡ Some i) × (r.greatest ≡ i.received))

begun_ticking : (start : RunStart) (given : ℕ → List Item) → Ticking start given (begun start)
begun_ticking start given = record {
  rising = λ ys h. (omega arith, lower (base_of start) (tick_of start (begun start)) ys (omega arith) h);
  gaps = ((λ e. absurd (true≢false (sym e))), tt);
  each = (refl, tt);
  greatest = inl refl;
}

module _ (start : RunStart) (given : ℕ → List Item) (r : Recorder) (c : Captured) (i : Item) (at : slice_get (given c.group) c.number ≡ Some i) (received : c.received ≡ i.received) (h : Ticking start given r) where
  now_given : (r.greatest ≡ 0) ⊎ ((g k : ℕ) × (i : Item) × (slice_get (given g) k ≡ Some i) × (r.greatest ≡ i.received))
      → (g k : ℕ) × (j : Item) × (slice_get (given g) k ≡ Some j) × (max r.greatest c.received ≡ j.received)
  now_given o = ⊎_elim
      (λ (z : r.greatest ≡ 0). (c.group, c.number, i, at, omega (arith, z, received)))
      (λ (x : (g k : ℕ) × (j : Item) × (slice_get (given g) k ≡ Some j) × (r.greatest ≡ j.received)).
      ⊎_elim
      (λ (l : r.greatest < c.received). (c.group, c.number, i, at, omega (arith, l, received)))
      (λ (l : c.received ≤ r.greatest). (x.0, x.1, x.2, x.3, omega (arith, l, x.4)))
      (cases_lt r.greatest c.received))
      o

  took_ticking : Ticking start given (took start r c)
  took_ticking = go (admits start r c)
    where
      tick : ℕ
      tick = tick_with start r c

      later : tick_of start r ≤ tick_with start r c
      later = omega arith

      is_given : IsGiven (base_of start) given (tick_with start r c)
      is_given = let x = now_given h.greatest in (x.0, x.1, x.2, x.3, ap (λ (n : ℕ). base_of start + n) x.4)

      own : (j : Item) → slice_get (given c.group) c.number ≡ Some j → base_of start + j.received ≤ tick_with start r c
      own j e = let same : Some i ≡ Some j = sym at ∙ e in
          let q : i.received ≡ j.received = received_of same in omega (arith, q, received)
        where
          received_at : Option Item → ℕ
          received_at None = 0
          received_at (Some k) = k.received

          received_of : Some i ≡ Some j → i.received ≡ j.received
          received_of s = ap received_at s

      p : Pending
      p = with_missed c.missed (r.pending c.group)

      gap : List Record
      gap = gap_of start c.group (next_in start r.made) (tick_with start r c) c.utc (with_missed c.missed (r.pending c.group))

      d : Record
      d = datagram_of start c (tick_with start r c) (next_in start r.made + length gap)

      go : (passes : Bool) → Ticking start given (passed passes start c (tick_with start r c) r (with_missed c.missed (r.pending c.group)))
      go false = record { rising = λ ys k. h.rising ys (lower (tick_of start r) (tick_with start r c) ys later k); gaps = h.gaps; each = h.each; greatest = inr (now_given h.greatest) }
      go true = record {
        rising = λ ys k. subst (NeverFalls (base_of start)) (sym (append_assoc r.made (gap ++ d ∷ []) ys))
            (h.rising ((gap ++ d ∷ []) ++ ys) (rising_new (tick_of start r) (tick_with start r c) later c.utc gap d ys refl (gap_ticks start c.group (next_in start r.made) p.first (tick_with start r c) c.utc p.missed (total p.missed)) k));
        gaps = gap_stamps_append r.made (gap ++ d ∷ []) h.gaps (gap_stamps_new start c.group (next_in start r.made) p.first (tick_with start r c) c.utc p.missed (total p.missed) d refl refl refl);
        each = each_append (λ r. TickOf (base_of start) given r r.content) r.made (gap ++ d ∷ []) h.each
            (each_append (λ r. TickOf (base_of start) given r r.content) gap (d ∷ []) (gap_each start given c.group (next_in start r.made) p.first (tick_with start r c) c.utc p.missed (total p.missed)) ((is_given, own), tt));
        greatest = inr (now_given h.greatest);
      }

-- the ticks along what is taken
ticks_keep : (start : RunStart) → Admits start.limits → (given : ℕ → List Item) (r : Recorder) (items : List Captured) (queues : ℕ → List Captured) (lanes : ℕ → Lane) → ((g : ℕ) → (lanes g).given ≡ given g)
    → AllLanes start r (λ g. with_queue (of_group g items ++ queues g) (lanes g)) → Ticking start given r → Ticking start given (taken_all start r items)
ticks_keep start ok given r [] queues lanes e all h = h
ticks_keep start ok given r (c ∷ items) queues lanes e all h =
    ticks_keep start ok given (took start r c) items queues lanes e
    (taken_keeps start ok r (c ∷ []) (λ g. of_group g items ++ queues g) lanes
    (λ g. subst (λ (cs : List Captured). Inv (start.limits g) (base_of start) (tick_of start r) g (records_of g r.made) (r.pending g) (with_queue cs (lanes g)))
    (ap (λ (cs : List Captured). cs ++ queues g) (filter-append (λ (c : Captured). c.group == g) (c ∷ []) items) ∙ append_assoc (of_group g (c ∷ [])) (of_group g items) (queues g)) (all g)))
    (let f = front_item (start.limits c.group) (base_of start) (tick_of start r) c.group _ (r.pending c.group) (with_queue (of_group c.group (c ∷ items) ++ queues c.group) (lanes c.group)) c (of_group c.group items ++ queues c.group) (all c.group)
    (ap (λ (cs : List Captured). cs ++ queues c.group) (cond-true (c.group == c.group) (c ∷ of_group c.group items) (of_group c.group items) (eq-eqb c.group c.group refl))) in
    took_ticking start given r c f.0 (ap (λ (is : List Item). slice_get is c.number) (sym (e c.group)) ∙ f.1) f.2 h)

closed_ticks : (start : RunStart) (given : ℕ → List Item) (r : Recorder) (rest : ℕ → Counts) → Ticking start given r → (n : ℕ) (stop : Record) → stop.content ≡ Stop → stop.tick ≡ tick_of start r → stop.utc ≡ r.utc
    → Ticks (base_of start) given (r.made ++ (gaps_below n start r rest ++ stop ∷ []))
closed_ticks start given r rest h n stop e t u = record {
  rising = h.rising (gaps_below n start r rest ++ stop ∷ []) (subst (NeverFalls (tick_of start r)) (append-nil (gaps_below n start r rest ++ stop ∷ []))
      (rising_new (tick_of start r) (tick_of start r) (omega arith) r.utc (gaps_below n start r rest) stop [] t (closing_ticks start r rest n) tt));
  gaps = gap_stamps_append r.made (gaps_below n start r rest ++ stop ∷ []) h.gaps (one_stamp (tick_of start r) r.utc (gaps_below n start r rest) stop (ap is_gap e) t u (closing_ticks start r rest n));
  each = each_append (λ r. TickOf (base_of start) given r r.content) r.made (gaps_below n start r rest ++ stop ∷ []) h.each
      (each_append (λ r. TickOf (base_of start) given r r.content) (gaps_below n start r rest) (stop ∷ []) (closing_each start given r rest n)
      (subst (TickOf (base_of start) given stop) (sym e) (last_tick h.greatest), tt));
}
  where
    last_tick : (r.greatest ≡ 0) ⊎ ((g k : ℕ) × (i : Item) × (slice_get (given g) k ≡ Some i) × (r.greatest ≡ i.received)) → (stop.tick ≡ base_of start) ⊎ IsGiven (base_of start) given stop.tick
    last_tick o = ⊎_elim
        (λ (z : r.greatest ≡ 0). inl (omega (arith, z, t)))
        (λ (x : (g k : ℕ) × (j : Item) × (slice_get (given g) k ≡ Some j) × (r.greatest ≡ j.received)). inr (x.0, x.1, x.2, x.3, t ∙ ap (λ (n : ℕ). base_of start + n) x.4))
        o

pub are_runs : (start : RunStart) → Admits start.limits → ClosedRunsAreRuns start
are_runs start ok items rest given feed =
    let feeds : (g : ℕ) → Feeds g (of_group g items ++ []) (rest g) (given g) = feeds_all items rest given feed in
    record {
      places = closed_continues start items rest;
      ticks = closed_ticks start given (recorder_after start items) rest
          (ticks_keep start ok given (begun start) items (λ g. []) (lane_of start ok items (λ g. []) rest given feeds) (λ g. refl)
          (first_lanes start ok items (λ g. []) rest given feeds) (begun_ticking start given))
          16 (stop_of start (recorder_after start items) rest) refl refl refl;
    }

-- a run that is open, whatever its lanes have besides
pub open_is_run : (start : RunStart) → Admits start.limits → (given : ℕ → List Item) (items : List Captured) (queues : ℕ → List Captured) (lanes : ℕ → Lane) → ((g : ℕ) → (lanes g).given ≡ given g)
    → AllLanes start (begun start) (λ g. with_queue (of_group g items ++ queues g) (lanes g)) → IsRun start given (recorder_after start items).made
open_is_run start ok given items queues lanes e all =
    let h : Ticking start given (recorder_after start items) = ticks_keep start ok given (begun start) items queues lanes e all (begun_ticking start given) in
    let made : List Record = (recorder_after start items).made in
    record {
      places = all_continue start (begun start) items (refl, refl, tt);
      ticks = record {
        rising = subst (NeverFalls (base_of start)) (append-nil made) (h.rising [] tt);
        gaps = h.gaps;
        each = h.each;
      };
    }

pub cut_are_runs : (start : RunStart) → Admits start.limits → CutRunsAreRuns start
cut_are_runs start ok items more rest given feed =
    open_is_run start ok given items (λ g. of_group g more) (lane_of start ok items (λ g. of_group g more) rest given (feeds_first items more rest given feed)) (λ g. refl)
    (first_lanes start ok items (λ g. of_group g more) rest given (feeds_first items more rest given feed))
