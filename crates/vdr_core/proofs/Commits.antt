-- What one commit adds to a run comes next.
use Rattle.std.proofs.Common.{◌≡◌, ◌≤◌, ◌+◌, ℕ, suc, pos, List, [], ◌∷◌, ◌++◌, length, drop, Bool, true, false, Option, refl, sym, ap, ◌∙◌, subst, arith, append-nil, append_assoc}
use Rattle.std.proofs.Math.Seq.{drop-append_seam}
use Rattle.vdr_terms.specs.declared.counts.Counts.{Counts}
use Rattle.vdr_terms.specs.Records.{Record, total, last, last_after}
use Rattle.vdr_terms.specs.Records.Content.{Stop}
use Rattle.vdr_terms.specs.Channels.{Channels}
use Rattle.vdr_terms.specs.Order.{NeverFalls}
use Rattle.vdr_terms.specs.Counting.{Pending, with_missed}
use Rattle.vdr_core.specs.Runs.{RunStart, Stamp, last_tick}
use Rattle.vdr_core.specs.Taken.{Captured}
use Rattle.vdr_core.specs.Histories.{Continues, stamp_of}
use Rattle.vdr_core.specs.Shapes.{AreInside}
use Rattle.vdr_core.specs.Recorder.{Recorder, begun, next_in, tick_of, tick_with, gap_of, datagram_of, passed, admits, took, taken_all, recorder_after, gaps_below, stop_of, closing}
use Rattle.vdr_core.specs.Commits.{FurtherItemsComeNext, ClosesComeNext}
use Rattle.vdr_core.proofs.Places.{all_continue, closed_continues}
use Rattle.vdr_core.proofs.Taking.{more_taken}
use Rattle.vdr_core.proofs.Ticking.{lower, gap_ticks, closing_ticks, rising_new}
use Rattle.vdr_core.proofs.Shapes.{inside_append, gap_inside}

pub continues_back : (channels : Channels) (place : ℕ) (xs ys : List Record) → Continues channels place (xs ++ ys) → Continues channels (place + length xs) ys
continues_back channels place [] ys h = subst (λ (n : ℕ). Continues channels n ys) (omega arith) h
continues_back channels place (x ∷ xs) ys (p, b, more) = subst (λ (n : ℕ). Continues channels n ys) (omega arith) (continues_back channels (suc place) xs ys more)

same_new : {A : Type 0} (old xs ys : List A) → old ++ xs ≡ old ++ ys → xs ≡ ys
same_new old xs ys e = sym (drop-append_seam old xs) ∙ (ap (drop (length old)) e ∙ drop-append_seam old ys)

-- what further items make, and what may come after it
record Rises (start : RunStart) (r now : Recorder) : Type 0 where
  new : List Record
  order : now.made ≡ r.made ++ new
  are_inside : AreInside new
  rising : (ys : List Record) → NeverFalls (tick_of start now) ys → NeverFalls (tick_of start r) (new ++ ys)

took_rises : (start : RunStart) (r : Recorder) (c : Captured) (passes : Bool) → Rises start r (passed passes start c (tick_with start r c) r (with_missed c.missed (r.pending c.group)))
took_rises start r c false = record {
  new = [];
  order = sym (append-nil r.made);
  are_inside = tt;
  rising = λ ys k. lower (tick_of start r) (tick_with start r c) ys (omega arith) k;
}
took_rises start r c true =
    let waiting : Pending = with_missed c.missed (r.pending c.group) in
    let tick : ℕ = tick_with start r c in
    let gap : List Record = gap_of start c.group (next_in start r.made) tick c.utc waiting in
    let d : Record = datagram_of start c tick (next_in start r.made + length gap) in
    record {
      new = gap ++ d ∷ [];
      order = refl;
      are_inside = gap_inside start c tick (next_in start r.made) (next_in start r.made + length gap) waiting.first waiting.missed (total waiting.missed);
      rising = λ ys k. rising_new (tick_of start r) (tick_with start r c) (omega arith) c.utc gap d ys refl
          (gap_ticks start c.group (next_in start r.made) waiting.first (tick_with start r c) c.utc waiting.missed (total waiting.missed)) k;
    }

all_rise : (start : RunStart) (r : Recorder) (items : List Captured) → Rises start r (taken_all start r items)
all_rise start r [] = record { new = []; order = sym (append-nil r.made); are_inside = tt; rising = λ ys k. k }
all_rise start r (c ∷ items) =
    let first : Rises start r (took start r c) = took_rises start r c (admits start r c) in
    let later : Rises start (took start r c) (taken_all start (took start r c) items) = all_rise start (took start r c) items in
    record {
      new = first.new ++ later.new;
      order = later.order ∙ (ap (λ (rs : List Record). rs ++ later.new) first.order ∙ append_assoc r.made first.new later.new);
      are_inside = inside_append first.new later.new first.are_inside later.are_inside;
      rising = λ ys k. subst (NeverFalls (tick_of start r)) (sym (append_assoc first.new later.new ys)) (first.rising (later.new ++ ys) (later.rising ys k));
    }

pub further_items : (start : RunStart) → FurtherItemsComeNext start
further_items start before more new e =
    let r : Recorder = recorder_after start before in
    let h : Rises start r (taken_all start r more) = all_rise start r more in
    let made : (taken_all start r more).made ≡ r.made ++ new = ap (λ (q : Recorder). q.made) (sym (more_taken start before more)) ∙ e in (
      record {
        places = continues_back start.channels start.place r.made new
            (subst (Continues start.channels start.place) e (all_continue start (begun start) (before ++ more) (refl, refl, tt)));
        ticks = subst (NeverFalls (tick_of start r)) (append-nil h.new ∙ same_new r.made h.new new (sym h.order ∙ made)) (h.rising [] tt);
      },
      subst AreInside (same_new r.made h.new new (sym h.order ∙ made)) h.are_inside,
    )

-- the last of what further items make is no later than the item popped last
last_is_before : (x y : Record) (xs : List Record) → NeverFalls x.tick (xs ++ y ∷ []) → (last_after x xs).tick ≤ y.tick
last_is_before x y [] h = h.0
last_is_before x y (z ∷ xs) h = last_is_before z y xs h.1

stamp_is_before : (from : ℕ) (stamp : Option Stamp) (xs : List Record) (y : Record) → last_tick stamp ≤ y.tick → NeverFalls from (xs ++ y ∷ []) → last_tick (stamp_of (last xs) stamp) ≤ y.tick
stamp_is_before from stamp [] y l h = l
stamp_is_before from stamp (x ∷ xs) y l h = last_is_before x y xs h.1

reaches : (from : ℕ) (xs : List Record) (y : Record) → NeverFalls from (xs ++ y ∷ []) → from ≤ y.tick
reaches from [] y h = h.0
reaches from (x ∷ xs) y h = let a = reaches x.tick xs y h.1 in let b = h.0 in omega (arith, a, b)

pub further_stamp : (start : RunStart) (before more : List Captured) (new : List Record) (stamp : Option Stamp) → (recorder_after start (before ++ more)).made ≡ (recorder_after start before).made ++ new
    → last_tick stamp ≤ tick_of start (recorder_after start before) → last_tick (stamp_of (last new) stamp) ≤ tick_of start (recorder_after start (before ++ more))
further_stamp start before more new stamp e l =
    let r : Recorder = recorder_after start before in
    let now : Recorder = taken_all start r more in
    let h : Rises start r now = all_rise start r more in
    let same : recorder_after start (before ++ more) ≡ now = more_taken start before more in
    let made : now.made ≡ r.made ++ new = ap (λ (q : Recorder). q.made) (sym same) ∙ e in
    let end : Record = record { content = Stop; group = 255; bits = 0; place = 0; number = 0; tick = tick_of start now; utc = pos 0 } in
    let rising : NeverFalls (tick_of start r) (h.new ++ end ∷ []) = h.rising (end ∷ []) (omega arith, tt) in
    let later : tick_of start r ≤ tick_of start now = reaches (tick_of start r) h.new end rising in
    subst (λ (rs : List Record). last_tick (stamp_of (last rs) stamp) ≤ tick_of start (recorder_after start (before ++ more))) (same_new r.made h.new new (sym h.order ∙ made))
    (subst (λ (q : Recorder). last_tick (stamp_of (last h.new) stamp) ≤ tick_of start q) (sym same)
    (stamp_is_before (tick_of start r) stamp h.new end (omega (arith, l, later)) rising))

closes_below : (start : RunStart) (r : Recorder) (rest : ℕ → Counts) (n : ℕ) (stop : Record) → stop.tick ≡ tick_of start r → NeverFalls (tick_of start r) (gaps_below n start r rest ++ stop ∷ [])
closes_below start r rest n stop e =
    subst (NeverFalls (tick_of start r)) (append-nil (gaps_below n start r rest ++ stop ∷ []))
    (rising_new (tick_of start r) (tick_of start r) (omega arith) r.utc (gaps_below n start r rest) stop [] e (closing_ticks start r rest n) tt)

pub closes : (start : RunStart) → ClosesComeNext start
closes start before rest = record {
  places = continues_back start.channels start.place (recorder_after start before).made (closing start (recorder_after start before) rest) (closed_continues start before rest);
  ticks = closes_below start (recorder_after start before) rest 16 (stop_of start (recorder_after start before) rest) refl;
}
