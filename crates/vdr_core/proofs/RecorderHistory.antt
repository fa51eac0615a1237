-- The machine's history is a recorder's.
use Rattle.std.proofs.Common.{◌≡◌, ◌+◌, ℕ, List, [], ◌∷◌, ◌++◌, length, drop, true, false, cond, ◌&&◌, ◌==◌, Option, Some, is_none, refl, sym, ap, ◌∙◌, subst, arith, inl, inr, append-nil, length-append, true≢false}
use Rattle.std.proofs.lemmas.Bool.{and_parts, eqb-true, cond-true, cond-false, cond_both}
use Rattle.std.proofs.lemmas.List.Sums.{fold-append}
use Rattle.std.proofs.Math.Seq.{drop-append_seam}
use Rattle.vdr_terms.specs.declared.counts.Counts.{Counts}
use Rattle.vdr_terms.specs.Records.{Content, Record, last, last_after}
use Rattle.vdr_terms.specs.Records.Content.{Start, Datagram, Gap, Stop}
use Rattle.vdr_core.specs.Runs.{RunStart, Stamp}
use Rattle.vdr_core.specs.Taken.{Captured}
use Rattle.vdr_core.specs.Histories.{Act, stamp_of}
use Rattle.vdr_core.specs.Recorder.{begun, recorder_after, gaps_below, stop_of, closing}
use Rattle.vdr_core.specs.Shapes.{MayStandBefore, AreInside}
use Rattle.vdr_core.specs.RunStates.{RunState, is_start, is_stop, begin_run, ends_with_stop, end_run, next_start, after_commit, after_act, between_runs, state_along, IsMadeIn, AreMadeFrom}
use Rattle.vdr_core.specs.Machine.{Plan, Lane, State, Step, opened, start_at, start_of, recorder, committed, takes_from, with_lane, with_item, with_queue, pops, adds, rest_of, puts, closes, ends, restarts, all_quiet, state_after, after}
use Rattle.vdr_core.specs.Machine.Step.{Save, Release, Look, Take, Drop, Push, Full, Pop, Commit, CloseRun, PowerFails, Restart}
use Rattle.vdr_core.specs.Commits.{IsLeft, is_power_failure, PowerLasts, IsRecorders}
use Rattle.vdr_core.proofs.Meter.{last_snoc}
use Rattle.vdr_core.proofs.Steps.{no_items, more_made}
use Rattle.vdr_core.proofs.Commits.{further_items}

-- records of a run in progress neither begin nor end one
stands_inside : (later : List Record) (r : Record) (c : Content) → MayStandBefore later r c → (is_start c ≡ false) × (is_stop c ≡ false)
stands_inside later r Start h = absurd h
stands_inside later r (Datagram payload) h = (refl, refl)
stands_inside later r (Gap missed) h = (refl, refl)
stands_inside later r Stop h = absurd h

pub inside_begins_none : (xs : List Record) → AreInside xs → begin_run xs ≡ false
inside_begins_none [] h = refl
inside_begins_none (x ∷ xs) h = (stands_inside xs x x.content h.0).0

last_is_inside : (x : Record) (xs : List Record) → AreInside (x ∷ xs) → is_stop (last_after x xs).content ≡ false
last_is_inside x [] h = (stands_inside [] x x.content h.0).1
last_is_inside x (y ∷ xs) h = last_is_inside y xs h.1

pub inside_ends_none : (xs : List Record) → AreInside xs → end_run xs ≡ false
inside_ends_none [] h = refl
inside_ends_none (x ∷ xs) h = last_is_inside x xs h

pub stamp_append : (xs ys : List Record) (before : Option Stamp) → stamp_of (last (xs ++ ys)) before ≡ stamp_of (last ys) (stamp_of (last xs) before)
stamp_append [] ys before = refl
stamp_append (x ∷ xs) ys before = from x xs ys
  where
    from : (x : Record) (xs ys : List Record) → stamp_of (Some (last_after x (xs ++ ys))) before ≡ stamp_of (last ys) (stamp_of (Some (last_after x xs)) before)
    from x [] [] = refl
    from x [] (y ∷ ys) = refl
    from x (z ∷ xs) ys = from z xs ys

pub made_snoc : (s : RunState) (acts : List Act) (act : Act) → AreMadeFrom s acts → IsMadeIn (state_along s acts) act → AreMadeFrom s (acts ++ act ∷ [])
made_snoc s [] act h k = (k, tt)
made_snoc s (x ∷ acts) act h k = (h.0, made_snoc (after_act s x) acts act h.1 k)

module _ (plan : Plan) (s : RunState) (w : State) (h : IsLeft plan s w) where
  -- a run begins
  module _ (e : w.running ≡ false) where
    here : s.place ≡ w.place
    here = let a = h.place in let b = ap (λ (rs : List Record). length rs) (cond-false w.running (committed plan w) [] e) in omega (arith, a, b)

    begins_now : next_start s ≡ start_of plan w
    begins_now =
        let stamp : s.last ≡ w.last = h.stamp ∙ ap (λ (rs : List Record). stamp_of (last rs) w.last) (cond-false w.running (committed plan w) [] e) in
        λ i. record { limits = h.limits i; channels = h.channels i; place = here i; last = stamp i }

    begin_made : IsMadeIn s (Act.Commit (begun (start_of plan w)).made [])
    begin_made = inr (inl (record { is_closed = h.is_open ∙ e; made = sym (ap (λ (start : RunStart). (begun start).made) begins_now); none = refl }))

    begin_left : IsLeft plan (after_commit s (begun (start_of plan w)).made []) (restarts plan w)
    begin_left = record {
      is_open = refl;
      limits = h.limits;
      channels = h.channels;
      start = λ _. begins_now;
      popped = λ _. refl;
      place = let a = here in omega (arith, a);
      stamp = refl;
    }

  -- the recorder in an open run
  module _ (e : w.running ≡ true) where
    both : ◌≡◌ {A = RunStart × List Captured} (s.start, s.popped) (start_of plan w, w.taken)
    both = λ i. (h.start e i, h.popped e i)

    place_here : s.place ≡ w.place + length (committed plan w)
    place_here = h.place ∙ ap (λ (rs : List Record). w.place + length rs) (cond-true w.running (committed plan w) [] e)

    stamp_here : s.last ≡ stamp_of (last (committed plan w)) w.last
    stamp_here = h.stamp ∙ ap (λ (rs : List Record). stamp_of (last rs) w.last) (cond-true w.running (committed plan w) [] e)

    goes_on_made : (new : List Record) → (recorder plan w).made ≡ committed plan w ++ new → IsMadeIn s (Act.Commit new w.hand)
    goes_on_made new m = inl (record {
      is_open = h.is_open ∙ e;
      made = ap (λ (x : RunStart × List Captured). (recorder_after x.0 (x.1 ++ w.hand)).made) both
          ∙ (m ∙ sym (ap (λ (x : RunStart × List Captured). (recorder_after x.0 x.1).made ++ new) both));
    })

    goes_on_left : (new : List Record) → (recorder plan w).made ≡ committed plan w ++ new → begin_run new ≡ false → end_run new ≡ false → IsLeft plan (after_commit s new w.hand) (puts plan w)
    goes_on_left new m none_begins none_ends = record {
      is_open = cond-false (end_run new) false (cond (begin_run new) true s.is_open) none_ends ∙ (cond-false (begin_run new) true s.is_open none_begins ∙ h.is_open);
      limits = ap (λ (start : RunStart). start.limits) same ∙ h.limits;
      channels = ap (λ (start : RunStart). start.channels) same ∙ h.channels;
      start = λ _. same ∙ h.start e;
      popped = λ _. cond-false (begin_run new) w.hand (s.popped ++ w.hand) none_begins ∙ ap (λ (cs : List Captured). cs ++ w.hand) (h.popped e);
      place =
          (let a = place_here in let b = ap (λ (rs : List Record). length rs) m in let c = length-append (committed plan w) new in
          let d = ap (λ (rs : List Record). length rs) (cond-true w.running (recorder plan w).made [] e) in omega (arith, a, b, c, d));
      stamp = ap (stamp_of (last new)) stamp_here
          ∙ (sym (stamp_append (committed plan w) new w.last)
          ∙ (ap (λ (rs : List Record). stamp_of (last rs) w.last) (sym m)
          ∙ ap (λ (rs : List Record). stamp_of (last rs) w.last) (sym (cond-true w.running (recorder plan w).made [] e))));
    }
      where
        same : cond (begin_run new) (next_start s) s.start ≡ s.start
        same = cond-false (begin_run new) (next_start s) s.start none_begins

    -- a run that is closed, by records that end it
    closes_left : (closing_records : List Record) (acts : List Act) → end_run closing_records ≡ true → (recorder plan w).made ≡ committed plan w
        → IsLeft plan (after_commit s closing_records []) (ends plan true ((recorder plan w).made ++ closing_records) acts w)
    closes_left closing_records acts all_end m = record {
      is_open = cond-true (end_run closing_records) false (cond (begin_run closing_records) true s.is_open) all_end;
      limits = cond_both (begin_run closing_records) (next_start s) s.start (λ start. start.limits ≡ plan.limits) (λ _. h.limits) (λ _. h.limits);
      channels = cond_both (begin_run closing_records) (next_start s) s.start (λ start. start.channels ≡ plan.channels) (λ _. h.channels) (λ _. h.channels);
      start = λ q. absurd (true≢false (sym q));
      popped = λ q. absurd (true≢false (sym q));
      place = let a = place_here in let b = ap (λ (rs : List Record). length rs) m in let c = length-append (recorder plan w).made closing_records in omega (arith, a, b, c);
      stamp = ap (stamp_of (last closing_records)) (stamp_here ∙ ap (λ (rs : List Record). stamp_of (last rs) w.last) (sym m))
          ∙ sym (stamp_append (recorder plan w).made closing_records w.last);
    }

    closes_made : (rest : ℕ → Counts) → w.hand ≡ [] → IsMadeIn s (Act.Commit (closing (start_of plan w) (recorder plan w) rest) [])
    closes_made rest empty_hand = inr (inr (record {
      is_open = h.is_open ∙ e;
      rest = rest;
      made = ap (λ (cs : List Captured). closing (start_of plan w) (recorder_after (start_of plan w) cs) rest) (ap (λ (cs : List Captured). w.taken ++ cs) empty_hand ∙ append-nil w.taken)
          ∙ sym (ap (λ (x : RunStart × List Captured). closing x.0 (recorder_after x.0 x.1) rest) both);
      none = refl;
    }))

pub ends_with : (gaps : List Record) (stop : Record) → stop.content ≡ Stop → end_run (gaps ++ stop ∷ []) ≡ true
ends_with gaps stop e = ap ends_with_stop (last_snoc gaps stop) ∙ ap is_stop e

rest_is_drop : (a m rest : List Record) → m ≡ a ++ rest → m ≡ a ++ drop (length a) m
rest_is_drop a m rest e = e ∙ ap (λ (xs : List Record). a ++ xs) (sym (ap (drop (length a)) e ∙ drop-append_seam a rest))

module _ (plan : Plan) (opening : ℕ) (stamp : Option Stamp) where
  abbrev first : RunState
  first = between_runs (start_at plan opening stamp)

  one_act : (w v : State) (act : Act) → IsRecorders plan opening stamp w → v.history ≡ w.history ++ act ∷ [] → IsMadeIn (state_along first w.history) act
      → IsLeft plan (after_act (state_along first w.history) act) v → IsRecorders plan opening stamp v
  one_act w v act h e made left = record {
    made = subst (AreMadeFrom first) (sym e) (made_snoc first w.history act h.made made);
    left = subst (λ (s : RunState). IsLeft plan s v) (sym (ap (state_along first) e ∙ fold-append after_act first w.history (act ∷ []))) left;
  }

  same_left : (s : RunState) (w : State) (lanes : ℕ → Lane) (hand : List Captured) (history : List Act) → IsLeft plan s w → IsLeft plan s (record w { lanes = lanes; hand = hand; history = history })
  same_left s w lanes hand history h = record {
    is_open = h.is_open;
    limits = h.limits;
    channels = h.channels;
    start = h.start;
    popped = h.popped;
    place = h.place;
    stamp = h.stamp;
  }

  no_act : (w : State) (lanes : ℕ → Lane) (hand : List Captured) → IsRecorders plan opening stamp w → IsRecorders plan opening stamp (record w { lanes = lanes; hand = hand })
  no_act w lanes hand h = record { made = h.made; left = same_left (state_along first w.history) w lanes hand w.history h.left }

  pops_recorders : (w : State) (g : ℕ) (queue : List Captured) → IsRecorders plan opening stamp w → IsRecorders plan opening stamp (pops w g queue)
  pops_recorders w g [] h = h
  pops_recorders w g (c ∷ rest) h = no_act w (with_lane w.lanes g (with_queue rest (w.lanes g))) (w.hand ++ c ∷ []) h

  step_recorders : (w : State) (step : Step) → is_power_failure step ≡ false → IsRecorders plan opening stamp w → IsRecorders plan opening stamp (state_after plan w step)
  step_recorders w (Take g i) lasts h =
      cond_both (w.running && takes_from plan g && is_none (w.lanes g).worker) (record w { lanes = with_lane w.lanes g (with_item i (w.lanes g)) }) w (IsRecorders plan opening stamp)
      (λ _. no_act w (with_lane w.lanes g (with_item i (w.lanes g))) w.hand h) (λ _. h)
  step_recorders w (Drop g) lasts h = no_act w (state_after plan w (Drop g)).lanes w.hand h
  step_recorders w (Push g) lasts h = no_act w (state_after plan w (Push g)).lanes w.hand h
  step_recorders w (Full g) lasts h = no_act w (state_after plan w (Full g)).lanes w.hand h
  step_recorders w (Pop g) lasts h = pops_recorders w g (w.lanes g).queue h
  step_recorders w Commit lasts h = cond_both w.running (puts plan w) w (IsRecorders plan opening stamp)
      (λ e.
      let s : RunState = state_along first w.history in
      let new : List Record = drop (length (committed plan w)) (recorder plan w).made in
      let m : (recorder plan w).made ≡ committed plan w ++ new = rest_is_drop (committed plan w) (recorder plan w).made (more_made plan w).0 (more_made plan w).1 in
      let inside : AreInside new = (further_items (start_of plan w) w.taken w.hand new m).1 in
      one_act w (puts plan w) (Act.Commit new w.hand) h refl (goes_on_made plan s w h.left e new m)
      (goes_on_left plan s w h.left e new m (inside_begins_none new inside) (inside_ends_none new inside)))
      (λ _. h)
  step_recorders w (Save id label a b) lasts h = one_act w (adds (Act.Save id label a b) w) (Act.Save id label a b) h refl tt (same_left (state_along first w.history) w w.lanes w.hand (w.history ++ (Act.Save id label a b) ∷ []) h.left)
  step_recorders w (Release id) lasts h = one_act w (adds (Act.Release id) w) (Act.Release id) h refl tt (same_left (state_along first w.history) w w.lanes w.hand (w.history ++ (Act.Release id) ∷ []) h.left)
  step_recorders w Look lasts h = one_act w (adds Act.Look w) Act.Look h refl tt (same_left (state_along first w.history) w w.lanes w.hand (w.history ++ Act.Look ∷ []) h.left)
  step_recorders w CloseRun lasts h = cond_both (w.running && length w.hand == 0 && all_quiet 16 w.lanes) (closes plan w) w (IsRecorders plan opening stamp)
      (λ e.
      let s : RunState = state_along first w.history in
      let p = and_parts (w.running && length w.hand == 0) (all_quiet 16 w.lanes) e in
      let q = and_parts w.running (length w.hand == 0) p.0 in
      let empty_hand : w.hand ≡ [] = no_items w.hand (eqb-true (length w.hand) 0 q.1) in
      let closing_records : List Record = closing (start_of plan w) (recorder plan w) (rest_of w) in
      one_act w (closes plan w) (Act.Commit closing_records []) h refl (closes_made plan s w h.left q.0 (rest_of w) empty_hand)
      (closes_left plan s w h.left q.0 closing_records (Act.Commit closing_records [] ∷ [])
      (ends_with (gaps_below 16 (start_of plan w) (recorder plan w) (rest_of w)) (stop_of (start_of plan w) (recorder plan w) (rest_of w)) refl)
      (ap (λ (cs : List Captured). (recorder_after (start_of plan w) cs).made) (ap (λ (cs : List Captured). w.taken ++ cs) empty_hand ∙ append-nil w.taken))))
      (λ _. h)
  step_recorders w PowerFails lasts h = absurd (true≢false lasts)
  step_recorders w Restart lasts h = cond_both w.running w (restarts plan w) (IsRecorders plan opening stamp) (λ _. h)
      (λ e. let s : RunState = state_along first w.history in
      one_act w (restarts plan w) (Act.Commit (begun (start_of plan w)).made []) h refl (begin_made plan s w h.left e) (begin_left plan s w h.left e))

  steps_recorders : (steps : List Step) (w : State) → PowerLasts steps → IsRecorders plan opening stamp w → IsRecorders plan opening stamp (after plan steps w)
  steps_recorders [] w lasts h = h
  steps_recorders (step ∷ steps) w lasts h = steps_recorders steps (state_after plan w step) lasts.1 (step_recorders w step lasts.0 h)

  pub are_recorders : (steps : List Step) → PowerLasts steps → IsRecorders plan opening stamp (after plan steps (opened opening stamp))
  are_recorders steps lasts = steps_recorders steps (opened opening stamp) lasts (record {
    made = tt;
    left = record {
      is_open = refl;
      limits = refl;
      channels = refl;
      start = λ q. absurd (true≢false (sym q));
      popped = λ q. absurd (true≢false (sym q));
      place = omega arith;
      stamp = refl;
    };
  })
