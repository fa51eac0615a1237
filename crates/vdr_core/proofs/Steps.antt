-- Each step of the machine keeps what the law says.
use Rattle.std.proofs.Common.{Bool, ℕ, List, None, Option, Some, [], ap, append-nil, append_assoc, arith, cond, drop, false, flat_map, is_none, length, nat_lt, refl, subst, suc, sym, true, true≢false, zero, ⊎_elim, ◌&&◌, ◌++◌, ◌+◌, ◌<◌, ◌==◌, ◌∙◌, ◌∷◌, ◌≡◌, ◌≤◌}
use Rattle.std.proofs.lemmas.Bool.{cases_eq, and_parts, eq-eqb, ne_eqb, eqb-true, ltb-true, cond-true, cond-false, cond_both}
use Rattle.std.proofs.lemmas.List.Elements.{All-push, All-nil}
use Rattle.std.proofs.lemmas.Grind.{flat_map-append}
use Rattle.std.proofs.Math.Seq.{drop-append_seam}
use Rattle.vdr_terms.specs.Records.{Record, Item, records_of}
use Rattle.vdr_terms.specs.declared.datagram.Verdict.{Verdict}
use Rattle.vdr_terms.specs.Datagrams.{verdict}
use Rattle.vdr_terms.specs.declared.datagram.Verdict.TheVariants.{Yes, Bad, Large}
use Rattle.vdr_terms.specs.Rates.{Limit, is_configured}
use Rattle.vdr_core.specs.Runs.{Stamp, base_of}
use Rattle.vdr_core.specs.Histories.{Act, records_of_act}
use Rattle.vdr_core.specs.Histories.Act.{Commit}
use Rattle.vdr_terms.specs.Counting.{Pending, one_full, one_bad, one_large}
use Rattle.vdr_core.specs.Recorder.{begun, Recorder, tick_of, recorder_after, closing}
use Rattle.vdr_core.specs.Machine.{Plan, Lane, Ended, State, Step, idle, opened, start_of, recorder, committed, takes_from, with_lane, with_item, counted, queued, dropped, drops, offered, pushes, was_full, turned_away, fulls, with_queue, popped, pops, all_quiet, rest_of, run_of, ends, closes, puts, adds, restarts, state_after, after}
use Rattle.vdr_core.specs.Machine.Step.{Save, Release, Look, Take, Drop, Push, Full, Pop, Commit, CloseRun, PowerFails, Restart}
use Rattle.vdr_core.specs.Law.{Admits, EachItemHasItsPlace, RunAccounts, AllRunsAccount, HistoryIsRuns}
use Rattle.vdr_core.specs.Taken.{AreQueued, Captured}
use Rattle.vdr_core.proofs.Counted.{counts_bad, counts_large, counts_full}
use Rattle.vdr_core.proofs.Lanes.{Inv, inv_took, inv_counted, inv_queued}
use Rattle.vdr_core.proofs.Taking.{AllLanes, begun_lanes, took_keeps, all_grows, made_paired, one_more_taken, more_taken}
use Rattle.vdr_core.proofs.Ends.{closed, cut}

-- what each step keeps
pub record Good (plan : Plan) (w : State) : Type 0 where
  pub lanes : AllLanes (start_of plan w) (recorder plan w) w.lanes
  pub beyond : (g : ℕ) → 16 ≤ g → w.lanes g ≡ idle
  pub ended : AllRunsAccount plan w
  pub history : HistoryIsRuns plan w

lane_here : (lanes : ℕ → Lane) (g : ℕ) (l : Lane) → with_lane lanes g l g ≡ l
lane_here lanes g l = cond-true (g == g) l (lanes g) (eq-eqb g g refl)

lane_there : (lanes : ℕ → Lane) (g : ℕ) (l : Lane) (h : ℕ) → (g ≡ h → ⊥) → with_lane lanes g l h ≡ lanes h
lane_there lanes g l h ne = cond-false (h == g) l (lanes h) (ne_eqb h g (λ q. ne (sym q)))

-- a lane's fact, where one lane was changed
pub with_lane_keeps : (P : ℕ → Lane → Type 0) (lanes : ℕ → Lane) (g : ℕ) (l : Lane) → P g l → ((h : ℕ) → (g ≡ h → ⊥) → P h (lanes h)) → (h : ℕ) → P h (with_lane lanes g l h)
with_lane_keeps P lanes g l mine others h =
    ⊎_elim
    (λ (e : g ≡ h). subst (λ (k : ℕ). P k (with_lane lanes g l k)) e (subst (P g) (sym (lane_here lanes g l)) mine))
    (λ (ne : g ≡ h → ⊥). subst (P h) (sym (lane_there lanes g l h ne)) (others h ne))
    (cases_eq g h)

-- a step that changes one lane alone, and leaves an idle one idle
one_lane : (plan : Plan) (w : State) (g : ℕ) (f : Lane → Lane) → Good plan w → (16 ≤ g → f idle ≡ idle)
    → Inv (plan.limits g) (base_of (start_of plan w)) (tick_of (start_of plan w) (recorder plan w)) g (records_of g (recorder plan w).made) ((recorder plan w).pending g) (f (w.lanes g))
    → Good plan (record w { lanes = with_lane w.lanes g (f (w.lanes g)) })
one_lane plan w g f h rests mine = record {
  lanes = with_lane_keeps (λ (k : ℕ) (l : Lane). Inv (plan.limits k) (base_of (start_of plan w)) (tick_of (start_of plan w) (recorder plan w)) k (records_of k (recorder plan w).made) ((recorder plan w).pending k) l)
      w.lanes g (f (w.lanes g)) mine (λ k ne. h.lanes k);
  beyond = with_lane_keeps (λ (k : ℕ) (l : Lane). 16 ≤ k → l ≡ idle) w.lanes g (f (w.lanes g)) (λ far. ap f (h.beyond g far) ∙ rests far) (λ k ne. h.beyond k);
  ended = h.ended;
  history = h.history;
}

module _ (limit : Limit) (base tick g : ℕ) (rs : List Record) (p : Pending) (l : Lane) where
  dropped_keeps : (i : Item) (v : Verdict) → verdict i.bytes ≡ v → l.worker ≡ Some i → Inv limit base tick g rs p l → Inv limit base tick g rs p (dropped v l)
  dropped_keeps i Yes e k h = h
  dropped_keeps i Bad e k h = inv_counted limit base g tick rs p l one_bad i k (λ c items a. counts_bad c items i a e) h
  dropped_keeps i Large e k h = inv_counted limit base g tick rs p l one_large i k (λ c items a. counts_large c items i a e) h

  drops_keep : (o : Option Item) → l.worker ≡ o → Inv limit base tick g rs p l → Inv limit base tick g rs p (drops o l)
  drops_keep None k h = h
  drops_keep (Some i) k h = dropped_keeps i (verdict i.bytes) refl k h

  offered_keeps : (capacity : ℕ) (i : Item) (v : Verdict) → verdict i.bytes ≡ v → l.worker ≡ Some i → Inv limit base tick g rs p l → Inv limit base tick g rs p (offered capacity g i v l)
  offered_keeps capacity i Yes e k h =
      cond_both (nat_lt (length l.queue) capacity) (queued g i l) l (Inv limit base tick g rs p) (λ _. inv_queued limit base g tick rs p l i k e h) (λ _. h)
  offered_keeps capacity i Bad e k h = h
  offered_keeps capacity i Large e k h = h

  pushes_keep : (capacity : ℕ) (o : Option Item) → l.worker ≡ o → Inv limit base tick g rs p l → Inv limit base tick g rs p (pushes capacity g o l)
  pushes_keep capacity None k h = h
  pushes_keep capacity (Some i) k h = offered_keeps capacity i (verdict i.bytes) refl k h

  inv_was_full : Inv limit base tick g rs p (counted one_full l) → Inv limit base tick g rs p (was_full l)
  inv_was_full h = record {
    used = h.used;
    waiting = h.waiting;
    inside = h.inside;
    since = h.since;
    order = h.order;
    recorded = h.recorded;
    is_pending = h.is_pending;
    first = h.first;
    is_queued = h.is_queued;
    is_counted = h.is_counted;
    taken = h.taken;
    latest = h.latest;
  }

  turned_away_keeps : (capacity : ℕ) (i : Item) (v : Verdict) → verdict i.bytes ≡ v → l.worker ≡ Some i → Inv limit base tick g rs p l → Inv limit base tick g rs p (turned_away capacity v l)
  turned_away_keeps capacity i Yes e k h =
      cond_both (nat_lt (length l.queue) capacity) l (was_full l) (Inv limit base tick g rs p) (λ _. h)
      (λ _. inv_was_full (inv_counted limit base g tick rs p l one_full i k (λ c items a. counts_full c items i a e) h))
  turned_away_keeps capacity i Bad e k h = h
  turned_away_keeps capacity i Large e k h = h

  fulls_keep : (capacity : ℕ) (o : Option Item) → l.worker ≡ o → Inv limit base tick g rs p l → Inv limit base tick g rs p (fulls capacity o l)
  fulls_keep capacity None k h = h
  fulls_keep capacity (Some i) k h = turned_away_keeps capacity i (verdict i.bytes) refl k h

pub nobody : (o : Option Item) → is_none o ≡ true → o ≡ None
nobody None e = refl
nobody (Some i) e = absurd (true≢false (sym e))

pub no_items : (xs : List Captured) → length xs ≡ 0 → xs ≡ []
no_items [] e = refl
no_items (x ∷ xs) e = absurd (omega (arith, e))

take_keeps : (plan : Plan) (w : State) (g : ℕ) (i : Item) → Good plan w → Good plan (state_after plan w (Take g i))
take_keeps plan w g i h =
    cond_both (w.running && takes_from plan g && is_none (w.lanes g).worker) (record w { lanes = with_lane w.lanes g (with_item i (w.lanes g)) }) w (Good plan)
    (λ e. let p = and_parts (w.running && takes_from plan g) (is_none (w.lanes g).worker) e in
    let q = and_parts w.running (takes_from plan g) p.0 in
    let r = and_parts (nat_lt g 16) (is_configured (plan.limits g)) q.1 in
    one_lane plan w g (with_item i) h (λ far. absurd (near (ltb-true g 16 r.0) far))
    (inv_took (plan.limits g) (base_of (start_of plan w)) g (tick_of (start_of plan w) (recorder plan w)) (records_of g (recorder plan w).made) ((recorder plan w).pending g) (w.lanes g) i (nobody (w.lanes g).worker p.1) (h.lanes g)))
    (λ _. h)
  where
    near : g < 16 → 16 ≤ g → ⊥
    near a b = omega arith

-- the front of a queue is of the queue's group
pub front_group : (plan : Plan) (w : State) (g : ℕ) (c : Captured) (rest : List Captured) → (w.lanes g).queue ≡ c ∷ rest → Good plan w → c.group ≡ g
front_group plan w g c rest e h =
    let i : Inv (plan.limits g) (base_of (start_of plan w)) (tick_of (start_of plan w) (recorder plan w)) g (records_of g (recorder plan w).made) ((recorder plan w).pending g) (w.lanes g) = h.lanes g in
    let q : AreQueued g (length i.used + length i.waiting) (c ∷ rest) i.inside = subst (λ (q : List Captured). AreQueued g (length i.used + length i.waiting) q i.inside) e i.is_queued in
    q.5.group

popped_keeps : (plan : Plan) → Admits plan.limits → (w : State) (c : Captured) (rest : List Captured) → (w.lanes c.group).queue ≡ c ∷ rest → Good plan w → Good plan (popped w c.group c rest)
popped_keeps plan ok w c rest e h = record {
  lanes = subst (λ (r : Recorder). AllLanes (start_of plan w) r (with_lane w.lanes c.group (with_queue rest (w.lanes c.group))))
      (sym (one_more_taken (start_of plan w) (w.taken ++ w.hand) c) ∙ ap (recorder_after (start_of plan w)) (append_assoc w.taken w.hand (c ∷ [])))
      (took_keeps (start_of plan w) ok (recorder plan w) c rest w.lanes (with_lane w.lanes c.group (with_queue rest (w.lanes c.group))) e
      (lane_here w.lanes c.group (with_queue rest (w.lanes c.group))) (lane_there w.lanes c.group (with_queue rest (w.lanes c.group))) h.lanes);
  beyond = with_lane_keeps (λ (k : ℕ) (l : Lane). 16 ≤ k → l ≡ idle) w.lanes c.group (with_queue rest (w.lanes c.group))
      (λ far. absurd (none (sym e ∙ ap (λ (l : Lane). l.queue) (h.beyond c.group far)))) (λ k ne. h.beyond k);
  ended = h.ended;
  history = h.history;
}
  where
    none : c ∷ rest ≡ [] → ⊥
    none q = omega (arith, ap (λ (xs : List Captured). length xs) q)

pops_keep : (plan : Plan) → Admits plan.limits → (w : State) (g : ℕ) (queue : List Captured) → (w.lanes g).queue ≡ queue → Good plan w → Good plan (pops w g queue)
pops_keep plan ok w g [] e h = h
pops_keep plan ok w g (c ∷ rest) e h =
    subst (λ (k : ℕ). (w.lanes k).queue ≡ c ∷ rest → Good plan (popped w k c rest)) (front_group plan w g c rest e h) (λ q. popped_keeps plan ok w c rest q h) e

abbrev ended_records : State → List Record
ended_records w = flat_map (λ run. run.records) w.ended

-- the history of a run in progress
running_history : (plan : Plan) (w : State) → w.running ≡ true → Good plan w → flat_map records_of_act w.history ≡ ended_records w ++ committed plan w
running_history plan w e h = h.history ∙ ap (λ (xs : List Record). ended_records w ++ xs) (cond-true w.running (committed plan w) [] e)

put_tail : (a m rest : List Record) → m ≡ a ++ rest → a ++ (drop (length a) m ++ []) ≡ m
put_tail a m rest e = ap (λ (m : List Record). a ++ (drop (length a) m ++ [])) e ∙ (ap (λ (xs : List Record). a ++ (xs ++ [])) (drop-append_seam a rest) ∙ (ap (λ (xs : List Record). a ++ xs) (append-nil rest) ∙ sym e))

pub more_made : (plan : Plan) (w : State) → (rest : List Record) × ((recorder plan w).made ≡ committed plan w ++ rest)
more_made plan w =
    let p = all_grows (start_of plan w) (recorder_after (start_of plan w) w.taken) w.hand in
    (p.0, ap (λ (r : Recorder). r.made) (more_taken (start_of plan w) w.taken w.hand) ∙ p.1)

put_keeps : (plan : Plan) (w : State) → Good plan w → Good plan (state_after plan w Commit)
put_keeps plan w h =
    cond_both w.running (puts plan w) w (Good plan)
    (λ e. record {
      lanes = subst (λ (xs : List Captured). AllLanes (start_of plan w) (recorder_after (start_of plan w) xs) w.lanes) (sym (append-nil (w.taken ++ w.hand))) h.lanes;
      beyond = h.beyond;
      ended = h.ended;
      history = put_history e;
    })
    (λ _. h)
  where
    put_history : w.running ≡ true → flat_map records_of_act (puts plan w).history ≡ ended_records w ++ cond w.running (committed plan (puts plan w)) []
    put_history e = flat_map-append records_of_act w.history (Commit (drop (length (committed plan w)) (recorder plan w).made) w.hand ∷ [])
        ∙ (ap (λ (xs : List Record). xs ++ (drop (length (committed plan w)) (recorder plan w).made ++ [])) (running_history plan w e h)
        ∙ (append_assoc (ended_records w) (committed plan w) (drop (length (committed plan w)) (recorder plan w).made ++ [])
        ∙ (ap (λ (xs : List Record). ended_records w ++ xs) (put_tail (committed plan w) (recorder plan w).made (more_made plan w).0 (more_made plan w).1)
        ∙ ap (λ (xs : List Record). ended_records w ++ xs) (sym (cond-true w.running (recorder plan w).made [] e)))))

-- a run that has ended leaves idle lanes
ended_keeps : (plan : Plan) (w : State) (is_closed : Bool) (records : List Record) (acts : List Act) → Good plan w
    → RunAccounts plan is_closed (run_of plan is_closed records w)
    → flat_map records_of_act (w.history ++ acts) ≡ flat_map (λ run. run.records) w.ended ++ records
    → Good plan (ends plan is_closed records acts w)
ended_keeps plan w is_closed records acts h run same = record {
  lanes = begun_lanes (start_of plan (ends plan is_closed records acts w));
  beyond = λ g far. refl;
  ended = All-push (λ (r : Ended). RunAccounts plan r.closed r) w.ended (run_of plan is_closed records w) h.ended run;
  history = same ∙ (ap (λ (xs : List Record). flat_map (λ (run : Ended). run.records) w.ended ++ xs) (sym (append-nil records))
      ∙ (sym (flat_map-append (λ (run : Ended). run.records) w.ended (run_of plan is_closed records w ∷ []))
      ∙ sym (append-nil (flat_map (λ (run : Ended). run.records) (w.ended ++ run_of plan is_closed records w ∷ [])))));
}

pub quiet_at : (n : ℕ) (lanes : ℕ → Lane) (g : ℕ) → g < n → all_quiet n lanes ≡ true → ((lanes g).worker ≡ None) × ((lanes g).queue ≡ [])
quiet_at zero lanes g l e = absurd (omega arith)
quiet_at (suc n) lanes g l e =
    let p = and_parts (all_quiet n lanes) (is_none (lanes n).worker && length (lanes n).queue == 0) e in
    let q = and_parts (is_none (lanes n).worker) (length (lanes n).queue == 0) p.1 in
    ⊎_elim
    (λ (same : g ≡ n). subst (λ (k : ℕ). ((lanes k).worker ≡ None) × ((lanes k).queue ≡ [])) (sym same)
    (nobody (lanes n).worker q.0, no_items (lanes n).queue (eqb-true (length (lanes n).queue) 0 q.1)))
    (λ (ne : g ≡ n → ⊥). quiet_at n lanes g (omega arith) p.0)
    (cases_eq g n)

close_keeps : (plan : Plan) (w : State) → Good plan w → Good plan (state_after plan w CloseRun)
close_keeps plan w h =
    cond_both (w.running && length w.hand == 0 && all_quiet 16 w.lanes) (closes plan w) w (Good plan)
    (λ e. let p = and_parts (w.running && length w.hand == 0) (all_quiet 16 w.lanes) e in
    let last_records : List Record = closing (start_of plan w) (recorder plan w) (rest_of w) in
    ended_keeps plan w true ((recorder plan w).made ++ last_records) (Commit last_records [] ∷ []) h
    (closed (start_of plan w) (recorder plan w) (rest_of w) w.lanes h.lanes (λ g. refl) (made_paired (start_of plan w) (w.taken ++ w.hand))
    (λ g far. ap (λ (l : Lane). l.given) (h.beyond g far)) (λ g l. quiet_at 16 w.lanes g l p.1))
    (let q = and_parts w.running (length w.hand == 0) p.0 in close_history (closing (start_of plan w) (recorder plan w) (rest_of w)) q.0 (no_items w.hand (eqb-true (length w.hand) 0 q.1))))
    (λ _. h)
  where
    close_history : (last_records : List Record) → w.running ≡ true → w.hand ≡ [] → flat_map records_of_act (w.history ++ Commit last_records [] ∷ []) ≡ ended_records w ++ ((recorder plan w).made ++ last_records)
    close_history last_records e empty_hand =
        flat_map-append records_of_act w.history (Commit last_records [] ∷ [])
        ∙ (ap (λ (xs : List Record). xs ++ (last_records ++ [])) (running_history plan w e h)
        ∙ (append_assoc (ended_records w) (committed plan w) (last_records ++ [])
        ∙ (ap (λ (xs : List Record). ended_records w ++ (committed plan w ++ xs)) (append-nil last_records)
        ∙ ap (λ (xs : List Captured). ended_records w ++ ((recorder_after (start_of plan w) xs).made ++ last_records))
        (sym (ap (λ (xs : List Captured). w.taken ++ xs) empty_hand ∙ append-nil w.taken)))))

cut_keeps : (plan : Plan) (w : State) → Good plan w → Good plan (state_after plan w PowerFails)
cut_keeps plan w h =
    cond_both w.running (ends plan false (committed plan w) [] w) w (Good plan)
    (λ e. ended_keeps plan w false (committed plan w) [] h
    (λ g. cut (plan.limits g) (base_of (start_of plan w)) (tick_of (start_of plan w) (recorder plan w)) g (committed plan w) more.0 ((recorder plan w).pending g) (w.lanes g)
    (made_paired (start_of plan w) w.taken)
    (subst (λ (xs : List Record). Inv (plan.limits g) (base_of (start_of plan w)) (tick_of (start_of plan w) (recorder plan w)) g (records_of g xs) ((recorder plan w).pending g) (w.lanes g)) more.1 (h.lanes g)))
    (ap (flat_map records_of_act) (append-nil w.history) ∙ running_history plan w e h))
    (λ _. h)
  where
    more : (rest : List Record) × ((recorder_after (start_of plan w) (w.taken ++ w.hand)).made ≡ (recorder_after (start_of plan w) w.taken).made ++ rest)
    more = let p = all_grows (start_of plan w) (recorder_after (start_of plan w) w.taken) w.hand in
        (p.0, ap (λ (r : Recorder). r.made) (more_taken (start_of plan w) w.taken w.hand) ∙ p.1)

restart_keeps : (plan : Plan) (w : State) → Good plan w → Good plan (state_after plan w Restart)
restart_keeps plan w h =
    cond_both w.running w (restarts plan w) (Good plan) (λ _. h)
    (λ e. record {
      lanes = begun_lanes (start_of plan w);
      beyond = λ g far. refl;
      ended = h.ended;
      history = flat_map-append records_of_act w.history (Commit (begun (start_of plan w)).made [] ∷ [])
          ∙ ap (λ (xs : List Record). xs ++ (begun (start_of plan w)).made)
          (h.history ∙ (ap (λ (xs : List Record). ended_records w ++ xs) (cond-false w.running (committed plan w) [] e) ∙ append-nil (ended_records w)));
    })

adds_keep : (plan : Plan) (w : State) (act : Act) → records_of_act act ≡ [] → Good plan w → Good plan (adds act w)
adds_keep plan w act none h = record {
  lanes = h.lanes;
  beyond = h.beyond;
  ended = h.ended;
  history = flat_map-append records_of_act w.history (act ∷ []) ∙ (ap (λ (xs : List Record). flat_map records_of_act w.history ++ (xs ++ [])) none ∙ (append-nil (flat_map records_of_act w.history) ∙ h.history));
}

pub step_keeps : (plan : Plan) → Admits plan.limits → (w : State) (step : Step) → Good plan w → Good plan (state_after plan w step)
step_keeps plan ok w (Take g i) h = take_keeps plan w g i h
step_keeps plan ok w (Drop g) h =
    one_lane plan w g (λ l. drops l.worker l) h (λ _. refl)
    (drops_keep (plan.limits g) (base_of (start_of plan w)) (tick_of (start_of plan w) (recorder plan w)) g (records_of g (recorder plan w).made) ((recorder plan w).pending g) (w.lanes g) (w.lanes g).worker refl (h.lanes g))
step_keeps plan ok w (Push g) h =
    one_lane plan w g (λ l. pushes plan.capacity g l.worker l) h (λ _. refl)
    (pushes_keep (plan.limits g) (base_of (start_of plan w)) (tick_of (start_of plan w) (recorder plan w)) g (records_of g (recorder plan w).made) ((recorder plan w).pending g) (w.lanes g) plan.capacity (w.lanes g).worker refl (h.lanes g))
step_keeps plan ok w (Full g) h =
    one_lane plan w g (λ l. fulls plan.capacity l.worker l) h (λ _. refl)
    (fulls_keep (plan.limits g) (base_of (start_of plan w)) (tick_of (start_of plan w) (recorder plan w)) g (records_of g (recorder plan w).made) ((recorder plan w).pending g) (w.lanes g) plan.capacity (w.lanes g).worker refl (h.lanes g))
step_keeps plan ok w (Pop g) h = pops_keep plan ok w g (w.lanes g).queue refl h
step_keeps plan ok w Commit h = put_keeps plan w h
step_keeps plan ok w (Save id label a b) h = adds_keep plan w (Act.Save id label a b) refl h
step_keeps plan ok w (Release id) h = adds_keep plan w (Act.Release id) refl h
step_keeps plan ok w Look h = adds_keep plan w Act.Look refl h
step_keeps plan ok w CloseRun h = close_keeps plan w h
step_keeps plan ok w PowerFails h = cut_keeps plan w h
step_keeps plan ok w Restart h = restart_keeps plan w h

pub good_opened : (plan : Plan) (place : ℕ) (last : Option Stamp) → Good plan (opened place last)
good_opened plan place last = record { lanes = begun_lanes (start_of plan (opened place last)); beyond = λ g far. refl; ended = All-nil (λ (r : Ended). RunAccounts plan r.closed r); history = refl }

steps_keep : (plan : Plan) → Admits plan.limits → (steps : List Step) (w : State) → Good plan w → Good plan (after plan steps w)
steps_keep plan ok [] w h = h
steps_keep plan ok (step ∷ steps) w h = steps_keep plan ok steps (state_after plan w step) (step_keeps plan ok w step h)

pub always : (plan : Plan) → Admits plan.limits → (place : ℕ) (last : Option Stamp) (steps : List Step) → Good plan (after plan steps (opened place last))
always plan ok place last steps = steps_keep plan ok steps (opened place last) (good_opened plan place last)

pub places : (plan : Plan) (w : State) → Good plan w → EachItemHasItsPlace plan w
places plan w h g =
    let i : Inv (plan.limits g) (base_of (start_of plan w)) (tick_of (start_of plan w) (recorder plan w)) g (records_of g (recorder plan w).made) ((recorder plan w).pending g) (w.lanes g) = h.lanes g in
    record {
      used = i.used;
      pending = i.waiting;
      queued = i.inside;
      counted = i.since;
      order = i.order;
      recorded = i.recorded;
      is_pending = i.is_pending;
      is_queued = i.is_queued;
      is_counted = i.is_counted;
    }
