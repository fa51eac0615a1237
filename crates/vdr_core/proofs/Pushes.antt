-- Each step of the machine keeps what the feeders have pushed.
use Rattle.std.proofs.Common.{◌≡◌, ℕ, List, [], ◌∷◌, ◌++◌, length, ◌&&◌, ◌==◌, nat_lt, Option, Some, None, is_none, false, refl, sym, ap, ◌∙◌, subst, arith, append-nil, append_assoc, length-append}
use Rattle.std.proofs.lemmas.Bool.{and_parts, eq-eqb, ne_eqb, ltb-false, cond-true, cond-false, cond_both}
use Rattle.std.proofs.lemmas.List.Elements.{filter-append}
use Rattle.vdr_terms.specs.Records.{Item}
use Rattle.vdr_terms.specs.declared.datagram.Verdict.{Verdict}
use Rattle.vdr_terms.specs.declared.datagram.Verdict.TheVariants.{Yes, Bad, Large}
use Rattle.vdr_terms.specs.Datagrams.{verdict}
use Rattle.vdr_terms.specs.Counting.{one_bad, one_large}
use Rattle.vdr_core.specs.Taken.{Captured, of_group}
use Rattle.vdr_core.specs.Machine.{Plan, Lane, State, Step, takes_from, with_lane, with_item, captured, queued, was_full, dropped, drops, offered, pushes, turned_away, fulls, with_queue, popped, pops, all_quiet, puts, closes, ends, restarts, committed, state_after}
use Rattle.vdr_core.specs.Machine.Step.{Save, Release, Look, Take, Drop, Push, Full, Pop, Commit, CloseRun, PowerFails, Restart}
use Rattle.vdr_core.proofs.Counted.{counts_bad, counts_large}
use Rattle.vdr_core.proofs.Feeders.{Pushed, pushed_idle, pushed_took, pushed_counted, pushed_was_full, pushed_queued, pushed_popped}
use Rattle.vdr_core.proofs.Steps.{Good, with_lane_keeps, nobody, front_group}

-- the feeder of a lane has pushed what was popped and what is queued
abbrev Keeps : ℕ → List Captured → ℕ → Lane → Type 0
Keeps capacity popped g l = Pushed capacity g (popped ++ l.queue) l

abbrev pub Queues : Plan → State → Type 0
Queues plan w = (g : ℕ) → Pushed plan.capacity g (of_group g (w.taken ++ w.hand) ++ (w.lanes g).queue) (w.lanes g)

module _ (capacity : ℕ) (before : List Captured) (g : ℕ) (l : Lane) (h : Keeps capacity before g l) where
  drops_keep : (o : Option Item) → l.worker ≡ o → Keeps capacity before g (drops o l)
  drops_keep None k = h
  drops_keep (Some i) k = go (verdict i.bytes) refl
    where
      go : (v : Verdict) → verdict i.bytes ≡ v → Keeps capacity before g (dropped v l)
      go Yes e = h
      go Bad e = pushed_counted capacity g (before ++ l.queue) l h one_bad i k (λ c items a. counts_bad c items i a e) (λ c. refl)
      go Large e = pushed_counted capacity g (before ++ l.queue) l h one_large i k (λ c items a. counts_large c items i a e) (λ c. refl)

  pushes_keep : (o : Option Item) → l.worker ≡ o → Keeps capacity before g (pushes capacity g o l)
  pushes_keep None k = h
  pushes_keep (Some i) k = go (verdict i.bytes) refl
    where
      go : (v : Verdict) → verdict i.bytes ≡ v → Keeps capacity before g (offered capacity g i v l)
      go Yes e = cond_both (nat_lt (length l.queue) capacity) (queued g i l) l (Keeps capacity before g)
          (λ _. subst (λ (all : List Captured). Pushed capacity g all (queued g i l)) (append_assoc before l.queue (captured g i l.tally ∷ []))
          (pushed_queued capacity g (before ++ l.queue) l h i k e))
          (λ _. h)
      go Bad e = h
      go Large e = h

  fulls_keep : (o : Option Item) → l.worker ≡ o → Keeps capacity before g (fulls capacity o l)
  fulls_keep None k = h
  fulls_keep (Some i) k = go (verdict i.bytes) refl
    where
      go : (v : Verdict) → verdict i.bytes ≡ v → Keeps capacity before g (turned_away capacity v l)
      go Yes e = cond_both (nat_lt (length l.queue) capacity) l (was_full l) (Keeps capacity before g)
          (λ _. h)
          (λ full. pushed_was_full capacity g (before ++ l.queue) l h i k e
          (let a = ltb-false (length l.queue) capacity full in let b = length-append before l.queue in omega (arith, a, b)))
      go Bad e = h
      go Large e = h

one_lane : (plan : Plan) (w : State) (g : ℕ) (l : Lane) → Queues plan w → Keeps plan.capacity (of_group g (w.taken ++ w.hand)) g l
    → Queues plan (record w { lanes = with_lane w.lanes g l })
one_lane plan w g l h mine =
    with_lane_keeps (λ (k : ℕ) (l : Lane). Keeps plan.capacity (of_group k (w.taken ++ w.hand)) k l) w.lanes g l mine (λ k ne. h k)

-- the front of a queue is popped
popped_keeps : (plan : Plan) (w : State) (c : Captured) (rest : List Captured) → (w.lanes c.group).queue ≡ c ∷ rest → Queues plan w → Queues plan (popped w c.group c rest)
popped_keeps plan w c rest e h =
    with_lane_keeps (λ (k : ℕ) (l : Lane). Keeps plan.capacity (of_group k (w.taken ++ (w.hand ++ c ∷ []))) k l) w.lanes c.group (with_queue rest (w.lanes c.group))
    (subst (λ (all : List Captured). Pushed plan.capacity c.group all (with_queue rest (w.lanes c.group)))
    (ap (λ (cs : List Captured). of_group c.group (w.taken ++ w.hand) ++ cs) e
    ∙ (sym (append_assoc (of_group c.group (w.taken ++ w.hand)) (c ∷ []) rest)
    ∙ ap (λ (cs : List Captured). cs ++ rest) (sym (more c.group ∙ ap (λ (cs : List Captured). of_group c.group (w.taken ++ w.hand) ++ cs) (cond-true (c.group == c.group) (c ∷ []) [] (eq-eqb c.group c.group refl))))))
    (pushed_popped plan.capacity c.group (of_group c.group (w.taken ++ w.hand) ++ (w.lanes c.group).queue) (w.lanes c.group) (h c.group) rest))
    (λ k ne. subst (λ (cs : List Captured). Keeps plan.capacity cs k (w.lanes k))
    (sym (more k ∙ (ap (λ (cs : List Captured). of_group k (w.taken ++ w.hand) ++ cs) (cond-false (c.group == k) (c ∷ []) [] (ne_eqb c.group k ne)) ∙ append-nil (of_group k (w.taken ++ w.hand)))))
    (h k))
  where
    more : (k : ℕ) → of_group k (w.taken ++ (w.hand ++ c ∷ [])) ≡ of_group k (w.taken ++ w.hand) ++ of_group k (c ∷ [])
    more k = ap (of_group k) (sym (append_assoc w.taken w.hand (c ∷ []))) ∙ filter-append (λ (c : Captured). c.group == k) (w.taken ++ w.hand) (c ∷ [])

pops_keep : (plan : Plan) (w : State) (g : ℕ) (queue : List Captured) → (w.lanes g).queue ≡ queue → Good plan w → Queues plan w → Queues plan (pops w g queue)
pops_keep plan w g [] e good h = h
pops_keep plan w g (c ∷ rest) e good h =
    subst (λ (k : ℕ). (w.lanes k).queue ≡ c ∷ rest → Queues plan (popped w k c rest)) (front_group plan w g c rest e good) (λ q. popped_keeps plan w c rest q h) e

pub pushes_step : (plan : Plan) (w : State) (step : Step) → Good plan w → Queues plan w → Queues plan (state_after plan w step)
pushes_step plan w (Take g i) good h =
    cond_both (w.running && takes_from plan g && is_none (w.lanes g).worker) (record w { lanes = with_lane w.lanes g (with_item i (w.lanes g)) }) w (Queues plan)
    (λ e. one_lane plan w g (with_item i (w.lanes g)) h
    (pushed_took plan.capacity g (of_group g (w.taken ++ w.hand) ++ (w.lanes g).queue) (w.lanes g) (h g) i
    (nobody (w.lanes g).worker (and_parts (w.running && takes_from plan g) (is_none (w.lanes g).worker) e).1)))
    (λ _. h)
pushes_step plan w (Drop g) good h = one_lane plan w g (drops (w.lanes g).worker (w.lanes g)) h (drops_keep plan.capacity (of_group g (w.taken ++ w.hand)) g (w.lanes g) (h g) (w.lanes g).worker refl)
pushes_step plan w (Push g) good h = one_lane plan w g (pushes plan.capacity g (w.lanes g).worker (w.lanes g)) h (pushes_keep plan.capacity (of_group g (w.taken ++ w.hand)) g (w.lanes g) (h g) (w.lanes g).worker refl)
pushes_step plan w (Full g) good h = one_lane plan w g (fulls plan.capacity (w.lanes g).worker (w.lanes g)) h (fulls_keep plan.capacity (of_group g (w.taken ++ w.hand)) g (w.lanes g) (h g) (w.lanes g).worker refl)
pushes_step plan w (Pop g) good h = pops_keep plan w g (w.lanes g).queue refl good h
pushes_step plan w Commit good h =
    cond_both w.running (puts plan w) w (Queues plan)
    (λ _ g. subst (λ (cs : List Captured). Keeps plan.capacity (of_group g cs) g (w.lanes g)) (sym (append-nil (w.taken ++ w.hand))) (h g))
    (λ _. h)
pushes_step plan w (Save id label a b) good h = h
pushes_step plan w (Release id) good h = h
pushes_step plan w Look good h = h
pushes_step plan w CloseRun good h =
    cond_both (w.running && length w.hand == 0 && all_quiet 16 w.lanes) (closes plan w) w (Queues plan) (λ _ g. pushed_idle plan.capacity g) (λ _. h)
pushes_step plan w PowerFails good h =
    cond_both w.running (ends plan false (committed plan w) [] w) w (Queues plan) (λ _ g. pushed_idle plan.capacity g) (λ _. h)
pushes_step plan w Restart good h =
    cond_both w.running w (restarts plan w) (Queues plan) (λ _. h) (λ _ g. pushed_idle plan.capacity g)
