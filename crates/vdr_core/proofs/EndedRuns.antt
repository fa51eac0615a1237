-- What holds of each run of the machine that has ended.
use Rattle.std.proofs.Common.{◌≡◌, ◌≤◌, ◌<◌, ℕ, List, [], ◌++◌, length, true, false, ◌==◌, Option, None, option_to_list, refl, ap, ◌∙◌, subst, ⊎_elim, append-nil, append_assoc}
use Rattle.std.proofs.lemmas.Bool.{cases_lt}
use Rattle.std.proofs.lemmas.List.Elements.{filter-append}
use Rattle.vdr_terms.specs.Records.{Item}
use Rattle.vdr_core.specs.Runs.{RunStart, base_of}
use Rattle.vdr_core.specs.Taken.{Captured, Feeds, AllFeed, AreQueued, of_group}
use Rattle.vdr_core.specs.Recorder.{begun, tick_of, closed_run}
use Rattle.vdr_core.specs.Sums.{Sums}
use Rattle.vdr_core.specs.FullCounts.{AreFullSteps}
use Rattle.vdr_core.specs.Machine.{Plan, Lane, Ended, State, start_of, committed, rest_of, run_of, all_quiet}
use Rattle.vdr_core.specs.Law.{Admits, IsRun}
use Rattle.vdr_core.specs.Ended.{HasEnded, RunAddsUp, RunCountsFull}
use Rattle.vdr_core.proofs.Feeders.{Pushed, pushed_lane}
use Rattle.vdr_core.proofs.Steps.{Good, quiet_at}
use Rattle.vdr_core.proofs.Pushes.{Queues}
use Rattle.vdr_core.proofs.Ticking.{are_runs, open_is_run}
use Rattle.vdr_core.proofs.EmptyGaps.{made_say, closed_say}
use Rattle.vdr_core.proofs.Shapes.{made_open, closed_shape}
use Rattle.vdr_core.proofs.RunSums.{closed_sums}
use Rattle.vdr_core.proofs.FullCounts.{closed_counts}

-- what is known of a run once it has ended
pub record Known (plan : Plan) (run : Ended) : Type 0 where
  pub has_ended : HasEnded run
  pub adds_up : RunAddsUp run.closed run
  pub counts_full : RunCountsFull plan.capacity run.closed run

module _ (capacity g : ℕ) (popped : List Captured) (l : Lane) (h : Pushed capacity g (popped ++ l.queue) l) (no_worker : l.worker ≡ None) (no_queue : l.queue ≡ []) where
  all_popped : popped ++ l.queue ≡ popped
  all_popped = ap (λ (cs : List Captured). popped ++ cs) no_queue ∙ append-nil popped

  -- a lane that is done
  feeds : Feeds g popped l.tally.missed l.given
  feeds = record {
    inside = h.inside;
    since = h.since;
    order = h.order ∙ (ap (λ (w : Option Item). h.inside ++ h.since ++ option_to_list w) no_worker ∙ append-nil (h.inside ++ h.since));
    is_queued = subst (λ (cs : List Captured). AreQueued g 0 cs h.inside) all_popped h.is_queued;
    is_counted = h.is_counted;
  }

  full_steps : AreFullSteps capacity l.full_steps popped l.tally.missed
  full_steps = subst (λ (cs : List Captured). AreFullSteps capacity l.full_steps cs l.tally.missed) all_popped (record { counted = h.counted; held = h.held })

module _ (plan : Plan) (ok : Admits plan.limits) (w : State) (good : Good plan w) (queues : Queues plan w) where
  abbrev here : RunStart
  here = start_of plan w

  module _ (quiet : all_quiet 16 w.lanes ≡ true) where
    is_quiet : (g : ℕ) → ((w.lanes g).worker ≡ None) × ((w.lanes g).queue ≡ [])
    is_quiet g = ⊎_elim
        (λ (l : g < 16). quiet_at 16 w.lanes g l quiet)
        (λ (far : 16 ≤ g). (ap (λ (l : Lane). l.worker) (good.beyond g far), ap (λ (l : Lane). l.queue) (good.beyond g far)))
        (cases_lt g 16)

    all_feed : AllFeed (w.taken ++ w.hand) (rest_of w) (λ g. (w.lanes g).given)
    all_feed = record {
      lanes = λ g. feeds plan.capacity g (of_group g (w.taken ++ w.hand)) (w.lanes g) (queues g) (is_quiet g).0 (is_quiet g).1;
      beyond = λ g far. ap (λ (l : Lane). l.given) (good.beyond g far);
    }

    full : (g : ℕ) → AreFullSteps plan.capacity (w.lanes g).full_steps (of_group g (w.taken ++ w.hand)) (rest_of w g)
    full g = full_steps plan.capacity g (of_group g (w.taken ++ w.hand)) (w.lanes g) (queues g) (is_quiet g).0 (is_quiet g).1

    pub closed_known : Known plan (run_of plan true (closed_run here (w.taken ++ w.hand) (rest_of w)) w)
    closed_known = record {
      has_ended = record {
        is_run = are_runs here ok (w.taken ++ w.hand) (rest_of w) (λ g. (w.lanes g).given) all_feed;
        has_shape = closed_shape here (w.taken ++ w.hand) (rest_of w);
        no_empty_gap = closed_say here (w.taken ++ w.hand) (rest_of w);
      };
      adds_up = λ g. subst (λ (n : ℕ). Sums g (w.lanes g).given (length (of_group g (w.taken ++ w.hand))) n (closed_run here (w.taken ++ w.hand) (rest_of w))) (full g).counted
          (closed_sums here (w.taken ++ w.hand) (rest_of w) (λ g. (w.lanes g).given) all_feed g);
      counts_full = λ g. (rest_of w g, closed_counts here (w.taken ++ w.hand) (rest_of w) (λ g. (w.lanes g).given) all_feed g plan.capacity (w.lanes g).full_steps (full g));
    }

  -- a run that is open has what was committed
  pub open_run : IsRun here (λ g. (w.lanes g).given) (committed plan w)
  open_run = open_is_run here ok (λ g. (w.lanes g).given) w.taken (λ g. of_group g w.hand ++ (w.lanes g).queue) w.lanes (λ g. refl)
      (λ g. pushed_lane plan.capacity g (of_group g w.taken ++ (of_group g w.hand ++ (w.lanes g).queue)) (w.lanes g)
      (subst (λ (cs : List Captured). Pushed plan.capacity g cs (w.lanes g))
      (ap (λ (cs : List Captured). cs ++ (w.lanes g).queue) (filter-append (λ (c : Captured). c.group == g) w.taken w.hand)
      ∙ append_assoc (of_group g w.taken) (of_group g w.hand) (w.lanes g).queue) (queues g))
      (plan.limits g) (base_of here) (tick_of here (begun here)))

  pub cut_known : Known plan (run_of plan false (committed plan w) w)
  cut_known = record {
    has_ended = record {
      is_run = open_run;
      has_shape = (w.taken, w.hand, refl, made_open here w.taken);
      no_empty_gap = made_say here w.taken;
    };
    adds_up = tt;
    counts_full = tt;
  }
