-- The runs that have ended, over all steps.
use Rattle.std.proofs.Common.{◌≡◌, ◌+◌, ℕ, List, [], ◌∷◌, ◌++◌, length, All, Bool, true, false, ◌&&◌, ◌==◌, Option, is_none, refl, sym, ap, ◌∙◌, subst}
use Rattle.std.proofs.lemmas.Bool.{and_parts, cond_both}
use Rattle.std.proofs.lemmas.List.Elements.{All-nil, All-push, All-weaker}
use Rattle.vdr_terms.specs.Records.{Record, last}
use Rattle.vdr_core.specs.Runs.{Stamp}
use Rattle.vdr_core.specs.Taken.{Captured}
use Rattle.vdr_core.specs.Histories.{Act, stamp_of}
use Rattle.vdr_core.specs.Recorder.{closing}
use Rattle.vdr_core.specs.Machine.{Plan, Ended, State, Step, opened, start_at, start_of, recorder, committed, takes_from, with_lane, with_item, pops, rest_of, run_of, ends, closes, puts, restarts, all_quiet, state_after, after}
use Rattle.vdr_core.specs.Machine.Step.{Save, Release, Look, Take, Drop, Push, Full, Pop, Commit, CloseRun, PowerFails, Restart}
use Rattle.vdr_core.specs.Law.{Admits}
use Rattle.vdr_core.specs.Ended.{place_after, stamp_after, RunsFollow, RunsAreConsecutive, HasEnded, RunAddsUp, RunCountsFull, AllHaveEnded, AllRunsAddUp, AllRunsCountFull}
use Rattle.vdr_core.proofs.Feeders.{pushed_idle}
use Rattle.vdr_core.proofs.Steps.{Good, good_opened, step_keeps}
use Rattle.vdr_core.proofs.Pushes.{Queues, pushes_step}
use Rattle.vdr_core.proofs.EndedRuns.{Known, closed_known, cut_known}

pub record Past (plan : Plan) (opening : ℕ) (stamp : Option Stamp) (w : State) : Type 0 where
  pub known : All (Known plan) w.ended
  pub run_on : RunsAreConsecutive plan opening stamp w

place_snoc : (place : ℕ) (runs : List Ended) (run : Ended) → place_after place (runs ++ run ∷ []) ≡ place_after place runs + length run.records
place_snoc place [] run = refl
place_snoc place (x ∷ xs) run = place_snoc (place + length x.records) xs run

stamp_snoc : (stamp : Option Stamp) (runs : List Ended) (run : Ended) → stamp_after stamp (runs ++ run ∷ []) ≡ stamp_of (last run.records) (stamp_after stamp runs)
stamp_snoc stamp [] run = refl
stamp_snoc stamp (x ∷ xs) run = stamp_snoc (stamp_of (last x.records) stamp) xs run

follow_snoc : (plan : Plan) (place : ℕ) (stamp : Option Stamp) (runs : List Ended) (run : Ended) → RunsFollow plan place stamp runs
    → run.start ≡ start_at plan (place_after place runs) (stamp_after stamp runs) → RunsFollow plan place stamp (runs ++ run ∷ [])
follow_snoc plan place stamp [] run h e = (e, tt)
follow_snoc plan place stamp (x ∷ xs) run h e = (h.0, follow_snoc plan (place + length x.records) (stamp_of (last x.records) stamp) xs run h.1 e)

module _ (plan : Plan) (opening : ℕ) (stamp : Option Stamp) where
  past_ends : (w : State) (closed : Bool) (records : List Record) (acts : List Act) → Past plan opening stamp w → Known plan (run_of plan closed records w) → Past plan opening stamp (ends plan closed records acts w)
  past_ends w closed records acts h known = record {
    known = All-push (Known plan) w.ended (run_of plan closed records w) h.known known;
    run_on = record {
      follow = follow_snoc plan opening stamp w.ended (run_of plan closed records w) h.run_on.follow (λ i. start_at plan (h.run_on.place i) (h.run_on.last i));
      place = ap (λ (n : ℕ). n + length records) h.run_on.place ∙ sym (place_snoc opening w.ended (run_of plan closed records w));
      last = ap (stamp_of (last records)) h.run_on.last ∙ sym (stamp_snoc stamp w.ended (run_of plan closed records w));
    };
  }

  past_pops : (w : State) (g : ℕ) (queue : List Captured) → Past plan opening stamp w → Past plan opening stamp (pops w g queue)
  past_pops w g [] h = h
  past_pops w g (c ∷ rest) h = record { known = h.known; run_on = record { follow = h.run_on.follow; place = h.run_on.place; last = h.run_on.last } }

  past_same : (w v : State) → v.ended ≡ w.ended → v.place ≡ w.place → v.last ≡ w.last → Past plan opening stamp w → Past plan opening stamp v
  past_same w v e p l h = record {
    known = subst (All (Known plan)) (sym e) h.known;
    run_on = record {
      follow = subst (RunsFollow plan opening stamp) (sym e) h.run_on.follow;
      place = p ∙ (h.run_on.place ∙ ap (place_after opening) (sym e));
      last = l ∙ (h.run_on.last ∙ ap (stamp_after stamp) (sym e));
    };
  }

  past_step : Admits plan.limits → (w : State) (step : Step) → Good plan w → Queues plan w → Past plan opening stamp w → Past plan opening stamp (state_after plan w step)
  past_step ok w (Take g i) good queues h =
      cond_both (w.running && takes_from plan g && is_none (w.lanes g).worker) (record w { lanes = with_lane w.lanes g (with_item i (w.lanes g)) }) w (Past plan opening stamp)
      (λ _. past_same w (record w { lanes = with_lane w.lanes g (with_item i (w.lanes g)) }) refl refl refl h) (λ _. h)
  past_step ok w (Drop g) good queues h = past_same w (state_after plan w (Drop g)) refl refl refl h
  past_step ok w (Push g) good queues h = past_same w (state_after plan w (Push g)) refl refl refl h
  past_step ok w (Full g) good queues h = past_same w (state_after plan w (Full g)) refl refl refl h
  past_step ok w (Pop g) good queues h = past_pops w g (w.lanes g).queue h
  past_step ok w Commit good queues h = cond_both w.running (puts plan w) w (Past plan opening stamp) (λ _. past_same w (puts plan w) refl refl refl h) (λ _. h)
  past_step ok w (Save id label a b) good queues h = past_same w (state_after plan w (Save id label a b)) refl refl refl h
  past_step ok w (Release id) good queues h = past_same w (state_after plan w (Release id)) refl refl refl h
  past_step ok w Look good queues h = past_same w (state_after plan w Look) refl refl refl h
  past_step ok w CloseRun good queues h =
      cond_both (w.running && length w.hand == 0 && all_quiet 16 w.lanes) (closes plan w) w (Past plan opening stamp)
      (λ e. past_ends w true ((recorder plan w).made ++ closing (start_of plan w) (recorder plan w) (rest_of w)) (Act.Commit (closing (start_of plan w) (recorder plan w) (rest_of w)) [] ∷ []) h
      (closed_known plan ok w good queues (and_parts (w.running && length w.hand == 0) (all_quiet 16 w.lanes) e).1))
      (λ _. h)
  past_step ok w PowerFails good queues h =
      cond_both w.running (ends plan false (committed plan w) [] w) w (Past plan opening stamp) (λ _. past_ends w false (committed plan w) [] h (cut_known plan ok w good queues)) (λ _. h)
  past_step ok w Restart good queues h = cond_both w.running w (restarts plan w) (Past plan opening stamp) (λ _. h) (λ _. past_same w (restarts plan w) refl refl refl h)

  -- all that is kept
  pub record Kept (w : State) : Type 0 where
    pub good : Good plan w
    pub queues : Queues plan w
    pub past : Past plan opening stamp w

  steps_keep : Admits plan.limits → (steps : List Step) (w : State) → Kept w → Kept (after plan steps w)
  steps_keep ok [] w h = h
  steps_keep ok (step ∷ steps) w h = steps_keep ok steps (state_after plan w step) (record {
    good = step_keeps plan ok w step h.good;
    queues = pushes_step plan w step h.good h.queues;
    past = past_step ok w step h.good h.queues h.past;
  })

  pub always_kept : Admits plan.limits → (steps : List Step) → Kept (after plan steps (opened opening stamp))
  always_kept ok steps = steps_keep ok steps (opened opening stamp) (record {
    good = good_opened plan opening stamp;
    queues = λ g. pushed_idle plan.capacity g;
    past = record { known = All-nil (Known plan); run_on = record { follow = tt; place = refl; last = refl } };
  })

pub all_have_ended : (plan : Plan) → Admits plan.limits → (opening : ℕ) (stamp : Option Stamp) (steps : List Step) → AllHaveEnded (after plan steps (opened opening stamp))
all_have_ended plan ok opening stamp steps = All-weaker (Known plan) HasEnded (λ run h. h.has_ended) (after plan steps (opened opening stamp)).ended (always_kept plan opening stamp ok steps).past.known

pub all_add_up : (plan : Plan) → Admits plan.limits → (opening : ℕ) (stamp : Option Stamp) (steps : List Step) → AllRunsAddUp (after plan steps (opened opening stamp))
all_add_up plan ok opening stamp steps = All-weaker (Known plan) (λ run. RunAddsUp run.closed run) (λ run h. h.adds_up) (after plan steps (opened opening stamp)).ended (always_kept plan opening stamp ok steps).past.known

pub all_count_full : (plan : Plan) → Admits plan.limits → (opening : ℕ) (stamp : Option Stamp) (steps : List Step) → AllRunsCountFull plan (after plan steps (opened opening stamp))
all_count_full plan ok opening stamp steps = All-weaker (Known plan) (λ run. RunCountsFull plan.capacity run.closed run) (λ run h. h.counts_full) (after plan steps (opened opening stamp)).ended (always_kept plan opening stamp ok steps).past.known
