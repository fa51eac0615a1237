-- The records since the opening, over all runs.
use Rattle.std.proofs.Common.{◌≤◌, ◌+◌, ℕ, List, [], ◌∷◌, ◌++◌, length, flat_map, cond, All, Option, Some, None, sym, subst, arith, append_assoc}
use Rattle.std.proofs.lemmas.Bool.{cond_both}
use Rattle.std.proofs.lemmas.List.Elements.{All-head, All-tail, All-nil, All-append}
use Rattle.vdr_terms.specs.Records.{Record, last}
use Rattle.vdr_terms.specs.Order.{NeverFalls}
use Rattle.vdr_terms.proofs.Running.{never_falls_behind}
use Rattle.vdr_core.specs.Runs.{Stamp, RunStart, base_after, base_of, last_tick}
use Rattle.vdr_core.specs.Histories.{Continues, stamp_of}
use Rattle.vdr_core.specs.Shapes.{SaysMissed, NoEmptyGap}
use Rattle.vdr_core.specs.Machine.{Plan, Ended, State, Step, opened, start_of, committed, after}
use Rattle.vdr_core.specs.Law.{Admits, IsRun}
use Rattle.vdr_core.specs.Ended.{place_after, stamp_after, RunsFollow, RunsAreConsecutive, HasEnded, HistoryRunsOn}
use Rattle.vdr_core.proofs.Places.{continues_append}
use Rattle.vdr_core.proofs.Ticking.{lower}
use Rattle.vdr_core.proofs.EmptyGaps.{made_say}
use Rattle.vdr_core.proofs.EndedRuns.{open_run}
use Rattle.vdr_core.proofs.Past.{Kept, always_kept, all_have_ended}

pub base_is_later : (stamp : Option Stamp) → last_tick stamp ≤ base_after stamp
base_is_later None = omega arith
base_is_later (Some s) = omega arith

pub falls_append : (stamp : Option Stamp) (xs ys : List Record) → NeverFalls (last_tick stamp) xs → NeverFalls (last_tick (stamp_of (last xs) stamp)) ys → NeverFalls (last_tick stamp) (xs ++ ys)
falls_append stamp [] ys h k = k
falls_append stamp (x ∷ xs) ys h k = (h.0, never_falls_behind x xs ys h.1 k)

abbrev records_of_runs : List Ended → List Record
records_of_runs runs = flat_map (λ run. run.records) runs

module _ (plan : Plan) (tail : List Record) where
  runs_continue : (place : ℕ) (stamp : Option Stamp) (runs : List Ended) → RunsFollow plan place stamp runs → All HasEnded runs
      → Continues plan.channels (place_after place runs) tail → Continues plan.channels place (records_of_runs runs ++ tail)
  runs_continue place stamp [] follow ended h = h
  runs_continue place stamp (run ∷ runs) follow ended h =
      subst (Continues plan.channels place) (sym (append_assoc run.records (records_of_runs runs) tail))
      (continues_append plan.channels place run.records (records_of_runs runs ++ tail)
      (subst (λ (s : RunStart). Continues s.channels s.place run.records) follow.0 (All-head HasEnded run runs ended).is_run.places)
      (runs_continue (place + length run.records) (stamp_of (last run.records) stamp) runs follow.1 (All-tail HasEnded run runs ended) h))

  runs_rise : (place : ℕ) (stamp : Option Stamp) (runs : List Ended) → RunsFollow plan place stamp runs → All HasEnded runs
      → NeverFalls (last_tick (stamp_after stamp runs)) tail → NeverFalls (last_tick stamp) (records_of_runs runs ++ tail)
  runs_rise place stamp [] follow ended h = h
  runs_rise place stamp (run ∷ runs) follow ended h =
      subst (NeverFalls (last_tick stamp)) (sym (append_assoc run.records (records_of_runs runs) tail))
      (falls_append stamp run.records (records_of_runs runs ++ tail)
      (lower (last_tick stamp) (base_after stamp) run.records (base_is_later stamp)
      (subst (λ (s : RunStart). NeverFalls (base_of s) run.records) follow.0 (All-head HasEnded run runs ended).is_run.ticks.rising))
      (runs_rise (place + length run.records) (stamp_of (last run.records) stamp) runs follow.1 (All-tail HasEnded run runs ended) h))

  runs_say : (runs : List Ended) → All HasEnded runs → NoEmptyGap tail → NoEmptyGap (records_of_runs runs ++ tail)
  runs_say [] ended h = h
  runs_say (run ∷ runs) ended h =
      subst NoEmptyGap (sym (append_assoc run.records (records_of_runs runs) tail))
      (All-append (λ (r : Record). SaysMissed r.content) run.records (records_of_runs runs ++ tail) (All-head HasEnded run runs ended).no_empty_gap
      (runs_say runs (All-tail HasEnded run runs ended) h))

pub history_runs_on : (plan : Plan) → Admits plan.limits → (opening : ℕ) (stamp : Option Stamp) (steps : List Step) → HistoryRunsOn plan opening stamp (after plan steps (opened opening stamp))
history_runs_on plan ok opening stamp steps =
    let w : State = after plan steps (opened opening stamp) in
    let kept : Kept plan opening stamp (after plan steps (opened opening stamp)) = always_kept plan opening stamp ok steps in
    let ended : All HasEnded (after plan steps (opened opening stamp)).ended = all_have_ended plan ok opening stamp steps in
    go w kept ended
  where
    go : (w : State) → Kept plan opening stamp w → All HasEnded w.ended → HistoryRunsOn plan opening stamp w
    go w kept ended =
        let run_on : RunsAreConsecutive plan opening stamp w = kept.past.run_on in
        let present : IsRun (start_of plan w) (λ g. (w.lanes g).given) (committed plan w) = open_run plan ok w kept.good kept.queues in
        let tail : List Record = cond w.running (committed plan w) [] in
        record {
          places = subst (Continues plan.channels opening) (sym kept.good.history)
              (runs_continue plan tail opening stamp w.ended run_on.follow ended
              (cond_both w.running (committed plan w) [] (Continues plan.channels (place_after opening w.ended))
              (λ _. subst (λ (n : ℕ). Continues plan.channels n (committed plan w)) run_on.place present.places) (λ _. tt)));
          ticks = subst (NeverFalls (last_tick stamp)) (sym kept.good.history)
              (runs_rise plan tail opening stamp w.ended run_on.follow ended
              (cond_both w.running (committed plan w) [] (NeverFalls (last_tick (stamp_after stamp w.ended)))
              (λ _. subst (λ (s : Option Stamp). NeverFalls (last_tick s) (committed plan w)) run_on.last
              (lower (last_tick w.last) (base_after w.last) (committed plan w) (base_is_later w.last) present.ticks.rising)) (λ _. tt)));
          no_empty_gap = subst NoEmptyGap (sym kept.good.history)
              (runs_say plan tail w.ended ended
              (cond_both w.running (committed plan w) [] NoEmptyGap (λ _. made_say (start_of plan w) w.taken) (λ _. All-nil (λ (r : Record). SaysMissed r.content))));
        }
