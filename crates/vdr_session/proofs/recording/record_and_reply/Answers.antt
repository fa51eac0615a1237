use Rattle.std.proofs.Common.{rules, ◌≡◌, ◌-◌, ℕ, false, List, [], get_or, is_some, Option, None, refl, sym, ap, ◌∙◌, subst}
use Rattle.vdr_terms.specs.Rates.{is_configured}
use Rattle.vdr_config.specs.Configuration.{Configuration, IsConfiguration}
use Rattle.vdr_config.specs.Sizes.{limits_in}
use Rattle.vdr_intake.specs.Ends.{QueueId}
use Rattle.vdr_outside.specs.Disk.{content}
use Rattle.vdr_capture.specs.declared.lane.Lane.{Lane}
use Rattle.vdr_recorder.proofs.Admitting.{admits_all}
use Rattle.vdr_session.specs.declared.session.SessionEnd.{SessionEnd}
use Rattle.vdr_session.specs.Ran.{IsSetUp}
use Rattle.std.specs.Prelude.{sum}
use Rattle.vdr_recorder.specs.Recordings.{HasRecorded}
use Rattle.vdr_recorder.specs.Watched.{Tells}
use Rattle.vdr_recorder.proofs.Telling.{tells_none}
use Rattle.vdr_desk.specs.declared.desk.Desk.{Desk}
use Rattle.vdr_session.specs.declared.mark.Mark.{Mark}
use Rattle.vdr_session.specs.Answering.{AnswersMark, BeginsMark}
use Rattle.vdr_session.specs.Closed.{DesksRan}
use Rattle.vdr_session.specs.Desks.{DesksReplied, DesksTold}
use Rattle.vdr_session.specs.Sessions.{DecidesSession, SessionWith, is_closed}
use Rattle.vdr_session.proofs.Memoryless.{no_groups, no_memory_cause, session_cause}
use Rattle.vdr_session.proofs.Refused.{decides_with, unbegun_before}
use Rattle.vdr_session.proofs.Replied.{desks_replied, desks_rested, desks_told, none_replied}
use Rattle.vdr_session.proofs.Served.{ready_as}
use Rattle.vdr_session.specs.Summing.{paired}
use Rattle.vdr_session.proofs.Sessions.{groups_of, no_memory_session, ports_memory, queues_some, session_of}
use Rattle.vdr_session.proofs.recording.record_and_reply.Goals as goal
use Rattle.vdr_session.proofs.Popped.{if_some}

pub run_lent-media-requires-clause-ready : goal.run_lent-media-requires-clause-ready
run_lent-media-requires-clause-ready g c κs within k d small =
    ready_as (λ _. get_or c.new-plan.result.configured k false) (λ n. is_configured (limits_in c.args.recorder.vault.config.groups n)) k (get_or c.in-Ok.memory.queues k None) (get_or c.in-Ok.memory.takers k None) (get_or c.new.new.lanes k d)
    (c.new-plan.ensures.configured k small ∙ ap (λ (x : Configuration). is_configured (limits_in x.groups k)) c.config.ensures) (c.in-Ok.ensures.set_up k d small).ready

pub returns-in_default-clause-desks : goal.returns-in_default-clause-desks
returns-in_default-clause-desks g c = desks_rested g.L.Link c.args.turns c.args.desks.now c.reset.new.desks c.without_memory.result.outcome c.reset.ensures.each c.reset.ensures.as_many (ap is_closed c.without_memory.ensures.outcome)

pub returns-in_default-ended-clause-desks : goal.returns-in_default-ended-clause-desks
returns-in_default-ended-clause-desks g c =
    let none : c.run_lent-media.result.2 ≡ None = search rules in
    subst (λ (ds : List (Desk g.row.L.Denot Mark)). DesksTold g.L.Link c.args.turns c.without_memory-in_default-ended.result.outcome c.args.desks.now ds) (sym (c.run_lent-media.ensures.refused none).2)
    (desks_rested g.L.Link c.args.turns c.args.desks.now c.reset.new.desks c.without_memory-in_default-ended.result.outcome c.reset.ensures.each c.reset.ensures.as_many (ap is_closed c.without_memory-in_default-ended.ensures.outcome))

pub returns-in_default-clause-session : goal.returns-in_default-clause-session
returns-in_default-clause-session g c =
    no_memory_session g.P.Port c.args.turns c.args.recorder.vault.config.queue c.args.recorder.vault.config.groups c.args.lanes.now c.new.new.lanes c.args.recorder (g.M.Media.disk c.args.media.now) _
    (λ opening events. DesksReplied g.L.Link c.args.turns c.args.recorder.vault.config.channels (sum (g.M.Media.faults c.args.media.now)) (sum (g.M.Media.faults c.args.media.now)) c.without_memory.result.outcome c.args.desks.now c.reset.new.desks opening events × Tells g.W.Watch.hears opening [] events (g.W.Watch.seen c.args.watch.now) (g.W.Watch.seen c.args.watch.now))
    c.without_memory.ensures.outcome
    (λ opening. (none_replied g.L.Link c.args.turns c.args.desks.now c.reset.new.desks c.without_memory.result.outcome c.reset.ensures.each c.reset.ensures.as_many (ap is_closed c.without_memory.ensures.outcome) c.args.recorder.vault.config.channels _ opening, tells_none (λ heard. refl)))

pub returns-in_default-ended-clause-session : goal.returns-in_default-ended-clause-session
returns-in_default-ended-clause-session g c =
    let none : c.run_lent-media.result.2 ≡ None = search rules in
    let still = c.run_lent-media.ensures.refused none in
    let last = c.media-1.given.1 (sym c.run_lent-media.ensures.same) ∙ still.0 in
    let last_told = c.watch-1.given.1 (sym c.run_lent-media.ensures.same_watch) ∙ still.3 in
    subst (λ (x : g.row.M.Denot × List (Desk g.row.L.Denot Mark) × g.row.W.Denot). SessionWith g.P.Port c.args.turns c.args.recorder.vault.config.queue c.args.recorder.vault.config.groups c.args.lanes.now c.run_lent-media.new.lanes c.args.recorder
    (g.M.Media.disk c.args.media.now) (g.M.Media.disk x.0) c.without_memory-in_default-ended.result
    (λ opening events. DesksReplied g.L.Link c.args.turns c.args.recorder.vault.config.channels (sum (g.M.Media.faults c.args.media.now)) (sum (g.M.Media.faults x.0)) c.without_memory-in_default-ended.result.outcome c.args.desks.now x.1 opening events × Tells g.W.Watch.hears opening [] events (g.W.Watch.seen c.args.watch.now) (g.W.Watch.seen x.2)))
    (λ i. (sym last i, sym still.2 i, sym last_told i))
    (no_memory_session g.P.Port c.args.turns c.args.recorder.vault.config.queue c.args.recorder.vault.config.groups c.args.lanes.now c.run_lent-media.new.lanes c.args.recorder (g.M.Media.disk c.args.media.now) _ _
    c.without_memory-in_default-ended.ensures.outcome
    (λ opening. (
      none_replied g.L.Link c.args.turns c.args.desks.now c.reset.new.desks c.without_memory-in_default-ended.result.outcome c.reset.ensures.each c.reset.ensures.as_many (ap is_closed c.without_memory-in_default-ended.ensures.outcome)
          c.args.recorder.vault.config.channels (sum (g.M.Media.faults c.args.media.now)) opening,
      tells_none (λ heard. refl),
    )))

pub returns-in_default-ended-clause-unbegun : goal.returns-in_default-ended-clause-unbegun
returns-in_default-ended-clause-unbegun g c = λ _.
    let none : c.run_lent-media.result.2 ≡ None = search rules in
    let same = c.run_lent-media.ensures.refused none in (
      c.media-1.given.1 (sym c.run_lent-media.ensures.same) ∙ same.0,
      (λ k d small. ap (λ (ls : List (Lane g.row.P.Denot)). (get_or ls k d).port) same.1 ∙ c.new.ensures.same k d small),
    )

pub returns-clause-session : goal.returns-clause-session
returns-clause-session g c =
    let e = if_some _ c.run_lent-media.result.2 c.in-Some.field-0 c.in-Some.is c.run_lent-media.ensures.ended in
    let config : c.config.result.now ≡ c.args.recorder.vault.config = c.config.ensures in
    let end : SessionEnd = record { outcome = c.with_failures.result; groups = c.sums.result; records = c.saturating_sub.result; intakes = c.intakes_of.result } in
    let capacity = c.new-plan.ensures.capacity.0 ∙ ap (λ (x : Configuration). x.queue) config in
    let queues = c.run_lent-media.ensures.queues in
    subst (λ (x : g.row.M.Denot × g.row.W.Denot). SessionWith g.P.Port c.args.turns c.args.recorder.vault.config.queue c.args.recorder.vault.config.groups c.args.lanes.now c.run_lent-media.new.lanes c.args.recorder
    (g.M.Media.disk c.args.media.now) (g.M.Media.disk x.0) end
    (λ opening events. DesksReplied g.L.Link c.args.turns c.args.recorder.vault.config.channels (sum (g.M.Media.faults c.args.media.now)) (sum (g.M.Media.faults x.0)) c.with_failures.result c.args.desks.now c.run_lent-media.new.desks opening events × Tells g.W.Watch.hears opening [] events (g.W.Watch.seen c.args.watch.now) (g.W.Watch.seen x.1)))
    (λ i. (sym (c.media-1.given.1 (sym c.run_lent-media.ensures.same)) i, sym (c.watch-1.given.1 (sym c.run_lent-media.ensures.same_watch)) i))
    (session_of g.P.Port c.args.turns c.args.recorder.vault.config.queue c.args.recorder.vault.config.groups c.new-plan.result.configured c.in-Ok.memory.queues c.in-Ok.memory.takers c.run_lent-media.new.memory.takers
    c.args.lanes.now c.new.new.lanes c.run_lent-media.new.lanes c.args.recorder (g.M.Media.disk c.args.media.now) (g.M.Media.disk c.args.media.now).sizes (g.M.Media.faults c.args.media.now)
    (λ began marks. DesksRan g.L.Link (AnswersMark g.M.Media.tells (λ opening t0. HasRecorded opening [] t0 c.args.recorder (g.M.Media.disk c.args.media.now)) c.args.recorder.vault.config.channels) (BeginsMark g.M.Media.tells (λ opening t0. HasRecorded opening [] t0 c.args.recorder (g.M.Media.disk c.args.media.now)) c.args.recorder.vault.config.channels) c.args.turns c.reset.new.desks c.run_lent-media.new.desks began marks)
    c.in-Some.field-0.outcome c.in-Some.field-0.recorder
    (g.M.Media.disk c.run_lent-media.result.0.now) (g.M.Media.faults c.run_lent-media.result.0.now) g.W.Watch.hears (g.W.Watch.seen c.args.watch.now) (g.W.Watch.seen c.run_lent-media.result.1.now) end
    (λ k small. c.new-plan.ensures.configured k small ∙ ap (λ (x : Configuration). is_configured (limits_in x.groups k)) config)
    (c.requires.lanes, search rules, search rules)
    (λ k d small. subst (λ (n : ℕ). IsSetUp (get_or c.new-plan.result.configured k false) k n (get_or c.in-Ok.memory.queues k None) (get_or c.in-Ok.memory.takers k None) (get_or c.args.lanes.now k d) (get_or c.new.new.lanes k d)) capacity
    (c.in-Ok.ensures.set_up k d small))
    e
    c.with_failures.ensures.told
    (λ start popped counts k d small there. c.sums.ensures.each start popped counts k d small (ap (λ (qs : List (Option QueueId)). is_some (get_or qs k None)) queues ∙ there))
    (c.saturating_sub.ensures ∙ (λ i. c.status.ensures.records i - c.status-first.ensures.records i))
    (λ k small. c.intakes_of.ensures.each k small ∙ ap (λ (qs : List (Option QueueId)). paired (get_or qs k None) (get_or c.run_lent-media.new.memory.takers k None)) queues)
    (λ k x small is. c.intakes_of.ensures.full k x small is)
    (admits_all c.args.recorder.vault.config (subst IsConfiguration config c.new-plan.ensures.legal))
    refl
    c.requires.new.1
    (λ opening events. DesksReplied g.L.Link c.args.turns c.args.recorder.vault.config.channels (sum (g.M.Media.faults c.args.media.now)) (sum (g.M.Media.faults c.run_lent-media.result.0.now)) c.with_failures.result c.args.desks.now c.run_lent-media.new.desks opening events × Tells g.W.Watch.hears opening [] events (g.W.Watch.seen c.args.watch.now) (g.W.Watch.seen c.run_lent-media.result.1.now))
    (λ told opening t0 h. (
      desks_replied g.L.Link c.args.turns g.M.Media.tells (λ opening t0. HasRecorded opening [] t0 c.args.recorder (g.M.Media.disk c.args.media.now)) c.args.recorder.vault.config.channels c.args.desks.now c.reset.new.desks c.run_lent-media.new.desks
          e.began e.marks c.in-Some.field-0.outcome c.with_failures.result c.reset.ensures.each c.reset.ensures.as_many e.besides e.told_as c.with_failures.ensures.told
          (sum (g.M.Media.faults c.args.media.now)) (sum (g.M.Media.faults c.run_lent-media.result.0.now)) e.missed_rose _ t0 e.rest c.in-Some.field-0.recorder (g.M.Media.disk c.run_lent-media.result.0.now) _ told opening h (e.told told opening t0 h).0,
      (e.told told opening t0 h).0.heard,
    )))

pub returns-in_default-clause-decides : goal.returns-in_default-clause-decides
returns-in_default-clause-decides g c = subst (DecidesSession c.args.recorder.vault) (sym c.without_memory.ensures.outcome) tt

pub returns-in_default-ended-clause-decides : goal.returns-in_default-ended-clause-decides
returns-in_default-ended-clause-decides g c = subst (DecidesSession c.args.recorder.vault) (sym c.without_memory-in_default-ended.ensures.outcome) tt

pub returns-clause-decides : goal.returns-clause-decides
returns-clause-decides g c =
    decides_with c.args.recorder.vault.next_place _ c.in-Some.field-0.outcome c.with_failures.result c.with_failures.ensures.told
    (if_some _ c.run_lent-media.result.2 c.in-Some.field-0 c.in-Some.is c.run_lent-media.ensures.decides)

pub returns-clause-unbegun : goal.returns-clause-unbegun
returns-clause-unbegun g c = λ unbegun.
    let u = if_some _ c.run_lent-media.result.2 c.in-Some.field-0 c.in-Some.is c.run_lent-media.ensures.unbegun (unbegun_before c.in-Some.field-0.outcome c.with_failures.result c.with_failures.ensures.told unbegun) in (
      c.media-1.given.1 (sym c.run_lent-media.ensures.same) ∙ u.0,
      (λ k d small. ap (λ (ls : List (Lane g.row.P.Denot)). (get_or ls k d).port) u.1 ∙ c.new.ensures.same k d small),
    )

pub returns-clause-desks : goal.returns-clause-desks
returns-clause-desks g c =
    let e = if_some _ c.run_lent-media.result.2 c.in-Some.field-0 c.in-Some.is c.run_lent-media.ensures.ended in
    desks_told g.L.Link c.args.turns g.M.Media.tells (λ opening t0. HasRecorded opening [] t0 c.args.recorder (g.M.Media.disk c.args.media.now)) c.args.recorder.vault.config.channels c.args.desks.now c.reset.new.desks c.run_lent-media.new.desks
    e.began e.marks c.in-Some.field-0.outcome c.with_failures.result c.reset.ensures.each c.reset.ensures.as_many e.besides e.told_as c.with_failures.ensures.told

pub returns-clause-groups : goal.returns-clause-groups
returns-clause-groups g c =
    let e = if_some _ c.run_lent-media.result.2 c.in-Some.field-0 c.in-Some.is c.run_lent-media.ensures.ended in
    let config : c.config.result.now ≡ c.args.recorder.vault.config = c.config.ensures in
    let end : SessionEnd = record { outcome = c.with_failures.result; groups = c.sums.result; records = c.saturating_sub.result; intakes = c.intakes_of.result } in
    groups_of g.P.Port c.args.turns c.args.recorder.vault.config.queue c.args.recorder.vault.config.groups c.in-Ok.memory.queues c.args.lanes.now c.run_lent-media.new.lanes c.args.recorder (g.M.Media.disk c.args.media.now) _ end _
    (returns-clause-session g c) (ports_memory c.in-Some.field-0.outcome c.with_failures.result e.began e.told_as c.with_failures.ensures.told) (search rules)
    (λ k small. c.sums.ensures.some k small ∙ ap (λ (qs : List (Option QueueId)). is_some (get_or qs k None)) c.run_lent-media.ensures.queues)
    (λ k small. queues_some c.new-plan.result.configured c.args.recorder.vault.config.groups c.in-Ok.memory.queues c.in-Ok.memory.takers c.args.lanes.now c.new.new.lanes c.requires.lanes
    (λ k small. c.new-plan.ensures.configured k small ∙ ap (λ (x : Configuration). is_configured (limits_in x.groups k)) config) (λ k d small. c.in-Ok.ensures.set_up k d small) k small)

pub returns-clause-others : goal.returns-clause-others
returns-clause-others g c = λ told k apart.
    let e = if_some _ c.run_lent-media.result.2 c.in-Some.field-0 c.in-Some.is c.run_lent-media.ensures.ended in
    (λ i. content (g.M.Media.disk (c.media-1.given.1 (sym c.run_lent-media.ensures.same) i)).reads k) ∙ e.elsewhere told k apart

pub returns-in_default-clause-groups : goal.returns-in_default-clause-groups
returns-in_default-clause-groups g c = no_groups c.args.recorder.vault.config.groups c.without_memory.result c.without_memory.ensures.outcome c.without_memory.ensures.none

pub returns-in_default-ended-clause-groups : goal.returns-in_default-ended-clause-groups
returns-in_default-ended-clause-groups g c =
    no_groups c.args.recorder.vault.config.groups c.without_memory-in_default-ended.result c.without_memory-in_default-ended.ensures.outcome c.without_memory-in_default-ended.ensures.none

pub returns-in_default-ended-clause-cause : goal.returns-in_default-ended-clause-cause
returns-in_default-ended-clause-cause g c =
    let none : c.run_lent-media.result.2 ≡ None = search rules in
    let still = c.run_lent-media.ensures.refused none in
    let last = c.media-1.given.1 (sym c.run_lent-media.ensures.same) ∙ still.0 in
    no_memory_cause (g.M.Media.faults c.args.media.now) _ c.without_memory-in_default-ended.result.outcome (λ i. g.M.Media.faults (last i)) c.without_memory-in_default-ended.ensures.outcome

pub returns-clause-cause : goal.returns-clause-cause
returns-clause-cause g c =
    let e = if_some _ c.run_lent-media.result.2 c.in-Some.field-0 c.in-Some.is c.run_lent-media.ensures.ended in
    session_cause (g.M.Media.faults c.args.media.now) (g.M.Media.faults c.run_lent-media.result.0.now) _ c.in-Some.field-0.outcome c.with_failures.result
    (λ i. g.M.Media.faults (c.media-1.given.1 (sym c.run_lent-media.ensures.same) i)) e.later e.rose c.with_failures.ensures.told
