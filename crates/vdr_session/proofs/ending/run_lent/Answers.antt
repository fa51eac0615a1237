use Rattle.std.proofs.Common.{rules, ◌≡◌, ℕ, true, false, true≢false, List, length, Some, None, ⊎_elim, refl, sym, ap, subst}
use Rattle.std.proofs.lemmas.Bool.{cases_Bool}
use Rattle.vdr_terms.specs.Rates.{is_configured}
use Rattle.vdr_config.specs.Sizes.{limits_in}
use Rattle.vdr_capture.specs.declared.sums.Outcome.{Outcome}
use Rattle.vdr_capture.specs.declared.sums.Outcome.TheVariants.{MediaFault}
use Rattle.vdr_run.specs.Making.{rest_of}
use Rattle.vdr_session.specs.declared.records.Began.TheVariants as starts
use Rattle.vdr_outside.specs.declared.link.Link.{Ghosts as LinkTells}
use Rattle.vdr_desk.specs.Answers.{Answer}
use Rattle.vdr_desk.specs.declared.desk.Desk.{Desk}
use Rattle.vdr_session.specs.declared.mark.Mark.{Mark}
use Rattle.vdr_session.specs.declared.records.Began.{Began}
use Rattle.vdr_session.specs.Answering.{AnswersMark, BeginsMark}
use Rattle.vdr_session.specs.Closed.{DesksRan}
use Rattle.vdr_session.specs.Ended.{HasEnded}
use Rattle.vdr_session.specs.Sessions.{DecidesSession, IsUnbegun}
use Rattle.vdr_session.specs.Standing.{MayStart}
use Rattle.vdr_session.proofs.Ends.{done_ends, fault_ends, not_begun_ends, stop_numbers, stop_place, stop_quiet}
use Rattle.vdr_session.proofs.ending.run_lent.Goals as goal
use Rattle.vdr_session.proofs.ending.run_lent.Goals.{in-Ok, in-Err}
use Rattle.vdr_session.proofs.Popped.{if_some}
use Rattle.vdr_session.proofs.Refused.{fault_told, refused_decides, refused_ends}

abbrev beside_of : {L : Type 0} (tells : LinkTells L) (answers begins : ℕ → Answer Mark → Type 0) (turns : ℕ) (old new : List (Desk L Mark))
    → Began → List Mark → Type 0
beside_of tells answers begins turns old new began marks = DesksRan tells answers begins turns old new began marks

pub returns-in_default-began : goal.returns-in_default-began
returns-in_default-began g c =
    let p = if_some _ c.record_lent-media.result.2 c.in-Some-recorded.field-0 c.in-Some-recorded.is c.record_lent-media.ensures.closed in
    record {
      same = c.record_lent-media.ensures.same;
      same_watch = c.record_lent-media.ensures.same_watch;
      ended = not_begun_ends g.P.Port c.args.turns c.args.memory.now.queues c.args.memory.now.takers c.record_lent-media.new.takers c.args.lanes.now
          c.record_lent-media.new.lanes
          (record { clock = g.O.Lent.clock; now = g.O.Lent.now; since = g.O.Lent.since; until = g.O.Lent.until; reads = g.O.Lent.reads; channels = g.O.Lent.channels; hears = g.W.Watch.hears; heard = g.O.Lent.heard }) g.O.Lent.began
          g.O.Lent.rates g.O.Lent.room g.O.Lent.sizes g.O.Lent.faults p.0 c.in-Some-recorded.field-0.began (g.W.Watch.seen c.record_lent-media.result.1.now) c.in-Some-recorded.field-0.recorder
          (g.M.Media.disk c.record_lent-media.result.0.now) (g.M.Media.faults c.record_lent-media.result.0.now) p.1 p.2 p.5
          (beside_of g.L.Link (AnswersMark g.M.Media.tells g.O.Lent.began g.O.Lent.channels) (BeginsMark g.M.Media.tells g.O.Lent.began g.O.Lent.channels) c.args.turns c.args.desks.now c.record_lent-media.new.desks)
          p.3
          MediaFault c.in_default-began.not-Begun (fault_told c.in-Some-recorded.field-0.began c.in_default-began.not-Begun p.4);
      unbegun = λ unbegun. absurd unbegun;
      decides = tt;
      queues = refl;
      refused = λ e. absurd (never e);
    }
  where
    never : {T : Type 0} {x : T} → Some x ≡ None → ⊥
    never e = cc

pub stop_watched-requires-clause-fits : goal.stop_watched-requires-clause-fits
stop_watched-requires-clause-fits g c =
    let p = if_some _ c.record_lent-media.result.2 c.in-Some-recorded.field-0 c.in-Some-recorded.is c.record_lent-media.ensures.closed in
    let is : c.in-Some-recorded.field-0.began ≡ starts.Begun = c.in-Begun.is in
    let sixteen : length c.record_lent-media.new.lanes ≡ 16 = search rules in
    let beside = beside_of g.L.Link (AnswersMark g.M.Media.tells g.O.Lent.began g.O.Lent.channels) (BeginsMark g.M.Media.tells g.O.Lent.began g.O.Lent.channels) c.args.turns c.args.desks.now c.record_lent-media.new.desks
    in
    record {
      quiet = stop_quiet g.P.Port c.args.turns c.args.memory.now.queues c.args.memory.now.takers c.record_lent-media.new.takers c.args.lanes.now
          c.record_lent-media.new.lanes
          (record { clock = g.O.Lent.clock; now = g.O.Lent.now; since = g.O.Lent.since; until = g.O.Lent.until; reads = g.O.Lent.reads; channels = g.O.Lent.channels; hears = g.W.Watch.hears; heard = g.O.Lent.heard })
          g.O.Lent.began g.O.Lent.rates g.O.Lent.room g.O.Lent.sizes g.O.Lent.faults p.0 c.in-Some-recorded.field-0.began (g.W.Watch.seen c.record_lent-media.result.1.now) c.in-Some-recorded.field-0.recorder
          (g.M.Media.disk c.record_lent-media.result.0.now) (g.M.Media.faults c.record_lent-media.result.0.now) p.1 p.2 p.5
          beside p.3 is (rest_of c.rest_of.result) c.rest_of.ensures sixteen c.requires.turns;
      place = stop_place g.P.Port c.args.turns c.args.memory.now.queues c.args.memory.now.takers c.record_lent-media.new.takers c.args.lanes.now
          c.record_lent-media.new.lanes
          (record { clock = g.O.Lent.clock; now = g.O.Lent.now; since = g.O.Lent.since; until = g.O.Lent.until; reads = g.O.Lent.reads; channels = g.O.Lent.channels; hears = g.W.Watch.hears; heard = g.O.Lent.heard })
          g.O.Lent.began g.O.Lent.rates g.O.Lent.room g.O.Lent.sizes g.O.Lent.faults p.0 c.in-Some-recorded.field-0.began (g.W.Watch.seen c.record_lent-media.result.1.now) c.in-Some-recorded.field-0.recorder
          (g.M.Media.disk c.record_lent-media.result.0.now) (g.M.Media.faults c.record_lent-media.result.0.now) p.1 p.2 p.5
          beside p.3 is (rest_of c.rest_of.result) c.rest_of.ensures sixteen c.requires.turns;
      numbers = stop_numbers g.P.Port c.args.turns c.args.memory.now.queues c.args.memory.now.takers c.record_lent-media.new.takers c.args.lanes.now
          c.record_lent-media.new.lanes
          (record { clock = g.O.Lent.clock; now = g.O.Lent.now; since = g.O.Lent.since; until = g.O.Lent.until; reads = g.O.Lent.reads; channels = g.O.Lent.channels; hears = g.W.Watch.hears; heard = g.O.Lent.heard })
          g.O.Lent.began g.O.Lent.rates g.O.Lent.room g.O.Lent.sizes g.O.Lent.faults p.0 c.in-Some-recorded.field-0.began (g.W.Watch.seen c.record_lent-media.result.1.now) c.in-Some-recorded.field-0.recorder
          (g.M.Media.disk c.record_lent-media.result.0.now) (g.M.Media.faults c.record_lent-media.result.0.now) p.1 p.2 p.5
          beside p.3 is (rest_of c.rest_of.result) c.rest_of.ensures sixteen c.requires.turns;
    }

pub returns-clause-ended : goal.returns-clause-ended
returns-clause-ended g c =
    let p = if_some _ c.record_lent-media.result.2 c.in-Some-recorded.field-0 c.in-Some-recorded.is c.record_lent-media.ensures.closed in
    let is : c.in-Some-recorded.field-0.began ≡ starts.Begun = c.in-Begun.is in
    let sixteen : length c.record_lent-media.new.lanes ≡ 16 = search rules in
    let ends : Outcome → Type 0 = λ outcome. HasEnded g.P.Port c.args.turns (λ n. is_configured (limits_in g.O.Lent.rates n)) c.args.memory.now.queues
    c.args.memory.now.takers c.record_lent-media.new.takers c.args.lanes.now c.record_lent-media.new.lanes
    (record { clock = g.O.Lent.clock; now = g.O.Lent.now; since = g.O.Lent.since; until = g.O.Lent.until; reads = g.O.Lent.reads; channels = g.O.Lent.channels; hears = g.W.Watch.hears; heard = g.O.Lent.heard }) g.O.Lent.began
    g.O.Lent.sizes g.O.Lent.faults (beside_of g.L.Link (AnswersMark g.M.Media.tells g.O.Lent.began g.O.Lent.channels) (BeginsMark g.M.Media.tells g.O.Lent.began g.O.Lent.channels) c.args.turns c.args.desks.now
    c.record_lent-media.new.desks) outcome c.stop_watched.new.self (g.M.Media.disk c.stop_watched.new.media) (g.M.Media.faults c.stop_watched.new.media) (g.W.Watch.seen c.stop_watched.new.watch) in
    elim c.match-stop_watched.branch [
      | in-Ok w ↦
          (let e = w.in-Ok.ensures in
          subst ends (sym w.outcome-is)
          (done_ends g.P.Port c.args.turns c.args.memory.now.queues c.args.memory.now.takers c.record_lent-media.new.takers c.args.lanes.now
          c.record_lent-media.new.lanes
          (record { clock = g.O.Lent.clock; now = g.O.Lent.now; since = g.O.Lent.since; until = g.O.Lent.until; reads = g.O.Lent.reads; channels = g.O.Lent.channels; hears = g.W.Watch.hears; heard = g.O.Lent.heard }) g.O.Lent.began
          g.O.Lent.rates g.O.Lent.room g.O.Lent.sizes g.O.Lent.faults p.0 c.in-Some-recorded.field-0.began (g.W.Watch.seen c.record_lent-media.result.1.now) c.in-Some-recorded.field-0.recorder
          (g.M.Media.disk c.record_lent-media.result.0.now) (g.M.Media.faults c.record_lent-media.result.0.now) p.1 p.2 p.5
          (beside_of g.L.Link (AnswersMark g.M.Media.tells g.O.Lent.began g.O.Lent.channels) (BeginsMark g.M.Media.tells g.O.Lent.began g.O.Lent.channels) c.args.turns c.args.desks.now c.record_lent-media.new.desks)
          p.3 is (rest_of c.rest_of.result) c.rest_of.ensures sixteen c.requires.turns (g.W.Watch.seen c.stop_watched.new.watch) c.stop_watched.new.self (g.M.Media.disk c.stop_watched.new.media)
          (g.M.Media.faults c.stop_watched.new.media) e.writes.sizes e.writes.others e.writes.cause.later e.stopped e.counted
          (⊎_elim (λ (fails : c.in-Some-recorded.field-0.recorder.vault.failed ≡ true). absurd (true≢false (sym (e.failing.failed fails).0)))
          (λ (works : c.in-Some-recorded.field-0.recorder.vault.failed ≡ false). works) (cases_Bool c.in-Some-recorded.field-0.recorder.vault.failed)) e.failing.works))
      | in-Err w ↦
          (let e = w.in-Err.ensures in
          subst ends (sym w.outcome-is)
          (fault_ends g.P.Port c.args.turns c.args.memory.now.queues c.args.memory.now.takers c.record_lent-media.new.takers c.args.lanes.now
          c.record_lent-media.new.lanes
          (record { clock = g.O.Lent.clock; now = g.O.Lent.now; since = g.O.Lent.since; until = g.O.Lent.until; reads = g.O.Lent.reads; channels = g.O.Lent.channels; hears = g.W.Watch.hears; heard = g.O.Lent.heard }) g.O.Lent.began
          g.O.Lent.rates g.O.Lent.room g.O.Lent.sizes g.O.Lent.faults p.0 c.in-Some-recorded.field-0.began (g.W.Watch.seen c.record_lent-media.result.1.now) c.in-Some-recorded.field-0.recorder
          (g.M.Media.disk c.record_lent-media.result.0.now) (g.M.Media.faults c.record_lent-media.result.0.now) p.1 p.2 p.5
          (beside_of g.L.Link (AnswersMark g.M.Media.tells g.O.Lent.began g.O.Lent.channels) (BeginsMark g.M.Media.tells g.O.Lent.began g.O.Lent.channels) c.args.turns c.args.desks.now c.record_lent-media.new.desks)
          p.3 is (rest_of c.rest_of.result) c.rest_of.ensures sixteen c.requires.turns (g.W.Watch.seen c.stop_watched.new.watch) c.stop_watched.new.self (g.M.Media.disk c.stop_watched.new.media)
          (g.M.Media.faults c.stop_watched.new.media) e.writes.sizes e.writes.others e.writes.cause.later e.stopped e.counted
          (λ fails. let q = e.failing.failed fails in (q.1, ap g.M.Media.disk q.2)) e.untold e.writes.cause.in_all))
    ]

-- A run that is refused calls nothing.
pub returns-in-Some-clause-ended : goal.returns-in-Some-clause-ended
returns-in-Some-clause-ended g c =
    refused_ends g.P.Port c.args.turns (λ n. is_configured (limits_in g.O.Lent.rates n)) c.args.memory.now.queues c.args.memory.now.takers c.args.lanes.now
    (record { clock = g.O.Lent.clock; now = g.O.Lent.now; since = g.O.Lent.since; until = g.O.Lent.until; reads = g.O.Lent.reads; channels = g.O.Lent.channels; hears = g.W.Watch.hears; heard = g.O.Lent.heard }) g.O.Lent.began
    g.O.Lent.sizes g.O.Lent.faults (beside_of g.L.Link (AnswersMark g.M.Media.tells g.O.Lent.began g.O.Lent.channels) (BeginsMark g.M.Media.tells g.O.Lent.began g.O.Lent.channels) c.args.turns c.args.desks.now c.args.desks.now)
    (λ began never. record { as_many = refl; served = λ is. absurd (never is); rested = λ _. refl })
    c.args.recorder (g.M.Media.disk c.args.media.now) (g.M.Media.faults c.args.media.now) (g.W.Watch.seen c.args.watch.now)
    c.requires.sizes c.requires.faults c.requires.heard c.requires.before c.requires.began c.in-Some.outcome c.in-Some.ensures.refused

pub returns-in-Some-clause-decides : goal.returns-in-Some-clause-decides
returns-in-Some-clause-decides g c = refused_decides c.args.recorder.vault c.in-Some.outcome c.in-Some.ensures.refused

pub returns-clause-unbegun : goal.returns-clause-unbegun
returns-clause-unbegun g c = λ unbegun. elim c.match-stop_watched.branch [
  | in-Ok w ↦ absurd (subst IsUnbegun w.outcome-is unbegun)
  | in-Err w ↦ absurd (subst IsUnbegun w.outcome-is unbegun)
]

pub returns-clause-decides : goal.returns-clause-decides
returns-clause-decides g c =
    let may : MayStart c.args.recorder.vault = c.refusal.ensures.may (search rules) in
    elim c.match-stop_watched.branch [
      | in-Ok w ↦ subst (DecidesSession c.args.recorder.vault) (sym w.outcome-is) (may.place, may.base)
      | in-Err w ↦ subst (DecidesSession c.args.recorder.vault) (sym w.outcome-is) tt
    ]
