use Rattle.std.proofs.Common.{arith, [], inl, ℕ, List, Option, Result, Ok, Err, sym, ap, ◌∙◌, subst}
use Rattle.std.specs.Prelude.{sum}
use Rattle.std.proofs.lemmas.Result.{err_from_is_err_and}
use Rattle.vdr_outside.specs.Causes.{Rose}
use Rattle.vdr_outside.proofs.Counts.{none_falls_join}
use Rattle.vdr_outside.proofs.Moments.{moments_none}
use Rattle.vdr_config.specs.Configuration.{Configuration, IsConfiguration}
use Rattle.vdr_feed.specs.Reader.{Reading, begun_reading}
use Rattle.vdr_opening.specs.Media.{opening_of}
use Rattle.vdr_opening.specs.declared.refused.OpenRefused.{OpenRefused}
use Rattle.vdr_vault.proofs.OpenMoments.{never_both}
use Rattle.vdr_recorder.proofs.Admitting.{admits_all}
use Rattle.vdr_recorder.proofs.Passing.{passes_first, passes_opened}
use Rattle.vdr_recorder.proofs.Playing.{config_read}
use Rattle.vdr_recorder.proofs.Telling.{heard_opening}
use Rattle.vdr_replay.specs.Answers.{Answers, Decides, EndsAtHeader, IfOpened, IsOpenable, RefusesMedia, RefusesRun}
use Rattle.vdr_replay.specs.Ran.{Runs}
use Rattle.vdr_feed.specs.Progress.{HasRead}
use Rattle.vdr_replay.specs.declared.ended.Replayed.{Replayed}
use Rattle.vdr_replay.specs.declared.ended.ReplayRefused.{ReplayRefused}
use Rattle.vdr_replay.proofs.Causes.{replay_after, rose_joined, sum_of_rose}
use Rattle.vdr_replay.proofs.Headlines.{answers, begun_nothing, leaves, opened_nothing}
use Rattle.vdr_replay.proofs.Opened.{begun_header, begun_media, begun_tells, beside_still, damaged_by, header_of_feed, header_says, missing_still}
use Rattle.vdr_replay.proofs.Opened.{no_run_of_feed, not_at_header, open_stops, opened_says, opening_says, refused_media}
use Rattle.vdr_feed.proofs.Progress.{read_first}
use Rattle.vdr_replay.proofs.Reading.{begins_so}
use Rattle.vdr_replay.proofs.Starts.{decides_as}
use Rattle.vdr_replay.proofs.replaying.record_feed.Goals as goal

pub returns-in_err-recorder-clause-replayed : goal.returns-in_err-recorder-clause-replayed
returns-in_err-recorder-clause-replayed g c = λ x bytes told holds sound known.
    let p = err_from_is_err_and c.from_residual-in_err-recorder.result c.from_residual-in_err-recorder.ensures.1 in
    let rose = Rose (sum (g.M.Media.faults c.args.media.now)) (sum (g.M.Media.faults c.open_watched.new.media)) in
    subst (Answers x bytes (g.I.Source.left c.header.new.input) rose (g.M.Media.disk c.args.media.now) (g.M.Media.disk c.open_watched.new.media) g.W.Watch.hears (g.W.Watch.seen c.open_watched.new.watch))
    (sym (p.1 ∙ ap (λ (stop : ReplayRefused). Err stop) p.2))
    (open_stops x bytes (g.I.Source.left c.header.new.input) rose (config_read (g.M.Media.disk c.args.media.now).reads x holds) sound
    (g.M.Media.disk c.args.media.now) (g.M.Media.disk c.open_watched.new.media) g.W.Watch.hears (g.W.Watch.seen c.open_watched.new.watch) c.open_watched.result
    c.in_err-recorder.field-0.0 c.in_err-recorder.was (λ either. (c.open_watched.ensures.refused.untouched either).0)
    (λ meet. c.open_watched.ensures.moments x told holds meet sound))

pub returns-in_err-recorder-clause-damaged : goal.returns-in_err-recorder-clause-damaged
returns-in_err-recorder-clause-damaged g c = λ m offset is.
    let p = err_from_is_err_and c.from_residual-in_err-recorder.result c.from_residual-in_err-recorder.ensures.1 in
    c.open_watched.ensures.refused.damaged m offset (c.in_err-recorder.was
    ∙ ap (λ (e : OpenRefused). Err e) (damaged_by c.in_err-recorder.field-0.0 m offset (sym (p.1 ∙ ap (λ (stop : ReplayRefused). Err stop) p.2) ∙ is)))

pub returns-in_err-lanes-clause-replayed : goal.returns-in_err-lanes-clause-replayed
returns-in_err-lanes-clause-replayed g c = λ x bytes told holds sound known.
    let p = err_from_is_err_and c.from_residual-in_err-lanes.result c.from_residual-in_err-lanes.ensures.1 in
    let rose = Rose (sum (g.M.Media.faults c.args.media.now)) (sum (g.M.Media.faults c.open_watched.new.media)) in
    let reads = config_read (g.M.Media.disk c.args.media.now).reads x holds in
    let opened = c.in_ok-recorder.ensures.opened.opened x told holds sound in
    subst (Answers x bytes (g.I.Source.left c.header.new.input) rose (g.M.Media.disk c.args.media.now) (g.M.Media.disk c.open_watched.new.media) g.W.Watch.hears (g.W.Watch.seen c.open_watched.new.watch))
    (sym (p.1 ∙ ap (λ (stop : ReplayRefused). Err stop) p.2))
    (λ meet. begun_nothing x bytes (g.I.Source.left c.header.new.input) rose reads sound opened.0 c.in_ok-recorder.recorder c.in_ok-recorder.recorder
    (g.M.Media.disk c.args.media.now) (g.M.Media.disk c.open_watched.new.media) (g.M.Media.disk c.open_watched.new.media) opened.3
    (passes_opened (opening_of x) (g.M.Media.disk c.args.media.now) (g.M.Media.disk c.open_watched.new.media) (Ok c.in_ok-recorder.recorder)
    (c.in_ok-recorder.ensures.moments x told holds meet sound))
    opened.1 opened.2 opened.3 (passes_first (opening_of x) [] (g.M.Media.disk c.open_watched.new.media)))

pub returns-clause-replayed : goal.returns-clause-replayed
returns-clause-replayed g c = λ x bytes told holds sound known.
    let rose = Rose (sum (g.M.Media.faults c.args.media.now)) (sum (g.M.Media.faults c.record_run.new.media)) in
    let reads = config_read (g.M.Media.disk c.args.media.now).reads x holds in
    let opened = c.in_ok-recorder.ensures.opened.opened x told holds sound in
    let was = c.in_ok-recorder.ensures.opened.contents x told holds in
    let meet = was.0 in
    let same = was.1.config in
    let begins = subst (λ (first : Option (List ℕ)). HasRead first (g.I.Source.left c.header.new.input) c.header.new.self []) known
    (read_first _ _ _ c.in_ok-header.ensures.bytes (c.in_ok-header.ensures.ready ∙ ap (λ (r : Reading). begun_reading r.limit) c.new-reader.ensures)) in
    answers x bytes (g.I.Source.left c.record_run.new.input) rose reads sound (g.M.Media.disk c.open_watched.new.media).clock c.in_ok-recorder.recorder c.record_run.new.recorder
    (g.M.Media.disk c.args.media.now) (g.M.Media.disk c.open_watched.new.media) (g.M.Media.disk c.record_run.new.media) (c.in_ok-recorder.ensures.recorded x told holds sound)
    (passes_opened (opening_of x) (g.M.Media.disk c.args.media.now) (g.M.Media.disk c.open_watched.new.media) (Ok c.in_ok-recorder.recorder)
    (c.in_ok-recorder.ensures.moments x told holds meet sound))
    (omega (arith, opened.1, opened.2)) (omega arith) g.W.Watch.hears (g.W.Watch.seen c.open_watched.new.watch) (g.W.Watch.seen c.record_run.new.watch)
    (λ hearing. heard_opening (opening_of x) _ (g.M.Media.disk c.args.media.now) (g.M.Media.disk c.open_watched.new.media) c.open_watched.result c.in_ok-recorder.recorder c.in_ok-recorder.was (c.open_watched.ensures.heard hearing))
    (g.I.Source.left c.header.new.input) c.header.new.self
    (admits_all x.config (subst IsConfiguration (c.config.ensures ∙ same) c.new.ensures.legal)) begins c.record_run.result
    (λ is. sum_of_rose _ _ (none_falls_join _ _ _ c.open_watched.ensures.writes.cause.later c.record_run.ensures.cause.later)
    (rose_joined _ _ _ c.open_watched.ensures.writes.cause.later (c.record_run.ensures.cause.by_medium is)))
    (subst (λ (config : Configuration). Runs (opening_of x) (g.M.Media.disk c.open_watched.new.media).clock (g.I.Source.left c.header.new.input) c.header.new.self
    (g.I.Source.left c.record_run.new.input) config.groups c.record_run.new.recorder (g.M.Media.disk c.open_watched.new.media)
    (g.M.Media.disk c.record_run.new.media) g.W.Watch.hears (g.W.Watch.seen c.open_watched.new.watch) (g.W.Watch.seen c.record_run.new.watch) c.record_run.result) same
    (c.record_run.ensures.ran (opening_of x) (g.M.Media.disk c.open_watched.new.media).clock told (c.in_ok-recorder.ensures.recorded x told holds sound)))

pub returns-in_err-header-clause-left : goal.returns-in_err-header-clause-left
returns-in_err-header-clause-left g c = λ x told holds meet sound. inl (inl
    (moments_none (g.M.Media.disk c.args.media.now) (λ i. (g.M.Media.disk c.args.media.now).now i) (λ i now. now)))

pub returns-in_err-recorder-clause-left : goal.returns-in_err-recorder-clause-left
returns-in_err-recorder-clause-left g c = λ x told holds meet sound.
    let rose = Rose (sum (g.M.Media.faults c.args.media.now)) (sum (g.M.Media.faults c.open_watched.new.media)) in
    inl (opened_nothing x rose (g.M.Media.disk c.args.media.now)
    (g.M.Media.disk c.open_watched.new.media) (config_read (g.M.Media.disk c.args.media.now).reads x holds) sound c.open_watched.result (c.open_watched.ensures.moments x told holds meet sound))

pub returns-in_err-lanes-clause-left : goal.returns-in_err-lanes-clause-left
returns-in_err-lanes-clause-left g c = λ x told holds meet sound.
    let rose = Rose (sum (g.M.Media.faults c.args.media.now)) (sum (g.M.Media.faults c.open_watched.new.media)) in
    inl (opened_nothing x rose (g.M.Media.disk c.args.media.now)
    (g.M.Media.disk c.open_watched.new.media) (config_read (g.M.Media.disk c.args.media.now).reads x holds) sound c.open_watched.result (c.open_watched.ensures.moments x told holds meet sound))

pub returns-clause-left : goal.returns-clause-left
returns-clause-left g c = λ x told holds meet sound.
    let rose = Rose (sum (g.M.Media.faults c.args.media.now)) (sum (g.M.Media.faults c.record_run.new.media)) in
    let reads = config_read (g.M.Media.disk c.args.media.now).reads x holds in
    let opened = c.in_ok-recorder.ensures.opened.opened x told holds sound in
    let same = (c.in_ok-recorder.ensures.opened.contents x told holds).1.config in
    leaves x [] (g.I.Source.left c.record_run.new.input) rose reads sound (g.M.Media.disk c.open_watched.new.media).clock c.in_ok-recorder.recorder c.record_run.new.recorder
    (g.M.Media.disk c.args.media.now) (g.M.Media.disk c.open_watched.new.media) (g.M.Media.disk c.record_run.new.media) (c.in_ok-recorder.ensures.recorded x told holds sound)
    (passes_opened (opening_of x) (g.M.Media.disk c.args.media.now) (g.M.Media.disk c.open_watched.new.media) (Ok c.in_ok-recorder.recorder)
    (c.in_ok-recorder.ensures.moments x told holds meet sound))
    (omega (arith, opened.1, opened.2)) (omega arith) g.W.Watch.hears (g.W.Watch.seen c.open_watched.new.watch) (g.W.Watch.seen c.record_run.new.watch)
    (λ hearing. heard_opening (opening_of x) _ (g.M.Media.disk c.args.media.now) (g.M.Media.disk c.open_watched.new.media) c.open_watched.result c.in_ok-recorder.recorder c.in_ok-recorder.was (c.open_watched.ensures.heard hearing))
    (g.I.Source.left c.header.new.input) c.header.new.self
    (admits_all x.config (subst IsConfiguration (c.config.ensures ∙ same) c.new.ensures.legal)) c.record_run.result
    (λ is. sum_of_rose _ _ (none_falls_join _ _ _ c.open_watched.ensures.writes.cause.later c.record_run.ensures.cause.later)
    (rose_joined _ _ _ c.open_watched.ensures.writes.cause.later (c.record_run.ensures.cause.by_medium is)))
    (subst (λ (config : Configuration). Runs (opening_of x) (g.M.Media.disk c.open_watched.new.media).clock (g.I.Source.left c.header.new.input) c.header.new.self
    (g.I.Source.left c.record_run.new.input) config.groups c.record_run.new.recorder (g.M.Media.disk c.open_watched.new.media)
    (g.M.Media.disk c.record_run.new.media) g.W.Watch.hears (g.W.Watch.seen c.open_watched.new.watch) (g.W.Watch.seen c.record_run.new.watch) c.record_run.result) same
    (c.record_run.ensures.ran (opening_of x) (g.M.Media.disk c.open_watched.new.media).clock told (c.in_ok-recorder.ensures.recorded x told holds sound)))

pub returns-in_err-header-clause-blank : goal.returns-in_err-header-clause-blank
returns-in_err-header-clause-blank g c told un = moments_none (g.M.Media.disk c.args.media.now) (λ i. (g.M.Media.disk c.args.media.now).now i) (λ i now. now)

pub returns-clause-blank : goal.returns-clause-blank
returns-clause-blank g c told un = absurd (never_both (g.M.Media.disk c.args.media.now).reads (c.in_ok-recorder.ensures.opened.parts told).0 un)

pub returns-clause-cause : goal.returns-clause-cause
returns-clause-cause g c = replay_after _ _ _ c.record_run.result c.open_watched.ensures.writes.cause.later c.record_run.ensures.cause

pub returns-in_err-header-clause-openable : goal.returns-in_err-header-clause-openable
returns-in_err-header-clause-openable g c = λ told.
    let p = err_from_is_err_and c.from_residual.result c.from_residual.ensures.1 in
    subst (λ (result : Result Replayed ReplayRefused). IfOpened result (IsOpenable (g.M.Media.disk c.args.media.now).reads
    (λ x. Decides x (g.I.Source.left c.args.input.now) (g.I.Source.left c.header.new.input) result)))
    (sym (p.1 ∙ ap (λ (stop : ReplayRefused). Err stop) p.2)) (header_says c.in_err-header.field-0.0 _)

pub returns-in_err-recorder-clause-openable : goal.returns-in_err-recorder-clause-openable
returns-in_err-recorder-clause-openable g c = λ told.
    let p = err_from_is_err_and c.from_residual-in_err-recorder.result c.from_residual-in_err-recorder.ensures.1 in
    subst (λ (result : Result Replayed ReplayRefused). IfOpened result (IsOpenable (g.M.Media.disk c.args.media.now).reads
    (λ x. Decides x (g.I.Source.left c.args.input.now) (g.I.Source.left c.header.new.input) result)))
    (sym (p.1 ∙ ap (λ (stop : ReplayRefused). Err stop) p.2)) (opening_says c.in_err-recorder.field-0.0 _)

pub returns-in_err-lanes-clause-openable : goal.returns-in_err-lanes-clause-openable
returns-in_err-lanes-clause-openable g c = λ told.
    let p = err_from_is_err_and c.from_residual-in_err-lanes.result c.from_residual-in_err-lanes.ensures.1 in
    subst (λ (result : Result Replayed ReplayRefused). IfOpened result (IsOpenable (g.M.Media.disk c.args.media.now).reads
    (λ x. Decides x (g.I.Source.left c.args.input.now) (g.I.Source.left c.header.new.input) result)))
    (sym (p.1 ∙ ap (λ (stop : ReplayRefused). Err stop) p.2)) tt

pub returns-clause-openable : goal.returns-clause-openable
returns-clause-openable g c = λ told.
    let was = c.in_ok-recorder.ensures.opened.parts told in
    let read = read_first _ _ _ c.in_ok-header.ensures.bytes (c.in_ok-header.ensures.ready ∙ ap (λ (r : Reading). begun_reading r.limit) c.new-reader.ensures)
    in
    opened_says c.record_run.result _ (
      was.0,
      was.1,
      was.2,
      was.3,
      decides_as was.1 _ _ _ (g.I.Source.left c.args.input.now) (g.I.Source.left c.header.new.input) (g.I.Source.left c.record_run.new.input) c.header.new.self
          was.4.place was.4.last was.4.config read
          c.record_run.result c.record_run.ensures.decided,
    )

pub returns-in_err-header-clause-untouched : goal.returns-in_err-header-clause-untouched
returns-in_err-header-clause-untouched g c = λ refuses.
    let p = err_from_is_err_and c.from_residual.result c.from_residual.ensures.1 in
    header_of_feed c.in_err-header.field-0.0 (subst RefusesMedia (p.1 ∙ ap (λ (stop : ReplayRefused). Err stop) p.2) refuses)

pub returns-in_err-recorder-clause-unopened : goal.returns-in_err-recorder-clause-unopened
returns-in_err-recorder-clause-unopened g c = λ ends.
    let p = err_from_is_err_and c.from_residual-in_err-recorder.result c.from_residual-in_err-recorder.ensures.1 in
    not_at_header c.in_err-recorder.field-0.0 (subst EndsAtHeader (p.1 ∙ ap (λ (stop : ReplayRefused). Err stop) p.2) ends)

pub returns-in_err-recorder-clause-untouched : goal.returns-in_err-recorder-clause-untouched
returns-in_err-recorder-clause-untouched g c = λ refuses.
    let p = err_from_is_err_and c.from_residual-in_err-recorder.result c.from_residual-in_err-recorder.ensures.1 in
    c.open_watched.ensures.refused.untouched (refused_media c.open_watched.result c.in_err-recorder.field-0.0 c.in_err-recorder.was
    (subst RefusesMedia (p.1 ∙ ap (λ (stop : ReplayRefused). Err stop) p.2) refuses))

pub returns-in_err-lanes-clause-unopened : goal.returns-in_err-lanes-clause-unopened
returns-in_err-lanes-clause-unopened g c = λ ends.
    let p = err_from_is_err_and c.from_residual-in_err-lanes.result c.from_residual-in_err-lanes.ensures.1 in
    absurd (subst EndsAtHeader (p.1 ∙ ap (λ (stop : ReplayRefused). Err stop) p.2) ends)

pub returns-in_err-lanes-clause-untouched : goal.returns-in_err-lanes-clause-untouched
returns-in_err-lanes-clause-untouched g c = λ refuses.
    let p = err_from_is_err_and c.from_residual-in_err-lanes.result c.from_residual-in_err-lanes.ensures.1 in
    absurd (subst RefusesMedia (p.1 ∙ ap (λ (stop : ReplayRefused). Err stop) p.2) refuses)

pub returns-clause-unopened : goal.returns-clause-unopened
returns-clause-unopened g c = λ ends. begun_header c.record_run.result c.record_run.ensures.stops ends

pub returns-clause-untouched : goal.returns-clause-untouched
returns-clause-untouched g c = λ refuses. begun_media c.record_run.result c.record_run.ensures.stops refuses

pub returns-in_err-header-clause-missing : goal.returns-in_err-header-clause-missing
returns-in_err-header-clause-missing g c = λ refuses.
    let p = err_from_is_err_and c.from_residual.result c.from_residual.ensures.1 in
    no_run_of_feed c.in_err-header.field-0.0 (subst RefusesRun (p.1 ∙ ap (λ (stop : ReplayRefused). Err stop) p.2) refuses)

pub returns-clause-missing : goal.returns-clause-missing
returns-clause-missing g c = λ refuses x told holds.
    missing_still (λ m. g.M.Media.disk m) x (g.M.Media.disk c.args.media.now) c.open_watched.new.media c.record_run.new.media (c.record_run.ensures.unbegun refuses) (c.open_watched.ensures.missing x told holds)

pub returns-clause-header : goal.returns-clause-header
returns-clause-header g c = begun_tells _ _ c.record_run.result c.record_run.ensures.stops (begins_so _ _ c.in_ok-header.ensures.bytes)

pub returns-in_err-header-clause-beside : goal.returns-in_err-header-clause-beside
returns-in_err-header-clause-beside g c = λ refuses.
    let p = err_from_is_err_and c.from_residual.result c.from_residual.ensures.1 in
    no_run_of_feed c.in_err-header.field-0.0 (subst RefusesRun (p.1 ∙ ap (λ (stop : ReplayRefused). Err stop) p.2) refuses)

pub returns-clause-beside : goal.returns-clause-beside
returns-clause-beside g c = λ refuses told. beside_still (λ m. g.M.Media.disk m) (g.M.Media.disk c.args.media.now).reads c.open_watched.new.media c.record_run.new.media
    (c.record_run.ensures.unbegun refuses) (c.open_watched.ensures.writes.others told)

pub returns-in_err-recorder-clause-others : goal.returns-in_err-recorder-clause-others
returns-in_err-recorder-clause-others g c = λ told k apart. c.open_watched.ensures.writes.others told k (apart 1 0 (omega arith))

pub returns-in_err-lanes-clause-others : goal.returns-in_err-lanes-clause-others
returns-in_err-lanes-clause-others g c = λ told k apart. c.open_watched.ensures.writes.others told k (apart 1 0 (omega arith))

pub returns-clause-others : goal.returns-clause-others
returns-clause-others g c = λ told k apart. c.record_run.ensures.others told k apart ∙ c.open_watched.ensures.writes.others told k (apart 1 0 (omega arith))
