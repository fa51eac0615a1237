use Rattle.vdr_session.specs.Standing.{Before}
use Rattle.vdr_session.proofs.Steps.{StaysHome}
use Rattle.vdr_session.proofs.Orders.{step_answers, step_kept, step_tallied}
use Rattle.vdr_session.proofs.answering.KeptAnswers.go_on.Goals as goal

pub returns-clause-leaves : goal.returns-clause-leaves
returns-clause-leaves g c = λ desk history h.
    let e = c.go_on.ensures in
    let before : Before = (record { clock = g.O.Lent.clock; now = g.O.Lent.now; since = g.O.Lent.since; until = g.O.Lent.until; reads = g.O.Lent.reads; channels = g.O.Lent.channels; hears = g.W.Watch.hears; heard = g.O.Lent.heard }) in
    let old = c.args.self.now in
    let home : StaysHome old.recorder (g.M.Media.disk old.media.now) (g.M.Media.faults old.media.now) c.go_on.new.recorder (g.M.Media.disk c.go_on.new.media) (g.M.Media.faults c.go_on.new.media) =
    record { config = e.rest.config; rings = e.rings; sizes = e.sizes; later = e.cause.later; rose = e.cause.rose; elsewhere = e.others } in (
      step_kept before g.O.Lent.began g.O.Lent.rates g.O.Lent.room g.O.Lent.sizes g.O.Lent.faults history (g.W.Watch.seen old.watch.now) (g.W.Watch.seen c.go_on.new.watch)
          old.recorder (g.M.Media.disk old.media.now) (g.M.Media.faults old.media.now) h.0 desk c.go_on.new.recorder (g.M.Media.disk c.go_on.new.media) (g.M.Media.faults c.go_on.new.media) e.watched home e.rest e.cause.stays
          (λ told opening t0 b. e.done opening _ t0 (h.0.told told opening t0 b).has),
      h.1,
      h.2,
      step_tallied before g.O.Lent.began g.O.Lent.rates g.O.Lent.room g.O.Lent.sizes g.O.Lent.faults history (g.W.Watch.seen old.watch.now) (g.W.Watch.seen c.go_on.new.watch)
          old.recorder (g.M.Media.disk old.media.now) (g.M.Media.faults old.media.now) h.0 desk c.go_on.new.recorder (g.M.Media.disk c.go_on.new.media) (g.M.Media.faults c.go_on.new.media) e.watched home e.rest e.cause.stays old.tally h.3,
    )

pub returns-clause-told : goal.returns-clause-told
returns-clause-told g c = λ desk first later waits h.
    let e = c.go_on.ensures in
    let before : Before = (record { clock = g.O.Lent.clock; now = g.O.Lent.now; since = g.O.Lent.since; until = g.O.Lent.until; reads = g.O.Lent.reads; channels = g.O.Lent.channels; hears = g.W.Watch.hears; heard = g.O.Lent.heard }) in
    let old = c.args.self.now in
    step_answers before g.O.Lent.began g.O.Lent.rates g.O.Lent.room g.O.Lent.sizes g.O.Lent.faults first later (g.W.Watch.seen old.watch.now)
    old.recorder (g.M.Media.disk old.media.now) (g.M.Media.faults old.media.now) h.0 desk c.go_on.new.recorder.vault.failed (g.M.Media.disk c.go_on.new.media).clock (g.M.Media.faults c.go_on.new.media)
    c.go_on.new.piece.bytes.items c.args.rest c.go_on.result waits e.went
