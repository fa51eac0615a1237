use Rattle.vdr_control.specs.Orders.{plain}
use Rattle.vdr_session.specs.Standing.{Before}
use Rattle.vdr_session.proofs.Steps.{StaysHome}
use Rattle.vdr_session.proofs.Orders.{order_answers, order_kept, order_tallied}
use Rattle.vdr_session.proofs.answering.KeptAnswers.answer.Goals as goal

pub returns-clause-leaves : goal.returns-clause-leaves
returns-clause-leaves g c = λ desk history h.
    let e = c.answer.ensures in
    let before : Before = (record { clock = g.O.Lent.clock; now = g.O.Lent.now; since = g.O.Lent.since; until = g.O.Lent.until; reads = g.O.Lent.reads; channels = g.O.Lent.channels; hears = g.W.Watch.hears; heard = g.O.Lent.heard }) in
    let old = c.args.self.now in
    let home : StaysHome old.recorder (g.M.Media.disk old.media.now) (g.M.Media.faults old.media.now) c.answer.new.recorder (g.M.Media.disk c.answer.new.media) (g.M.Media.faults c.answer.new.media) = record { config = e.rest.config; rings = e.rings; sizes = e.sizes; later = e.cause.later; rose = e.cause.rose; elsewhere = e.others } in (
      order_kept before g.O.Lent.began g.O.Lent.rates g.O.Lent.room g.O.Lent.sizes g.O.Lent.faults history (g.W.Watch.seen old.watch.now) (g.W.Watch.seen c.answer.new.watch)
          old.recorder (g.M.Media.disk old.media.now) (g.M.Media.faults old.media.now) h.0 desk (plain c.args.order) c.answer.result.0 c.answer.result.1
          c.answer.new.recorder (g.M.Media.disk c.answer.new.media) (g.M.Media.faults c.answer.new.media) e.watched home e.rest e.cause.stays old.tally h.3 e.answered,
      h.1,
      h.2,
      order_tallied before g.O.Lent.began g.O.Lent.rates g.O.Lent.room g.O.Lent.sizes g.O.Lent.faults history (g.W.Watch.seen old.watch.now) (g.W.Watch.seen c.answer.new.watch)
          old.recorder (g.M.Media.disk old.media.now) (g.M.Media.faults old.media.now) h.0 desk (plain c.args.order) c.answer.result.0 c.answer.result.1
          c.answer.new.recorder (g.M.Media.disk c.answer.new.media) (g.M.Media.faults c.answer.new.media) e.watched home e.rest e.cause.stays old.tally h.3 e.answered,
    )

pub returns-clause-told : goal.returns-clause-told
returns-clause-told g c = λ desk history h.
    let e = c.answer.ensures in
    let before : Before = (record { clock = g.O.Lent.clock; now = g.O.Lent.now; since = g.O.Lent.since; until = g.O.Lent.until; reads = g.O.Lent.reads; channels = g.O.Lent.channels; hears = g.W.Watch.hears; heard = g.O.Lent.heard }) in
    let old = c.args.self.now in
    let home : StaysHome old.recorder (g.M.Media.disk old.media.now) (g.M.Media.faults old.media.now) c.answer.new.recorder (g.M.Media.disk c.answer.new.media) (g.M.Media.faults c.answer.new.media) = record { config = e.rest.config; rings = e.rings; sizes = e.sizes; later = e.cause.later; rose = e.cause.rose; elsewhere = e.others } in
    order_answers before g.O.Lent.began g.O.Lent.rates g.O.Lent.room g.O.Lent.sizes g.O.Lent.faults history (g.W.Watch.seen old.watch.now) (g.W.Watch.seen c.answer.new.watch)
    old.recorder (g.M.Media.disk old.media.now) (g.M.Media.faults old.media.now) h.0 desk (plain c.args.order) c.answer.result.0 c.answer.result.1
    c.answer.new.recorder (g.M.Media.disk c.answer.new.media) (g.M.Media.faults c.answer.new.media) e.watched home e.rest e.cause.stays old.tally h.3 e.answered
