use Rattle.std.proofs.Common.{sym, ap, ◌∙◌, arith}
use Rattle.std.proofs.lemmas.Result.{IfOk-weaker}
use Rattle.vdr_terms.specs.Records.{Record}
use Rattle.vdr_ring.proofs.ring.Ring.make_room.Goals as goal
use Rattle.vdr_ring.proofs.Adding.{no_room, first_is, came_at, begins_stages, goes_on}

pub returns-in-Some-clause-made : goal.returns-in-Some-clause-made
returns-in-Some-clause-made g c placed first told reads may =
    goes_on c.args.self.now _ placed first c.args.records.now c.args.size c.in-Some.newest _ reads may c.requires.size c.in-Some.ensures.some.0 c.in-Some.ensures.some.1

pub returns-clause-made : goal.returns-clause-made
returns-clause-made g c placed first told reads may =
    let at = ap (λ (r : Record). r.place) (c.first.view_is ∙ c.index-records-0.is) ∙ first_is c.args.records.now _ first c.requires.some may.goes_on.places in
    let k = c.begin.ensures.begun placed c.args.records.now told reads (came_at _ placed first _ c.args.records.now at may)
    (no_room _ _ placed c.args.records.now _ reads.directory (λ room. c.in_default.ensures.none (rw (sym c.requires.size) at room))) in
    (k.0, begins_stages _ _ _ _ placed first _ c.args.records.now k.0 at k.1, k.2, k.3)

pub returns-clause-newest : goal.returns-clause-newest
returns-clause-newest g c = IfOk-weaker c.begin.result _ _ (λ n h. (h.0, let e = h.1 in omega (arith, e, c.requires.fits), h.2)) c.begin.ensures.newest
