use Rattle.std.proofs.Common.{◌∙◌, ap}
use Rattle.std.proofs.Common.{rules}
use Rattle.vdr_segment.specs.Slots.{place_of}
use Rattle.vdr_ring.proofs.Visiting.{steps_on}
use Rattle.vdr_ring.proofs.ring.Ring.step_in.Goals as goal

pub returns-in-Ok-clause-steps : goal.returns-in-Ok-clause-steps
returns-in-Ok-clause-steps c =
    steps_on c.args.selection.now c.args.self.now.medium c.args.slot (place_of c.args.self.now.segment c.args.slot) c.args.self.now.buffer c.deref.result.now c.args.visit.now c.step_from.new.self c.in-Some.position c.in-Ok.found
    (c.deref.ensures.value ∙ ap (λ r. r.buffer) c.self.view_is) (search rules) c.in-Some.ensures.some c.in-Ok.ensures
