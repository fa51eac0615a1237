use Rattle.std.proofs.Common.{ap}
use Rattle.vdr_core.specs.Histories.{Incident}
use Rattle.vdr_opening.proofs.ContentsHeld.{there_by, there_if_free}
use Rattle.vdr_opening.proofs.places.is_there.Goals as goal

pub returns-in-Some : goal.returns-in-Some
returns-in-Some c known tells order =
    there_by known c.args.table.now c.args.slot _ _ c.in-Some.save.now _ c.in-Some.ensures (ap (λ (x : Incident). x.a) c.save.view_is) (ap (λ (x : Incident). x.b) c.save.view_is) (c.holds.ensures.known known tells order)

pub returns-in-None : goal.returns-in-None
returns-in-None c known tells order = there_if_free known c.args.table.now c.args.slot c.in-None.ensures
