use Rattle.std.proofs.Common.{List, [], ◌∷◌, ◌++◌, None, Some, subst}
use Rattle.vdr_terms.specs.Records.{Record}
use Rattle.vdr_export.specs.Collected.{IsCollected, StopsAt}
use Rattle.vdr_export.specs.Kept.{shown_as}
use Rattle.vdr_export.specs.Pictures.{Shown, shown}
use Rattle.vdr_export.proofs.Placing.{shown_none, shown_so, shown_some}
use Rattle.vdr_export.proofs.collecting.CollectingVisitor.visit.Goals as goal

pub returns-in_default-clause-has : goal.returns-in_default-clause-has
returns-in_default-clause-has g c first seen has = (
  has.0,
  shown_none (λ (ps : List Shown). IsCollected ps c.args.self.now.parts) first.block seen c.args.item.now
      (shown_so first.block c.args.self.now.block c.args.item.now c.shown_in.result None c.shown_in.ensures has.0 c.in_default.is) has.1,
)

pub returns-in-Ok-clause-has : goal.returns-in-Ok-clause-has
returns-in-Ok-clause-has g c first seen has = (
  has.0,
  shown_some (λ (ps : List Shown). IsCollected ps c.meet.new.self) first.block seen c.args.item.now (shown_as c.args.item.now.place c.in-Some.header)
      (shown_so first.block c.args.self.now.block c.args.item.now c.shown_in.result (Some c.in-Some.header) c.shown_in.ensures has.0 c.in-Some.is)
      (subst (λ (r : Record). IsCollected (shown first.block seen ++ shown_as r.place c.in-Some.header ∷ []) c.meet.new.self) c.item.view_is
      (c.in-Ok.ensures.collected (shown first.block seen) has.1)),
)

pub returns-in-Err-clause-stops : goal.returns-in-Err-clause-stops
returns-in-Err-clause-stops g c first seen has =
    shown_some (λ (ps : List Shown). StopsAt ps c.in-Err.refused) first.block seen c.args.item.now (shown_as c.args.item.now.place c.in-Some.header)
    (shown_so first.block c.args.self.now.block c.args.item.now c.shown_in.result (Some c.in-Some.header) c.shown_in.ensures has.0 c.in-Some.is)
    (subst (λ (r : Record). StopsAt (shown first.block seen ++ shown_as r.place c.in-Some.header ∷ []) c.in-Err.refused) c.item.view_is
    (c.in-Err.ensures.stops (shown first.block seen) has.1))
