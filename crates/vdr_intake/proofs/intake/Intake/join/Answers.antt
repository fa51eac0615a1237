use Rattle.std.proofs.Common.{ap, ◌∙◌}
use Rattle.vdr_intake.specs.declared.view.EndView.{EndView}
use Rattle.vdr_intake.proofs.Steps.{merges, is_left}
use Rattle.vdr_intake.proofs.intake.Intake.join.Goals as goal

pub absorb-requires-clause-rule : goal.absorb-requires-clause-rule
absorb-requires-clause-rule c = merges _ _ _ _ c.taker.invariant.takes c.feeder.invariant.feeds

pub learn_as-requires-clause-rule : goal.learn_as-requires-clause-rule
learn_as-requires-clause-rule c = is_left _ _ (ap (λ (v : EndView). v.takes) c.absorb.ensures.rule ∙ c.taker.invariant.takes)
