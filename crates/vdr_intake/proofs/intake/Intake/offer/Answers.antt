use Rattle.std.proofs.Common.{◌≡◌, ℕ, List, sym, ap, ◌∙◌, subst}
use Rattle.vdr_core.specs.Taken.{Captured}
use Rattle.vdr_intake.specs.Ends.{QueueId, Feeding}
use Rattle.vdr_intake.specs.Items.{Follows}
use Rattle.vdr_intake.specs.Passes.{known}
use Rattle.vdr_intake.proofs.Steps.{pushes, queued_of}
use Rattle.vdr_intake.proofs.intake.Intake.offer.Goals as goal

pub push_as-requires-clause-rule : goal.push_as-requires-clause-rule
push_as-requires-clause-rule g c =
    let group : c.args.self.now.group ≡ (known c.feeder.inside.pass).group = ap (λ (q : QueueId). q.group) (sym c.requires.queue) ∙ ap (λ (f : Feeding). f.queue.group) (sym c.feeder.view_is) in
    let pushed : c.args.feeder.now.pushed ≡ (known c.feeder.inside.pass).pushed = ap (λ (f : Feeding). f.pushed) (sym c.feeder.view_is) in
    let follows : Follows (known c.feeder.inside.pass).group (known c.feeder.inside.pass).pushed c.args.item = subst (λ (x : ℕ × List Captured). Follows x.0 x.1 c.args.item) (λ i. (group i, pushed i)) c.requires.follows in
    (pushes _ _ _ _ c.feeder.invariant.feeds follows c.requires.few, queued_of _ _ c.feeder.invariant.feeds)
