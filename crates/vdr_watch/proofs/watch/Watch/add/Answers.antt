use Rattle.std.proofs.Common.{◌∙◌, ap}
use Rattle.vdr_watch.specs.Kept.{Kept}
use Rattle.vdr_watch.specs.Supervision.{met_in}
use Rattle.vdr_watch.proofs.Records.{kept_with}
use Rattle.vdr_watch.proofs.watch.Watch.add.Goals as goal

pub returns-clause-added : goal.returns-clause-added
returns-clause-added g c before is =
    let kept = c.in_ok-add.ensures.kept (met_in before) (record { beats = ap (λ (k : Kept). k.heartbeats) (c.self.view_is ∙ is); states = ap (λ (k : Kept). k.alarms) (c.self.view_is ∙ is); alerts = ap (λ (k : Kept). k.board) (c.self.view_is ∙ is) }) in
    kept_with before c.args.item.now _ _ _ c.of.result kept c.of.ensures
