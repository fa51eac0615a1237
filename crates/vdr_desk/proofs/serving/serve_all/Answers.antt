use Rattle.std.proofs.Common.{rules, ◌∙◌, ap}
use Rattle.vdr_desk.specs.declared.desk.Desk.{Desk}
use Rattle.vdr_desk.proofs.serving.serve_all.Goals as goal

pub for_each_mut-requires-clause-accepts : goal.for_each_mut-requires-clause-accepts
for_each_mut-requires-clause-accepts g c κs within i p low is =
    let h = c.requires.held i p.now low in
    ((h.0, ap (λ (d : Desk g.row.L.Denot g.row.T-Event.Denot). d.pass) is ∙ h.1, h.2, h.3), search rules)
