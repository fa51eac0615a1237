use Rattle.std.proofs.Common.{◌∙◌}
use Rattle.vdr_alerts.specs.Alerts.{part_cmp}
use Rattle.vdr_alerts.proofs.Ordered.{find_placed}
use Rattle.vdr_alerts.proofs.Orders.{part_total}
use Rattle.vdr_alerts.proofs.board.before_part.Goals as goal

pub returns : goal.returns
returns c = c.found.ensures ∙ find_placed part_cmp part_total c.args.parts.now c.args.part.now c.requires _ c.place_of_part.ensures
