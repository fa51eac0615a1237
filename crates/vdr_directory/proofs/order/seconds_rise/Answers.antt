use Rattle.std.proofs.Common.{sym, ◌∙◌}
use Rattle.vdr_directory.proofs.Extents.{seconds_both}
use Rattle.vdr_directory.proofs.order.seconds_rise.Goals as goal

pub returns-in-Some-Some : goal.returns-in-Some-Some
returns-in-Some-Some c q p dq dp = seconds_both q p _ _ _ _ dq dp (sym c.known_summary.ensures ∙ c.in-Some-Some.is-0) (sym c.known_summary-2.ensures ∙ c.in-Some-Some.is-1)
