use Rattle.vdr_control.proofs.LineLemmas.{one_order}
use Rattle.vdr_control.proofs.laws.law_of_lines.Goals as goal

pub returns : goal.returns
returns c = one_order c.law_of_plays.ensures c.law_of_stamps.ensures
