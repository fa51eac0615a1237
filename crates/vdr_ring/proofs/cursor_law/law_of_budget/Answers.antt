use Rattle.vdr_ring.proofs.Counting.{of_segments}
use Rattle.vdr_ring.proofs.cursor_law.law_of_budget.Goals as goal

pub returns : goal.returns
returns c query span ring placed tells = of_segments query span ring placed tells.index
