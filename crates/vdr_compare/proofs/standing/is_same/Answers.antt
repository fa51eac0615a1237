use Rattle.vdr_compare.proofs.Sameness.{same_bytes}
use Rattle.vdr_compare.proofs.standing.is_same.Goals as goal

pub returns : goal.returns
returns c = same_bytes _ _ _ c.are_equal.ensures.legal.0 c.are_equal.ensures.legal.1 c.one_spelling.ensures c.are_equal.ensures.same
