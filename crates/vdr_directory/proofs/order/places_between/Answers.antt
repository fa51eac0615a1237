use Rattle.vdr_directory.proofs.Extents.{between_none, between_some, between_past}
use Rattle.vdr_directory.proofs.order.places_between.Goals as goal

pub returns-in_err-checked_sub-in-Some : goal.returns-in_err-checked_sub-in-Some
returns-in_err-checked_sub-in-Some c q p dq dp runs = between_past q p _ _ _ dp (c.in-Some.ensures q dq runs) c.in_err-checked_sub-in-Some.ensures c.from_residual.ensures

pub returns-in-None : goal.returns-in-None
returns-in-None c q p dq dp runs = between_none q p _ _ _ dq dp (c.in-None.ensures q dq runs) c.checked_sub.ensures

pub returns-in_ok-checked_sub-in-Some : goal.returns-in_ok-checked_sub-in-Some
returns-in_ok-checked_sub-in-Some c q p dq dp runs =
    between_some q p _ _ _ _ dp (c.in-Some.ensures q dq runs) c.in_ok-checked_sub-in-Some.ensures c.checked_sub-in-Some-2.ensures
