use Rattle.std.proofs.Common.{Some, None}
use Rattle.vdr_values.proofs.Places.{parted-from_parts}
use Rattle.vdr_values.proofs.spelling.parted.Goals as goal

pub returns-in_err-n-clause-value : goal.returns-in_err-n-clause-value
returns-in_err-n-clause-value c =
    rw c.from_residual.ensures
    (parted-from_parts c.args.places c.args.text.now c.split_at.result.0.now c.split_at.result.1.now c.behind_first.result.now c.place_of.result None
    c.place_of.ensures.place c.split_at.ensures.front c.split_at.ensures.back c.behind_first.ensures c.in_err-n.ensures.value)

pub returns-clause-value : goal.returns-clause-value
returns-clause-value c =
    parted-from_parts c.args.places c.args.text.now c.split_at.result.0.now c.split_at.result.1.now c.behind_first.result.now c.place_of.result (Some c.in_ok-n.n)
    c.place_of.ensures.place c.split_at.ensures.front c.split_at.ensures.back c.behind_first.ensures c.in_ok-n.ensures.value
