use Rattle.vdr_tag.proofs.PartLemmas.{IsPlace-from_some, past-from_none, parts-at_place, parts-none}
use Rattle.vdr_tag.proofs.split.split_once.Goals as goal

pub returns-in_err-place-clause-whole : goal.returns-in_err-place-clause-whole
returns-in_err-place-clause-whole c = rw c.from_residual.ensures (parts-none c.args.at c.args.bytes.now (past-from_none c.args.at c.args.bytes.now c.in_err-place.ensures))

pub returns-clause-parts : goal.returns-clause-parts
returns-clause-parts c = parts-at_place c.args.at c.args.bytes.now c.in_ok-place.place (IsPlace-from_some c.args.at c.args.bytes.now c.in_ok-place.place c.in_ok-place.ensures)
