use Rattle.std.proofs.Common.{◌∙◌, sym}
use Rattle.vdr_datagram.specs.Views.{verdict_of}
use Rattle.vdr_rows.proofs.Carried.{nothing_carried}
use Rattle.vdr_rows.proofs.numbers.may_carry_part.Goals as goal

pub returns : goal.returns
returns c = λ group no. nothing_carried group (verdict_of c.args.verdict.now) (sym c.is_carrier.ensures ∙ no)
