use Rattle.std.proofs.Common.{arith}
use Rattle.vdr_terms.specs.Legality.{IsBytes}
use Rattle.vdr_verify.proofs.Pieces.{four_are}
use Rattle.vdr_verify.proofs.reader.number_in.Goals as goal

pub returns : goal.returns
returns c =
    let bytes : IsBytes c.args.bytes.now = λ i. omega (arith, c.type_inv.bytes i) in
    four_are c.args.bytes.now c.u32_at.result c.requires bytes c.u32_at.ensures
