use Rattle.std.proofs.Common.{arith}
use Rattle.vdr_ais.specs.Views.{message_of}
use Rattle.vdr_ais.proofs.BitLemmas.{bits_length}
use Rattle.vdr_ais.proofs.field.bit_count.Goals as goal

pub returns : goal.returns
returns c = let n = bits_length (message_of c.args.message.now) in omega (arith, n)
