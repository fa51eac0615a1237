use Rattle.vdr_datagram.proofs.LineLemmas.{no_bits_of_refusal}
use Rattle.vdr_datagram.proofs.channels.bits_of_line.Goals as goal

pub returns-in_default : goal.returns-in_default
returns-in_default c = no_bits_of_refusal c.args.line.now c.in_default.not-Good c.args.group c.args.channels.now
