use Rattle.std.proofs.Common.{◌≡◌, take}
use Rattle.vdr_desk.proofs.reply.Reply.of_line.Given as goal

abbrev pub invariant-loop-byte : goal.invariant-loop-byte
invariant-loop-byte l = l.line.items ≡ take l.byte-index l.text
