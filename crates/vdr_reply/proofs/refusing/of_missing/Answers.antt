use Rattle.std.proofs.Common.{refl}
use Rattle.vdr_reply.specs.Exports.{missing_line}
use Rattle.vdr_reply.proofs.refusing.of_missing.Goals as goal

pub returns : goal.returns
unfolding missing_line
returns c = rw (c.of_line.ensures, c.as_slice.ensures.value, c.push_text-3.ensures, c.push_text-2.ensures, c.push_text.ensures, c.new-line.ensures, c.as_bytes.ensures.value, c.format.ensures.text) refl
