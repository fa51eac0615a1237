use Rattle.std.proofs.Common.{refl}
use Rattle.vdr_reply.specs.Texts.{state_line}
use Rattle.vdr_reply.proofs.lines.of_state.Goals as goal

pub returns : goal.returns
unfolding state_line
returns c = rw (
  c.of_line.ensures,
  c.as_slice.ensures.value,
  c.push_text-7.ensures,
  c.push_text-6.ensures,
  c.push_text-5.ensures,
  c.push_text-4.ensures,
  c.push_text-3.ensures,
  c.push_text-2.ensures,
  c.push_text.ensures,
  c.new-line.ensures,
  c.as_bytes-3.ensures.value,
  c.format-3.ensures.text,
  c.as_bytes-2.ensures.value,
  c.format-2.ensures.text,
  c.as_bytes.ensures.value,
  c.format.ensures.text,
) refl
