use Rattle.std.proofs.Common.{refl}
use Rattle.vdr_tool.specs.Summaries.{group_line}
use Rattle.vdr_tool.proofs.summary.line_of_group.Goals as goal

pub returns : goal.returns
unfolding group_line
returns c = rw (
  c.push_text-2.ensures,
  c.push_count-6.ensures.line,
  c.push_count-5.ensures.line,
  c.push_count-4.ensures.line,
  c.push_count-3.ensures.line,
  c.push_count-2.ensures.line,
  c.push_count.ensures.line,
  c.push_text.ensures,
  c.new-line.ensures,
  c.name_of.ensures.name,
) refl
