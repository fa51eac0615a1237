use Rattle.std.proofs.Common.{refl}
use Rattle.vdr_tool.specs.Trials.{trial_lines}
use Rattle.vdr_tool.proofs.trying.text_of.Goals as goal

pub returns : goal.returns
unfolding trial_lines
returns c = rw (c.push_line-3.ensures.line, c.push_line-2.ensures.line, c.push_line.ensures.line, c.push_sums.ensures.line, c.new-text.ensures) refl
