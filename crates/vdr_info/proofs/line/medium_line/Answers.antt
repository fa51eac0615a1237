use Rattle.std.proofs.Common.{rules}
use Rattle.vdr_info.specs.Lines.{medium_line}
use Rattle.vdr_info.proofs.line.medium_line.Goals as goal

pub returns : goal.returns
unfolding medium_line
returns c = search rules
