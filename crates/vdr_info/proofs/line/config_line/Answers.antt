use Rattle.std.proofs.Common.{rules}
use Rattle.vdr_info.specs.Lines.{config_line}
use Rattle.vdr_info.proofs.line.config_line.Goals as goal

pub returns : goal.returns
unfolding config_line
returns c = search rules
