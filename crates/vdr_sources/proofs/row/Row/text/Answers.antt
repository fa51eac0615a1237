use Rattle.std.proofs.Common.{rules}
use Rattle.vdr_sources.specs.Tables.{row_text}
use Rattle.vdr_sources.proofs.row.Row.text.Goals as goal

pub returns : goal.returns
unfolding row_text
returns c = search rules
