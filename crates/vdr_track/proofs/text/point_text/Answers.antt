use Rattle.std.proofs.Common.{rules}
use Rattle.vdr_track.specs.Texts.{point_text}
use Rattle.vdr_track.proofs.text.point_text.Goals as goal

pub returns-clause-text : goal.returns-clause-text
unfolding point_text
returns-clause-text c = search rules
