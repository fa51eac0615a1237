use Rattle.std.proofs.Common.{rules}
use Rattle.vdr_ais.specs.Targets.{ship_text}
use Rattle.vdr_ais.proofs.ship.Ship.text.Goals as goal

pub returns : goal.returns
unfolding ship_text
returns c = search rules
