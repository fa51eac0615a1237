use Rattle.vdr_durability.proofs.keeping.law_of_doubt.Goals as goal
use Rattle.vdr_durability.proofs.Doubt.{one_in_doubt}

pub returns : goal.returns
returns g c = one_in_doubt g.S.Showing.shows (g.M.Media.disk c.args.media.now)
