use Rattle.std.proofs.Common.{List, ℕ, subst}
use Rattle.vdr_rescue.specs.Fronts.{ShowsFront}
use Rattle.vdr_rescue.proofs.fronts.read_one.Goals as goal

pub returns-clause-shows : goal.returns-clause-shows
returns-clause-shows g c told = subst (λ (bs : List ℕ). ShowsFront bs c.front_of.result) (c.in-Ok.ensures.bytes told) c.front_of.ensures
