use Rattle.std.proofs.Common.{sym, ◌∙◌, refl}
use Rattle.vdr_directory.proofs.Endings.{second_none, second_some}
use Rattle.vdr_ring.proofs.choice.last_second.Goals as goal

pub returns-in-None : goal.returns-in-None
returns-in-None c count placed tells = second_none placed (sym tells.ending ∙ sym c.ending.ensures ∙ c.in-None.is)

pub returns-in-Some : goal.returns-in-Some
returns-in-Some c count placed tells = second_some placed c.in-Some.ending _ (sym tells.ending ∙ sym c.ending.ensures ∙ c.in-Some.is) refl
