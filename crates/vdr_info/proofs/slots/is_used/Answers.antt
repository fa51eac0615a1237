use Rattle.std.proofs.Common.{List, ℕ, subst}
use Rattle.std.specs.Prelude.{◌↔◌, IsTrue}
use Rattle.vdr_info.specs.Used.{IsUsed}
use Rattle.vdr_info.proofs.slots.is_used.Goals as goal

pub returns-clause-used : goal.returns-clause-used
returns-clause-used g c told = subst (λ (bs : List ℕ). IsTrue c.is_segment.result ↔ IsUsed bs) (c.in-Ok.ensures.bytes told) c.is_segment.ensures
