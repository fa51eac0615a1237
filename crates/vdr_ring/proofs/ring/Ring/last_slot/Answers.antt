use Rattle.std.proofs.Common.{List, Option, sym, subst}
use Rattle.std.specs.Prelude.{IfSome}
use Rattle.vdr_index.specs.declared.known.Known.{Known}
use Rattle.vdr_index.specs.Indexes.{IsNewest}
use Rattle.vdr_directory.specs.Telling.{IsIndexedBy}
use Rattle.vdr_ring.proofs.ByKnowns.{last_slot_is}
use Rattle.vdr_ring.proofs.ring.Ring.last_slot.Goals as goal

pub returns-clause-found : goal.returns-clause-found
returns-clause-found c = rw (sym c.self.view_is) (λ known tells order legal.
    last_slot_is c.self.inside.area.slots known c.index.result.now (subst (λ (index : List (Option Known)). IsIndexedBy c.self.inside.area.slots known index) (sym c.index.ensures.index) tells.index) order legal c.newest.result
    c.newest.ensures.some c.newest.ensures.none)

pub returns-clause-newest : goal.returns-clause-newest
returns-clause-newest c = rw (sym c.self.view_is) (subst (λ (index : List (Option Known)). IfSome c.newest.result (IsNewest index)) c.index.ensures.index c.newest.ensures.some)
