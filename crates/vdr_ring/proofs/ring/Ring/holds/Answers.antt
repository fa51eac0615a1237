use Rattle.std.proofs.Common.{List, Option, None, map, sym, subst}
use Rattle.vdr_index.specs.declared.known.Known.{Known}
use Rattle.vdr_directory.specs.Knowns.{known_of}
use Rattle.vdr_directory.specs.Telling.{IsIndexedBy}
use Rattle.vdr_directory.proofs.TellingBy.{hold_all_by, hold_all_from, indexed_by, rise_by, rise_known}
use Rattle.vdr_ring.proofs.ring.Ring.holds.Goals as goal

pub returns-clause-known : goal.returns-clause-known
returns-clause-known c = rw (sym c.self.view_is) (λ known tells order.
    let count = c.self.inside.area.slots in
    c.holds_all.ensures count known (subst (λ (index : List (Option Known)). IsIndexedBy count known index) (sym c.index.ensures.index) tells.index) (rise_by None known order))

pub returns-clause-placed : goal.returns-clause-placed
returns-clause-placed c = rw (sym c.self.view_is) (λ placed tells order.
    let count = c.self.inside.area.slots in
    let known = map known_of placed in
    let there = subst (λ (index : List (Option Known)). IsIndexedBy count known index) (sym c.index.ensures.index) (indexed_by count placed _ order tells.index) in
    let h = c.holds_all.ensures count known there (rise_known None placed order) in
    (λ all. hold_all_from c.args.a c.args.b placed order (h.0 all), λ all. h.1 (hold_all_by c.args.a c.args.b placed order all)))
