use Rattle.std.proofs.Common.{◌∙◌, ap, sym, subst, refl}
use Rattle.vdr_ais.specs.Pending.{AreEntries, Entries, HasPlace, Pending, ended_by}
use Rattle.vdr_ais.specs.Views.{key_of, part_of}
use Rattle.vdr_ais.proofs.Begun.{joined, no_place, pending_found, places_stay, shown_with, still_entries}
use Rattle.vdr_ais.proofs.unfinished.Unfinished.join.Goals as goal

pub place_of-requires : goal.place_of-requires
place_of-requires c = rw c.as_slice.ensures.value c.self.invariant

pub invariant_of-self : goal.invariant_of-self
invariant_of-self c =
    let k = key_of c.args.line.now.key in
    let es = c.self.inside.entries.items in
    subst AreEntries
    (sym (joined k (part_of c.args.line.now.part) es _ c.in-Ok.at c.index_mut.result.now c.join.new.self (rw c.as_slice.ensures.value at c.in-Ok.ensures.found) c.index_mut.ensures.value c.join.ensures.next refl))
    (still_entries k _ es c.self.invariant)

pub unreachable-requires : goal.unreachable-requires
unreachable-requires c = no_place (key_of c.args.line.now.key) c.self.inside.entries.items c.in-Err.field-0 c.self.invariant (rw c.as_slice.ensures.value at c.in-Err.ensures.absent) (rw (sym c.self.view_is) at c.requires)

pub returns-clause-places : goal.returns-clause-places
returns-clause-places c =
    let k = key_of c.args.line.now.key in
    let es = c.self.inside.entries.items in
    λ q has. subst (λ (xs : Entries). HasPlace xs q)
    (sym (joined k (part_of c.args.line.now.part) es _ c.in-Ok.at c.index_mut.result.now c.join.new.self (rw c.as_slice.ensures.value at c.in-Ok.ensures.found) c.index_mut.ensures.value c.join.ensures.next refl))
    (places_stay k _ es q (subst (λ (xs : Entries). HasPlace xs q) (sym c.self.view_is) has))

pub returns-clause-next : goal.returns-clause-next
returns-clause-next c =
    let k = key_of c.args.line.now.key in
    let es = c.self.inside.entries.items in
    λ q. rw (sym c.self.view_is)
    (shown_with k q (part_of c.args.line.now.part) es _
    (joined k (part_of c.args.line.now.part) es _ c.in-Ok.at c.index_mut.result.now c.join.new.self (rw c.as_slice.ensures.value at c.in-Ok.ensures.found) c.index_mut.ensures.value c.join.ensures.next refl))

pub returns-clause-ended : goal.returns-clause-ended
returns-clause-ended c =
    let k = key_of c.args.line.now.key in
    c.join.ensures.ended
    ∙ ap (λ (v : Pending). ended_by v (part_of c.args.line.now.part))
    (pending_found k c.args.self.now c.in-Ok.at c.index_mut.result.now (rw (c.as_slice.ensures.value, c.self.view_is) at c.in-Ok.ensures.found) (rw c.self.view_is at c.index_mut.ensures.value))

pub returns-clause-entries : goal.returns-clause-entries
returns-clause-entries c =
    let k = key_of c.args.line.now.key in
    let es = c.self.inside.entries.items in
    subst AreEntries
    (sym (joined k (part_of c.args.line.now.part) es _ c.in-Ok.at c.index_mut.result.now c.join.new.self (rw c.as_slice.ensures.value at c.in-Ok.ensures.found) c.index_mut.ensures.value c.join.ensures.next refl))
    (still_entries k _ es c.self.invariant)

pub returns-clause-before : goal.returns-clause-before
returns-clause-before c = subst AreEntries c.self.view_is c.self.invariant
