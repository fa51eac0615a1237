use Rattle.std.proofs.Common.{rules, ◌≡◌, ◌+◌, ◌++◌, ◌∷◌, [], ℕ, List, refl, sym, ap, subst, ◌∙◌, take}
use Rattle.std.specs.Prelude.{MatchOption}
use Rattle.std.proofs.lemmas.List.{with_items_is}
use Rattle.std.proofs.lemmas.Option.{none-some}
use Rattle.std.proofs.lemmas.Result.{IfOk-from_err}
use Rattle.vdr_directory.specs.Sequence.{Placed}
use Rattle.vdr_directory.specs.Holds.{Tells}
use Rattle.vdr_directory.specs.Leaving.{IsLeftBehind, LeavesNone}
use Rattle.vdr_ring.proofs.Alike.{front_more}
use Rattle.vdr_ring.proofs.ring.Ring.add.Goals as goal
use Rattle.vdr_ring.proofs.Adding.{batch_written, appended_before, appended_moments, appended_reads}

pub returns-in_err-newest-clause-added : goal.returns-in_err-newest-clause-added
returns-in_err-newest-clause-added g c = rw (sym c.self.view_is) (λ placed first told reads goes_on.
    let made = c.make_room.ensures.made placed first told
    (record { settled = reads.settled; order = reads.order; directory = reads.directory; loaded = λ j bad. absurd (none-some j bad); bare = reads.bare })
    (record { legal = c.write_batch-size.ensures.legal; fits = rw (sym c.self.view_is) at c.requires.fits; goes_on = goes_on }) in
    (made.0, made.1, appended_before _ _ _ placed made.0 _ _ made.2, IfOk-from_err c.from_residual.result _ c.from_residual.ensures.0))

pub returns-in_err-append_batch-clause-added : goal.returns-in_err-append_batch-clause-added
returns-in_err-append_batch-clause-added g c = rw (sym c.self.view_is) (λ placed first told reads goes_on.
    let made = c.in_ok-newest.ensures.made placed first told
    (record { settled = reads.settled; order = reads.order; directory = reads.directory; loaded = λ j bad. absurd (none-some j bad); bare = reads.bare })
    (record { legal = c.write_batch-size.ensures.legal; fits = rw (sym c.self.view_is) at c.requires.fits; goes_on = goes_on }) in
    let same = rw (sym c.self-2.view_is) at c.make_room.ensures.ring in
    let ready = rw (sym c.self-2.view_is) at made.3 in
    let is = (rw (sym c.self-2.view_is) at c.in_ok-newest.ensures.newest).0 in
    let buffer = rw (sym c.self-2.view_is) at c.make_room.ensures.buffer in
    let written = ap (take (c.write_batch-size.result + 1)) (c.deref.ensures.value ∙ buffer ∙ with_items_is c.self.inside.buffer _ (c.write_batch-size.auto.into ∙ c.deref_mut.ensures.len)) ∙ batch_written c.args.records.now _ _ _ c.write_batch-size.ensures.size c.write_batch-size.ensures.bytes.is in
    (made.0, made.1, appended_moments _ _ placed made.0 _ _ _ _ _ _ told same ready is written c.write_batch-size.ensures.legal made.2 c.append_batch.ensures.moments, IfOk-from_err c.from_residual-in_err-append_batch.result _ c.from_residual-in_err-append_batch.ensures.0))

pub invariant_of-self-2 : goal.invariant_of-self-2
invariant_of-self-2 g c =
    let i = c.self-2.invariant in
    (c.extend.ensures.size ∙ i.0, i.1, i.2, i.3, i.4)

pub returns-clause-added : goal.returns-clause-added
returns-clause-added g c = rw (sym c.self.view_is) (λ placed first told reads goes_on.
    let made = c.in_ok-newest.ensures.made placed first told
    (record { settled = reads.settled; order = reads.order; directory = reads.directory; loaded = λ j bad. absurd (none-some j bad); bare = reads.bare })
    (record { legal = c.write_batch-size.ensures.legal; fits = rw (sym c.self.view_is) at c.requires.fits; goes_on = goes_on }) in
    let same = rw (sym c.self-2.view_is) at c.make_room.ensures.ring in
    let ready = rw (sym c.self-2.view_is) at made.3 in
    let is = (rw (sym c.self-2.view_is) at c.in_ok-newest.ensures.newest).0 in
    let buffer = rw (sym c.self-2.view_is) at c.make_room.ensures.buffer in
    let loaded = rw (sym c.self-2.view_is) at c.make_room.ensures.loaded in
    let written = ap (take (c.write_batch-size.result + 1)) (c.deref.ensures.value ∙ buffer ∙ with_items_is c.self.inside.buffer _ (c.write_batch-size.auto.into ∙ c.deref_mut.ensures.len)) ∙ batch_written c.args.records.now _ _ _ c.write_batch-size.ensures.size c.write_batch-size.ensures.bytes.is in (
      made.0,
      made.1,
      appended_moments _ _ placed made.0 _ _ _ _ _ _ told same ready is written c.write_batch-size.ensures.legal made.2 c.append_batch.ensures.moments,
      (
        appended_reads _ _ placed made.0 _ _ _ (g.M.Media.disk c.args.media.now) _ _ told same ready is written c.write_batch-size.ensures.legal _ c.write_batch-size.result (search rules) refl refl refl loaded c.clear.ensures.items c.write_batch-size.ensures.size c.extend.ensures.index c.extend.ensures.newest
            c.extend.ensures.ending c.in_ok-append_batch.ensures.settled,
        subst (λ (ps : List Placed). MatchOption c.left_behind-left.result (LeavesNone ps) (λ x. IsLeftBehind ps x.0 x.1)) (sym ready.begun)
            (c.left_behind-left.ensures.left (ready.older ++ ready.newest ∷ []) (subst (λ (n : ℕ). Tells n (ready.older ++ ready.newest ∷ []) c.self-2.inside.directory) (sym c.self-2.invariant.0) ready.stands.directory) ready.begun_order),
      ),
    ))

pub returns-in_err-append_batch-clause-front : goal.returns-in_err-append_batch-clause-front
returns-in_err-append_batch-clause-front g c = rw (sym c.self.view_is) (
    let m : c.self-2.inside.area.medium ≡ c.self.inside.area.medium = (rw (sym c.self-2.view_is) at c.make_room.ensures.ring).medium in
    front_more _ _ _ _ c.make_room.ensures.front c.in_ok-newest.ensures.durable (rw m at c.append_batch.ensures.front))

pub returns-clause-front : goal.returns-clause-front
returns-clause-front g c = rw (sym c.self.view_is) (
    let m : c.self-2.inside.area.medium ≡ c.self.inside.area.medium = (rw (sym c.self-2.view_is) at c.make_room.ensures.ring).medium in
    front_more _ _ _ _ c.make_room.ensures.front c.in_ok-newest.ensures.durable (rw m at c.append_batch.ensures.front))

pub returns-in_err-append_batch-clause-writes : goal.returns-in_err-append_batch-clause-writes
returns-in_err-append_batch-clause-writes g c = record {
  others = search rules;
  sizes = search rules;
  rises = search rules;
  counts = search rules;
  cause = search rules;
}

pub returns-clause-writes : goal.returns-clause-writes
returns-clause-writes g c = record {
  others = search rules;
  sizes = search rules;
  rises = search rules;
  counts = search rules;
  cause = search rules;
}
