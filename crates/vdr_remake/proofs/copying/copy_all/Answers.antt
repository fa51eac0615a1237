use Rattle.std.proofs.Common.{rules, ℕ, List, Option, sym, subst, arith}
use Rattle.std.proofs.lemmas.Result.{err_from_is_err_and}
use Rattle.vdr_terms.proofs.Results.{same_err}
use Rattle.vdr_outside.specs.Disk.{content}
use Rattle.vdr_outside.proofs.Counts.{none_fell, none_falls_join}
use Rattle.vdr_segment.specs.Segments.{Segment}
use Rattle.vdr_segment.specs.Slots.{HoldsSlots}
use Rattle.vdr_segment.proofs.Fronts.{front_joined, front_same}
use Rattle.vdr_media.proofs.Behind.{behind_join, behind_none}
use Rattle.vdr_ring.specs.Damage.{HasDamage}
use Rattle.vdr_remake.proofs.Copies.{hold_at, hold_length, copied_more, part_long, room_read, so_far_all, so_far_none}
use Rattle.vdr_remake.proofs.copying.copy_all.Goals as goal

pub loop-i-init : goal.loop-i-init
loop-i-init g c = record {
  writes = behind_none _ _;
  copied = λ told placed h empty. subst (λ (xs : List (Option Segment)). HoldsSlots c.args.to.segment xs (content (g.M.Media.disk c.args.media.now).reads c.args.to.medium)) (sym (so_far_none c.args.to.slots placed)) empty;
  front = λ told. front_same _;
  whole = search rules;
  cause = none_fell _;
}

pub returns-in_err-copy_slot-clause-writes : goal.returns-in_err-copy_slot-clause-writes
returns-in_err-copy_slot-clause-writes g c = behind_join _ _ _ _ c.loop-i.invariant.writes c.copy_slot.ensures.writes

pub returns-in_err-copy_slot-clause-damaged : goal.returns-in_err-copy_slot-clause-damaged
returns-in_err-copy_slot-clause-damaged g c =
    let p = err_from_is_err_and c.from_residual.result c.from_residual.ensures.1 in
    rw (p.1, p.2) (λ m offset e.
    let h = c.in_err-copy_slot.ensures.damaged m offset (same_err _ _ e) in
    (h.0, λ told. subst (λ (b : List ℕ). HasDamage c.args.from.segment c.args.from.slots b offset) (c.loop-i.invariant.writes.others told c.args.from.medium c.requires.apart) (h.1 told)))

pub loop-i-preserved : goal.loop-i-preserved
loop-i-preserved g c = record {
  writes = behind_join _ _ _ _ c.loop-i.invariant.writes c.copy_slot.ensures.writes;
  copied = λ told placed h empty.
      let room = room_read (g.M.Media.disk c.args.media.now) c.args.from c.requires.from_room told in
      let same = c.loop-i.invariant.writes.others told c.args.from.medium c.requires.apart in
      copied_more _ _ _ _ _ placed _ _ _ _ (c.in_ok-copy_slot.ensures.reads told) same c.requires.alike
      (hold_at _ _ _ placed _ _ h c.loop-i-test.true)
      (omega (arith, c.loop-i-test.true, c.requires.to_within))
      (part_long _ _ _ _ room (c.requires.from_within c.loop-i.i _ c.loop-i-test.true))
      (c.loop-i.invariant.copied told placed h empty);
  front = λ told. front_joined _ _ _ (c.loop-i.invariant.front told) (c.copy_slot.ensures.front told);
  whole = search rules;
  cause = none_falls_join _ _ _ c.loop-i.invariant.cause c.copy_slot.ensures.cause.later;
}

pub returns-clause-copied : goal.returns-clause-copied
returns-clause-copied g c told placed h empty =
    let long = hold_length c.args.from.segment (content (g.M.Media.disk c.args.media.now).reads c.args.from.medium) c.args.entries.now placed h in
    subst (λ (xs : List (Option Segment)). HoldsSlots c.args.to.segment xs (content (g.M.Media.disk c.loop-i.media).reads c.args.to.medium))
    (so_far_all c.args.to.slots c.loop-i.i placed (omega (arith, long, c.loop-i-test.false)) (omega (arith, long, c.requires.to_within)))
    (c.loop-i.invariant.copied told placed h empty)
