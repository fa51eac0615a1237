use Rattle.std.proofs.Common.{rules, ◌≡◌, arith}
use Rattle.std.specs.Prelude.{nat_le, true, false}
use Rattle.vdr_rescue.proofs.AboveLemmas.{above_none, above_on, above_step}
use Rattle.vdr_rescue.proofs.given.next_above.Goals as goal

pub returns-then-item-floor-clause-next : goal.returns-then-item-floor-clause-next
returns-then-item-floor-clause-next c =
    let n = c.in-Some.ensures.next in
    let here : nat_le c.args.floor c.next_given.new.item.place ≡ true = search rules in (
      n.0,
      omega (arith, n.1, c.loop-next.invariant.onward),
      λ records.
          let same = c.loop-next.invariant.same records in
          let more = above_step c.args.segment.now c.loop-next.at c.in-Some.next c.args.floor c.next_given.new.item n.2 here records in
          (λ g. more.0 (same.0 g), λ x. same.1 (more.1 x)),
    )

pub loop-next-preserved : goal.loop-next-preserved
loop-next-preserved c =
    let n = c.in-Some.ensures.next in
    let here : nat_le c.args.floor c.next_given.new.item.place ≡ false = search rules in
    record {
      stands = n.0;
      onward = omega (arith, n.1, c.loop-next.invariant.onward);
      same = λ records.
          let same = c.loop-next.invariant.same records in
          let more = above_on c.args.segment.now c.loop-next.at c.in-Some.next c.args.floor c.next_given.new.item n.2 here records in
          (λ g. more.0 (same.0 g), λ x. same.1 (more.1 x));
    }

pub returns-clause-none : goal.returns-clause-none
returns-clause-none c records =
    let same = c.loop-next.invariant.same records in
    let none = above_none c.args.segment.now c.loop-next.at c.args.floor c.in_default.ensures.none records in
    (λ g. none.0 (same.0 g), λ x. same.1 (none.1 x))
