use Rattle.std.proofs.Common.{◌≡◌, ◌<◌, Option, Some, None, IfSome, length, get_or, ◌∙◌, subst, arith}
use Rattle.std.proofs.lemmas.List.{get_or-set_other, length-set}
use Rattle.vdr_intake.specs.Ends.{QueueId, Taking}
use Rattle.vdr_desk.proofs.Lists.{no_default, at_each}
use Rattle.vdr_session.specs.Summing.{KnowsFull, paired}
use Rattle.vdr_session.proofs.summing.intakes_of.Goals as goal

pub loop-group-preserved : goal.loop-group-preserved
loop-group-preserved c =
    let i = c.loop-group.invariant in
    let n = c.loop-group.group in
    let low = c.loop-group-test.true in
    let few : n < length c.loop-group.intakes = omega (arith, i.4, low) in
    let q : c.take-queue.result ≡ get_or c.args.queues n None = c.take-queue.ensures.value ∙ no_default c.loop-group.queues n c.index-queues-group.result None (omega (arith, i.5, low)) ∙ i.2 n (omega arith) in
    let t : c.take-taker.result ≡ get_or c.args.takers n None = c.take-taker.ensures.value ∙ no_default c.loop-group.takers n c.index-takers-group.result None (omega (arith, i.6, low)) ∙ i.3 n (omega arith) in (
      (λ k small. at_each c.loop-group.intakes n c.pair.result few (λ k o. o ≡ paired (get_or c.args.queues k None) (get_or c.args.takers k None)) None (c.pair.ensures.both ∙ (λ j. paired (q j) (t j))) k
          (λ ne. i.0 k (omega (arith, small, ne)))),
      (λ k x small. at_each c.loop-group.intakes n c.pair.result few (λ k o. o ≡ Some x → KnowsFull x.1) None (λ is. knows c.pair.result x is c.pair.ensures.full) k (λ ne. i.1 k x (omega (arith, small, ne)))),
      (λ k high. get_or-set_other c.loop-group.queues n k c.take-queue.new.self None (λ e. omega (arith, e, high)) ∙ i.2 k (omega (arith, high))),
      (λ k high. get_or-set_other c.loop-group.takers n k c.take-taker.new.self None (λ e. omega (arith, e, high)) ∙ i.3 k (omega (arith, high))),
      length-set c.loop-group.intakes n c.pair.result ∙ i.4,
      length-set c.loop-group.queues n c.take-queue.new.self ∙ i.5,
      length-set c.loop-group.takers n c.take-taker.new.self ∙ i.6,
    )
  where
    knows : (o : Option (QueueId × Taking)) (x : QueueId × Taking) → o ≡ Some x → IfSome o (λ i. KnowsFull i.1) → KnowsFull x.1
    knows o x is h = subst (λ (o : Option (QueueId × Taking)). IfSome o (λ i. KnowsFull i.1)) is h
