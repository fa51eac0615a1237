use Rattle.std.proofs.Common.{ap, ◌∙◌, arith}
use Rattle.std.proofs.lemmas.Result.{on_ok_weaker}
use Rattle.vdr_terms.specs.Counting.{Tally}
use Rattle.vdr_terms.specs.Records.{total}
use Rattle.vdr_review.specs.Review.{review_start}
use Rattle.vdr_review.proofs.Walking.{number_fits, passes, takes}
use Rattle.vdr_review.proofs.walk.Walk.add.Goals as goal

pub take-requires-in-Some-clause-number : goal.take-requires-in-Some-clause-number
take-requires-in-Some-clause-number c =
    let t = c.requires.told.2 in
    let fits = number_fits c.requires.told.0 c.args.self.now c.requires.told.1 c.args.item.now.group t c.requires.told.3 c.requires.legal.group
    (c.law_of_item.ensures.numbers (review_start c.requires.told.0) c.requires.told.1 c.args.item.now.group) in
    let missed = ap total (c.in-Some.ensures.missed ∙ ap (λ (t : Tally). t.missed) (t.counts.each c.args.item.now.group c.requires.legal.group)) in
    omega (arith, fits, missed)

pub returns-in-Some : goal.returns-in-Some
returns-in-Some c = on_ok_weaker c.take-in-Some.result
    (λ h limit feed x t holds. takes limit feed x c.args.self.now c.args.item.now t holds c.requires.legal.group c.take.new.self c.take-in-Some.new.self (c.in-Some.number, c.in-Some.missed)
    (c.take.ensures.counts feed x t.counts holds) (c.in-Some.ensures.taken feed x t.counts holds) h)
    c.take-in-Some.ensures

pub returns-in-None : goal.returns-in-None
returns-in-None c limit feed x t holds = passes limit feed x c.args.self.now c.args.item.now t holds c.requires.legal.group c.take.new.self
    (c.take.ensures.counts feed x t.counts holds) (c.in-None.ensures.taken feed x t.counts holds)
