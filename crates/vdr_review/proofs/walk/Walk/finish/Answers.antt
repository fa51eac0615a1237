use Rattle.std.proofs.Common.{◌++◌, ℕ, List, ap, ◌∙◌, arith}
use Rattle.vdr_terms.specs.Counting.{Tally}
use Rattle.vdr_terms.specs.Records.{Record, second, total}
use Rattle.vdr_run.proofs.Given.{rests}
use Rattle.vdr_review.specs.Review.{review_start, shown_records}
use Rattle.vdr_review.specs.Walks.{kept_of}
use Rattle.vdr_review.proofs.Finishing.{finished}
use Rattle.vdr_review.proofs.Walking.{number_fits}
use Rattle.vdr_review.proofs.walk.Walk.finish.Goals as goal

pub close-requires-clause-numbers : goal.close-requires-clause-numbers
close-requires-clause-numbers c g low =
    let t = c.requires.told.2 in
    let fits = number_fits c.requires.told.0 c.args.self c.requires.told.1 g t c.requires.told.3 low (c.law_of_item.ensures.numbers (review_start c.requires.told.0) c.requires.told.1 g) in
    let missed = ap total (c.rest.ensures.each g low ∙ ap (λ (t : Tally). t.missed) (t.counts.each g low)) in
    omega (arith, fits, missed)

pub returns : goal.returns
returns c limit feed t =
    ap (λ (tick : ℕ). shown_records (second tick) c.keep.new.self) c.tick-last.ensures.tick
    ∙ finished limit feed c.args.self c.rest.result c.close.new.self.records.items c.keep.new.self t (c.law_of_feed.ensures.run (review_start limit))
    (rests feed c.args.self.ports c.rest.result t.counts t.low c.rest.ensures.sixteen c.rest.ensures.each)
    (c.close.ensures.records (review_start limit) _ t.makes)
    (c.in_ok-keep.ensures ∙ ap (λ (xs : List Record). c.args.self.window ++ kept_of xs) c.records.ensures)
