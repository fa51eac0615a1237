use Rattle.std.proofs.Common.{inl, inr, ⊎_elim}
use Rattle.std.specs.Io.KnownBytes.{Appends}
use Rattle.vdr_review.specs.Review.{limit_asked}
use Rattle.vdr_tool.proofs.Completeness.{completes, is_feed}
use Rattle.vdr_tool.proofs.reviewing.answer_review.Goals as goal

pub returns-clause-owed : goal.returns-clause-owed
returns-clause-owed g c =
    let told = c.print_review.ensures in
    record {
      own = told.statuses;
      done = told.done;
      feed = told.feed;
      input = told.input;
      output = told.output;
      silent = ⊎_elim (λ own. inl own) (λ same. inr (λ i. record { taken = g.O.Sink.taken (same i); faults = g.O.Sink.faults (same i) })) told.silent;
      complete = λ none. completes _ _ told.statuses c.law_of_feeds.ensures.feed c.law_of_feeds.ensures.refusal (λ is. none.input (told.input is)) (λ is. none.output (told.output is).0)
          (λ is. is_feed (limit_asked c.args.rate) _ (Appends (g.O.Sink.taken c.args.world.now.output) (g.O.Sink.taken c.print_review.new.output)) (told.done is).1) told.feed;
    }
