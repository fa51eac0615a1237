use Rattle.std.proofs.Common.{inl, inr, ⊎_elim}
use Rattle.vdr_tool.proofs.FormatLemmas.{formats_known}
use Rattle.vdr_tool.proofs.formatting.answer_format.Goals as goal

pub returns-clause-owed : goal.returns-clause-owed
returns-clause-owed g c =
    let told = c.format_media.ensures in
    record {
      done = told.done;
      config = told.config;
      input = told.input;
      silent = ⊎_elim (λ own. inl own) (λ same. inr (λ i. record { taken = g.O.Sink.taken (same i); faults = g.O.Sink.faults (same i) })) told.silent;
      media = told.media;
      complete = λ none. formats_known c.args.again _ _ _ _ _ _ (λ is. none.input (told.input is)) (λ is. none.media (told.media.fault is)) told.media told.config;
    }
