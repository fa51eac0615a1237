use Rattle.std.proofs.Common.{inl, inr, ⊎_elim}
use Rattle.vdr_tool.proofs.SaveCompleteness.{saves_all}
use Rattle.vdr_tool.proofs.saving.answer_save.Goals as goal

pub returns-clause-owed : goal.returns-clause-owed
returns-clause-owed g c =
    let told = c.save.ensures in
    record {
      own = told.statuses;
      printed = told.printed;
      refused = told.refused;
      output = told.output;
      silent = ⊎_elim (λ own. inl own) (λ same. inr (λ i. record { taken = g.O.Sink.taken (same i); faults = g.O.Sink.faults (same i) })) told.silent;
      media = told.media;
      missing = told.missing;
      heard = told.heard;
      complete = λ none t. saves_all _ _ t (c.law_of_openings.ensures (g.M.Media.disk c.args.world.now.media).reads) _ c.args.label.now _ (λ is. none.output (told.output is)) (λ is. none.media (told.media.fault is)) told.statuses told.media told.refused;
    }
