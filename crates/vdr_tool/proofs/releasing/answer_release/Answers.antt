use Rattle.vdr_tool.proofs.SaveCompleteness.{releases_all}
use Rattle.vdr_tool.proofs.releasing.answer_release.Goals as goal

pub returns-clause-owed : goal.returns-clause-owed
returns-clause-owed g c =
    let told = c.release.ensures in
    record {
      own = told.statuses;
      no_incident = told.no_incident;
      silent = λ i. record { taken = g.O.Sink.taken (told.silent i); faults = g.O.Sink.faults (told.silent i) };
      media = told.media;
      missing = told.missing;
      heard = told.heard;
      complete = λ none t. releases_all _ _ t (c.law_of_openings.ensures (g.M.Media.disk c.args.world.now.media).reads) _ c.args.id _ (λ is. none.media (told.media.fault is)) told.statuses told.media told.no_incident;
    }
