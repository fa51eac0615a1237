use Rattle.std.proofs.Common.{inl, inr, ⊎_elim}
use Rattle.vdr_command.specs.Opened.{AreLooks}
use Rattle.vdr_readout.proofs.ListLemmas.{lists_all}
use Rattle.vdr_readout.proofs.listing.answer_incidents.Goals as goal

pub returns-clause-owed : goal.returns-clause-owed
returns-clause-owed g c =
    let told = c.list.ensures in
    record {
      own = told.statuses;
      printed = told.printed;
      output = told.output;
      silent = ⊎_elim (λ own. inl own) (λ same. inr (λ i. record { taken = g.O.Sink.taken (same i); faults = g.O.Sink.faults (same i) })) told.silent;
      media = told.media;
      missing = told.missing;
      bytes = told.bytes;
      complete = λ none t. lists_all _ _ t (c.law_of_openings.ensures (g.M.Media.disk c.args.world.now.media).reads) AreLooks _ (λ is. none.output (told.output is)) (λ is. none.media (told.media.fault is)) told.statuses told.media;
    }
