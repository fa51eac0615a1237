use Rattle.std.proofs.Common.{inl, inr, ⊎_elim}
use Rattle.std.specs.Io.KnownBytes.{Appends}
use Rattle.vdr_tool.proofs.Completeness.{checks_all, is_configuration}
use Rattle.vdr_tool.proofs.checking.answer_check.Goals as goal

pub returns-clause-owed : goal.returns-clause-owed
returns-clause-owed g c =
    let told = c.print_needs.ensures in
    record {
      own = told.statuses;
      done = told.done;
      config = told.config;
      input = told.input;
      output = told.output;
      silent = ⊎_elim (λ done. inl done) (λ rest. inr (⊎_elim (λ own. inl own) (λ same. inr (λ i. record { taken = g.O.Sink.taken (same i); faults = g.O.Sink.faults (same i) })) rest)) told.silent;
      complete = λ none. checks_all _ _ _ _ told.statuses (λ is. none.input (told.input is)) (λ is. none.output (told.output is).0)
          (λ is. is_configuration _ (Appends (g.O.Sink.taken c.args.world.now.output) (g.O.Sink.taken c.print_needs.new.output)) (told.done is).1) told.config;
    }
