use Rattle.std.proofs.Common.{◌≡◌, Some, refl, subst, arith, Option}
use Rattle.std.specs.Prelude.{option_map}
use Rattle.vdr_command.specs.declared.status.Status.{Status}
use Rattle.vdr_command.specs.declared.status.Status.TheVariants.{Done}
use Rattle.vdr_readout.specs.Readings.{plain_reading}
use Rattle.vdr_readout.specs.declared.answering.Reading.{Reading as Told}
use Rattle.vdr_from.specs.Readings.{OwesFrom}
use Rattle.vdr_from.proofs.OwedLemmas.{done_so, none_so, runs_so}
use Rattle.vdr_from.proofs.running.read_from.Goals as goal

pub returns-in_default-clause-runs : goal.returns-in_default-clause-runs
returns-in_default-clause-runs g c =
    none_so c.args.words.now _ _ _ (λ other s. subst (λ (o : Option Told). option_map plain_reading o ≡ Some other) c.in_default.is (c.reading_from.ensures.found other s)) c.report.ensures.line

pub returns-in_default-answer_from-clause-runs : goal.returns-in_default-answer_from-clause-runs
returns-in_default-answer_from-clause-runs g c =
    runs_so c.args.words.now _ _ (record { taken = g.O.Sink.taken c.answer_from.new.out; faults = g.O.Sink.faults c.answer_from.new.out }) _ Done (plain_reading c.in-Some.reading) c.in-Some.ensures.only
    (λ other s. subst (λ (o : Option Told). option_map plain_reading o ≡ Some other) c.in-Some.is (c.reading_from.ensures.found other s))
    (subst (λ (status : Status). OwesFrom (plain_reading c.in-Some.reading) (g.F.StoredFile.whole c.args.file.now) (record { taken = g.O.Sink.taken c.args.out.now; faults = g.O.Sink.faults c.args.out.now })
    (record { taken = g.O.Sink.taken c.answer_from.new.out; faults = g.O.Sink.faults c.answer_from.new.out }) status) (done_so c.answer_from.result c.in_default-answer_from.not-Err) c.answer_from.ensures.owed)
    refl c.answer_from.ensures.later (omega (arith))

pub returns-clause-runs : goal.returns-clause-runs
returns-clause-runs g c =
    runs_so c.args.words.now _ _ (record { taken = g.O.Sink.taken c.answer_from.new.out; faults = g.O.Sink.faults c.answer_from.new.out }) _ c.in-Err.status (plain_reading c.in-Some.reading) c.in-Some.ensures.only
    (λ other s. subst (λ (o : Option Told). option_map plain_reading o ≡ Some other) c.in-Some.is (c.reading_from.ensures.found other s))
    c.in-Err.ensures.owed c.report-2.ensures.line c.answer_from.ensures.later c.report-2.ensures.later
