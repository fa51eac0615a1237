use Rattle.std.proofs.Common.{◌∙◌, Err, ap, subst}
use Rattle.std.proofs.lemmas.Result.{err_from_is_err_and}
use Rattle.vdr_entry.specs.Queries.{asked}
use Rattle.vdr_visit.specs.Visits.{ReadEnd}
use Rattle.vdr_export.specs.Answers.{file_end}
use Rattle.vdr_export.specs.Sounds.{heard}
use Rattle.vdr_export.specs.declared.refused.ExportRefused.{ExportRefused}
use Rattle.vdr_export.proofs.Ends.{passed_end}
use Rattle.vdr_export.proofs.TwoPasses.{no_wave, the_wave}
use Rattle.vdr_export.proofs.file.export_wave.Goals as goal

pub returns-in_err-size-clause-wave : goal.returns-in_err-size-clause-wave
returns-in_err-size-clause-wave g c records told =
    let p = err_from_is_err_and c.from_residual.result c.from_residual.ensures.1 in
    no_wave c.args.timing (heard c.args.microphone records) (g.O.Sink.taken c.args.out.now) c.wave_size.result c.in_err-size.field-0.0 c.from_residual.result
    (c.wave_size.ensures.size records told) c.in_err-size.was (p.1 ∙ ap (λ (e : ExportRefused). Err e) p.2)

pub returns-in_err-size-clause-leaves : goal.returns-in_err-size-clause-leaves
returns-in_err-size-clause-leaves g c =
    let p = err_from_is_err_and c.from_residual.result c.from_residual.ensures.1 in
    subst (λ (e : ReadEnd). g.R.Reader.leaves _ g.M.Media (asked c.args.query.now) c.args.reader.now c.wave_size.new.reader c.args.media.now c.wave_size.new.media e)
    (passed_end c.wave_size.result c.in_err-size.field-0.0 p.0 c.from_residual.result c.in_err-size.was p.2 p.1) c.wave_size.ensures.leaves

-- What was read changes neither channels nor incidents, so the same may be asked again.
pub write_wave-requires-clause-asked : goal.write_wave-requires-clause-asked
write_wave-requires-clause-asked g c =
    let left = c.wave_size.ensures.leaves in
    record {
      may = c.law_of_visits.ensures.may _ _ _ _ _ _ left;
      channel = c.law_of_visits.ensures.channel _ _ _ _ _ _ left c.args.query.now.channel ∙ c.requires.asked.channel;
      incident = c.law_of_visits.ensures.incident _ _ _ _ _ _ left (asked c.args.query.now).medium ∙ c.requires.asked.incident;
    }

pub returns-clause-wave : goal.returns-clause-wave
returns-clause-wave g c records told =
    let after = c.law_of_visits.ensures.told _ _ _ _ _ _ c.wave_size.ensures.leaves records told in
    the_wave c.args.timing (heard c.args.microphone records) c.in_ok-size.size c.wave_size.result _ _ c.write_wave.result
    (c.wave_size.ensures.size records told) c.in_ok-size.was
    (c.write_wave.ensures.written records after) (c.write_wave.ensures.front records after) (c.write_wave.ensures.undamaged records after)

pub returns-clause-leaves : goal.returns-clause-leaves
returns-clause-leaves g c =
    c.law_of_visits.ensures.joined _ _ _ _ _ _ _ _
    (subst (λ (e : ReadEnd). g.R.Reader.leaves _ g.M.Media (asked c.args.query.now) c.args.reader.now c.wave_size.new.reader c.args.media.now c.wave_size.new.media e)
    (ap file_end c.in_ok-size.was) c.wave_size.ensures.leaves)
    c.write_wave.ensures.leaves
