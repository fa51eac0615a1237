use Rattle.std.proofs.Common.{◌∙◌, ℕ, List, subst, refl, ap, Result, Err, ◌≡◌}
use Rattle.std.specs.Bool.{⊤}
use Rattle.std.specs.Io.KnownBytes.{Appends}
use Rattle.vdr_terms.specs.Records.{Record}
use Rattle.vdr_outside.specs.Writes.{AppendsFront}
use Rattle.vdr_entry.specs.Queries.{asked}
use Rattle.vdr_visit.specs.Visits.{ReadEnd}
use Rattle.vdr_export.specs.Sounds.{heard, sound}
use Rattle.vdr_export.specs.Waves.{wave_header}
use Rattle.vdr_export.specs.declared.refused.ExportRefused.{ExportRefused}
use Rattle.vdr_visit.proofs.Printing.{front_of_whole}
use Rattle.vdr_export.proofs.Passes.{wave_front, wave_written, whole_sound}
use Rattle.vdr_export.proofs.Refusing.{output_after, output_as}
use Rattle.vdr_export.proofs.Visited.{blames_output, ended_so, not_written_own, undamaged}
use Rattle.vdr_export.proofs.waves.write_wave.Goals as goal

pub returns-in_default-clause-front : goal.returns-in_default-clause-front
returns-in_default-clause-front g c records told =
    front_of_whole (g.O.Sink.taken c.args.out.now) (g.O.Sink.taken c.write_all.new.sink) (wave_header c.args.size.now) _
    (subst (λ (l : List ℕ). AppendsFront (g.O.Sink.taken c.args.out.now) (g.O.Sink.taken c.write_all.new.sink) l) (c.as_slice.ensures.value ∙ c.header_of.ensures) c.write_all.ensures.front)

pub returns-in-Err-clause-front : goal.returns-in-Err-clause-front
returns-in-Err-clause-front g c records told =
    let v = c.in-Err.ensures.handed (record c.new-writing.result { microphone = c.args.microphone; track = record c.new-writing.result.track { timing = c.args.timing } }) c.new-writing.ensures in
    wave_front c.args.microphone c.args.timing (g.O.Sink.taken c.args.out.now) (g.O.Sink.taken c.write_all.new.sink) (g.O.Sink.taken c.visit_buffered.new.out) (wave_header c.args.size.now)
    (subst (λ (l : List ℕ). Appends (g.O.Sink.taken c.args.out.now) (g.O.Sink.taken c.write_all.new.sink) l) (c.as_slice.ensures.value ∙ c.header_of.ensures) c.in-Ok.ensures.all)
    records (subst (λ (l : List ℕ). AppendsFront (g.O.Sink.taken c.write_all.new.sink) (g.O.Sink.taken c.visit_buffered.new.out) l) (whole_sound c.args.microphone c.args.timing records) (v.front records told))

pub returns-in-Err-clause-undamaged : goal.returns-in-Err-clause-undamaged
returns-in-Err-clause-undamaged g c =
    let v = c.in-Err.ensures.handed (record c.new-writing.result { microphone = c.args.microphone; track = record c.new-writing.result.track { timing = c.args.timing } }) c.new-writing.ensures in
    undamaged c.refusal_of.result c.in-Err.stop c.refusal_of.ensures v _ refl

pub returns-in-Err-clause-own : goal.returns-in-Err-clause-own
returns-in-Err-clause-own g c =
    let v = c.in-Err.ensures.handed (record c.new-writing.result { microphone = c.args.microphone; track = record c.new-writing.result.track { timing = c.args.timing } }) c.new-writing.ensures in
    not_written_own c.refusal_of.result c.in-Err.stop c.refusal_of.ensures v

pub returns-in-Err-clause-output : goal.returns-in-Err-clause-output
returns-in-Err-clause-output g c =
    let v = c.in-Err.ensures.handed (record c.new-writing.result { microphone = c.args.microphone; track = record c.new-writing.result.track { timing = c.args.timing } }) c.new-writing.ensures in
    output_after _ _ _ _ c.write_all.ensures.cause.later
    (output_as _ _ _ _ (blames_output c.refusal_of.result c.in-Err.stop c.refusal_of.ensures v _ refl (λ never. never)) c.in-Err.ensures.output)

pub returns-clause-written : goal.returns-clause-written
returns-clause-written g c records told =
    let v = c.in_default-visit_buffered.ensures.handed (record c.new-writing.result { microphone = c.args.microphone; track = record c.new-writing.result.track { timing = c.args.timing } }) c.new-writing.ensures in
    wave_written c.args.microphone c.args.timing (g.O.Sink.taken c.args.out.now) (g.O.Sink.taken c.write_all.new.sink) (g.O.Sink.taken c.visit_buffered.new.out) (wave_header c.args.size.now)
    (subst (λ (l : List ℕ). Appends (g.O.Sink.taken c.args.out.now) (g.O.Sink.taken c.write_all.new.sink) l) (c.as_slice.ensures.value ∙ c.header_of.ensures) c.in-Ok.ensures.all)
    records (subst (λ (l : List ℕ). Appends (g.O.Sink.taken c.write_all.new.sink) (g.O.Sink.taken c.visit_buffered.new.out) l)
    (whole_sound c.args.microphone c.args.timing v.seen ∙ ap (λ (rs : List Record). sound c.args.timing (heard c.args.microphone rs)) (v.are records told)) v.made.1)

pub returns-clause-front : goal.returns-clause-front
returns-clause-front g c records told =
    let v = c.in_default-visit_buffered.ensures.handed (record c.new-writing.result { microphone = c.args.microphone; track = record c.new-writing.result.track { timing = c.args.timing } }) c.new-writing.ensures in
    wave_front c.args.microphone c.args.timing (g.O.Sink.taken c.args.out.now) (g.O.Sink.taken c.write_all.new.sink) (g.O.Sink.taken c.visit_buffered.new.out) (wave_header c.args.size.now)
    (subst (λ (l : List ℕ). Appends (g.O.Sink.taken c.args.out.now) (g.O.Sink.taken c.write_all.new.sink) l) (c.as_slice.ensures.value ∙ c.header_of.ensures) c.in-Ok.ensures.all)
    records (subst (λ (l : List ℕ). AppendsFront (g.O.Sink.taken c.write_all.new.sink) (g.O.Sink.taken c.visit_buffered.new.out) l) (whole_sound c.args.microphone c.args.timing records) (v.front records told))

pub returns-in_default-clause-leaves : goal.returns-in_default-clause-leaves
returns-in_default-clause-leaves g c = c.law_of_visits.ensures.none _ _ _ c.requires.asked.may

pub returns-in-Err-clause-leaves : goal.returns-in-Err-clause-leaves
returns-in-Err-clause-leaves g c =
    let v = c.in-Err.ensures.handed (record c.new-writing.result { microphone = c.args.microphone; track = record c.new-writing.result.track { timing = c.args.timing } }) c.new-writing.ensures in
    let is : ◌≡◌ {A = Result ⊤ ExportRefused} (Err c.refusal_of.result) (Err c.refusal_of.result) = refl in
    subst (λ (e : ReadEnd). g.R.Reader.leaves _ g.M.Media (asked c.args.query.now) c.args.reader.now c.visit_buffered.new.reader c.args.media.now c.visit_buffered.new.media e)
    (ended_so c.refusal_of.result c.in-Err.stop c.refusal_of.ensures v _ is (λ never. never) (λ m offset never. never))
    c.in-Err.ensures.leaves
