use Rattle.std.proofs.Common.{List, Err, inl, refl, ap, subst, Result, ◌≡◌}
use Rattle.vdr_export.specs.declared.wave.WaveSize.{WaveSize}
use Rattle.vdr_terms.specs.Records.{Record}
use Rattle.vdr_entry.specs.Queries.{asked}
use Rattle.vdr_visit.specs.Visits.{ReadEnd}
use Rattle.vdr_export.specs.Heard.{IsSized}
use Rattle.vdr_export.specs.Sounds.{heard}
use Rattle.vdr_export.specs.declared.refused.ExportRefused.{ExportRefused}
use Rattle.vdr_export.specs.declared.refused.ExportRefused.TheVariants.{Damaged, Fault}
use Rattle.vdr_export.proofs.Passes.{never_mixed}
use Rattle.vdr_export.proofs.Refusing.{never_blamed}
use Rattle.vdr_export.proofs.Ends.{read_end}
use Rattle.vdr_export.proofs.Visited.{ended_so, no_size, no_size_own}
use Rattle.vdr_export.proofs.waves.wave_size.Goals as goal

pub returns-in-Err-clause-size : goal.returns-in-Err-clause-size
returns-in-Err-clause-size g c =
    let v = c.in-Err.ensures.handed (record c.new-hearing.result { microphone = c.args.microphone; sizing = record c.new-hearing.result.sizing { track = record c.new-hearing.result.sizing.track { timing = c.args.timing } } }) (c.new-hearing.ensures.microphone, c.new-hearing.ensures.nothing) in
    no_size c.refusal_of.result c.in-Err.stop c.refusal_of.ensures c.args.microphone c.args.timing (λ is. never_blamed c.in-Err.ensures.output (ap (λ s. Err s) is)) v _ refl

pub returns-in-Err-clause-own : goal.returns-in-Err-clause-own
returns-in-Err-clause-own g c =
    let v = c.in-Err.ensures.handed (record c.new-hearing.result { microphone = c.args.microphone; sizing = record c.new-hearing.result.sizing { track = record c.new-hearing.result.sizing.track { timing = c.args.timing } } }) (c.new-hearing.ensures.microphone, c.new-hearing.ensures.nothing) in
    no_size_own c.refusal_of.result c.in-Err.stop c.refusal_of.ensures c.args.microphone c.args.timing (λ is. never_blamed c.in-Err.ensures.output (ap (λ s. Err s) is)) v

pub returns-clause-size : goal.returns-clause-size
returns-clause-size g c records told =
    let v = c.in_default.ensures.handed (record c.new-hearing.result { microphone = c.args.microphone; sizing = record c.new-hearing.result.sizing { track = record c.new-hearing.result.sizing.track { timing = c.args.timing } } }) (c.new-hearing.ensures.microphone, c.new-hearing.ensures.nothing) in
    inl (c.size.ensures.size c.args.timing (heard c.args.microphone records)
    (subst (λ (rs : List Record). IsSized c.args.timing (heard c.args.microphone rs) c.visit.new.visitor.sizing) (v.are records told) v.made.0.1))

pub returns-in-Err-clause-leaves : goal.returns-in-Err-clause-leaves
returns-in-Err-clause-leaves g c =
    let v = c.in-Err.ensures.handed (record c.new-hearing.result { microphone = c.args.microphone; sizing = record c.new-hearing.result.sizing { track = record c.new-hearing.result.sizing.track { timing = c.args.timing } } }) (c.new-hearing.ensures.microphone, c.new-hearing.ensures.nothing) in
    let is : ◌≡◌ {A = Result WaveSize ExportRefused} (Err c.refusal_of.result) (Err c.refusal_of.result) = refl in
    subst (λ (e : ReadEnd). g.R.Reader.leaves _ g.M.Media (asked c.args.query.now) c.args.reader.now c.visit.new.self c.args.media.now c.visit.new.media e)
    (ended_so c.refusal_of.result c.in-Err.stop c.refusal_of.ensures v _ is
    (never_mixed (heard c.args.microphone v.seen) Fault (λ place is. let none : ⊥ = cc in none))
    (λ m offset. never_mixed (heard c.args.microphone v.seen) (Damaged m offset) (λ place is. let none : ⊥ = cc in none)))
    c.in-Err.ensures.leaves

pub returns-clause-leaves : goal.returns-clause-leaves
returns-clause-leaves g c =
    read_end (λ (e : ReadEnd). g.R.Reader.leaves _ g.M.Media (asked c.args.query.now) c.args.reader.now c.visit.new.self c.args.media.now c.visit.new.media e)
    c.size.result c.in_default.ensures.leaves (c.law_of_visits.ensures.cut _ _ _ _ _ _ c.in_default.ensures.leaves) c.size.ensures.fault c.size.ensures.undamaged
