use Rattle.std.proofs.Common.{◌∙◌, List, ℕ, Err, ap, refl, subst}
use Rattle.std.specs.Io.KnownBytes.{Appends}
use Rattle.std.proofs.lemmas.Result.{err_from_is_err_and}
use Rattle.vdr_outside.specs.Writes.{AppendsFront}
use Rattle.vdr_opening.specs.declared.refused.OpenRefused.{OpenRefused}
use Rattle.vdr_readout.proofs.InformLemmas.{done_informs, failed_informs, memory_informs, refused_informs}
use Rattle.vdr_readout.proofs.informing.answer_info.Goals as goal

pub returns-in_err-info-clause-owed : goal.returns-in_err-info-clause-owed
returns-in_err-info-clause-owed g c =
    let told = c.read_info.ensures in
    let law = c.law_of_openings.ensures (g.M.Media.disk c.args.world.now.media).reads in
    let was = c.in_err-info.was in
    let p = err_from_is_err_and c.from_residual.result c.from_residual.ensures.1 in
    rw (p.1, p.2)
    (refused_informs _ _ law (λ x holds un. c.law_of_parts.ensures.formatted _ x holds un) (record { leaves = told.moments; reads = told.reads }) c.in_err-info.field-0.0 refl
    (λ is. told.unformatted (was ∙ ap (λ (e : OpenRefused). Err e) is)) (λ m offset is. told.damaged m offset (was ∙ ap (λ (e : OpenRefused). Err e) is))
    (λ is. told.cause.in_all (was ∙ ap (λ (e : OpenRefused). Err e) is)))

pub returns-in_default-clause-owed : goal.returns-in_default-clause-owed
returns-in_default-clause-owed g c =
    let told = c.read_info.ensures in
    let law = c.law_of_openings.ensures (g.M.Media.disk c.args.world.now.media).reads in
    memory_informs _ _ law (λ x holds un. c.law_of_parts.ensures.formatted _ x holds un) (record { leaves = told.moments; reads = told.reads }) refl

pub returns-in-Ok-write_all-clause-owed : goal.returns-in-Ok-write_all-clause-owed
returns-in-Ok-write_all-clause-owed g c =
    let told = c.read_info.ensures in
    let law = c.law_of_openings.ensures (g.M.Media.disk c.args.world.now.media).reads in
    done_informs _ _ law (λ x holds un. c.law_of_parts.ensures.formatted _ x holds un) (record { leaves = told.moments; reads = told.reads }) c.in_ok-info.info (λ t. c.in_ok-info.ensures.info t)
    (subst (λ (text : List ℕ). Appends (g.O.Sink.taken c.args.world.now.output) (g.O.Sink.taken c.write_all.new.sink) text) (c.deref.ensures.value ∙ c.in-Ok.ensures) c.in-Ok-write_all.ensures.all)

pub returns-clause-owed : goal.returns-clause-owed
returns-clause-owed g c =
    let told = c.read_info.ensures in
    let law = c.law_of_openings.ensures (g.M.Media.disk c.args.world.now.media).reads in
    failed_informs _ _ law (λ x holds un. c.law_of_parts.ensures.formatted _ x holds un) (record { leaves = told.moments; reads = told.reads }) c.in_ok-info.info (λ t. c.in_ok-info.ensures.info t)
    (subst (λ (text : List ℕ). AppendsFront (g.O.Sink.taken c.args.world.now.output) (g.O.Sink.taken c.write_all.new.sink) text) (c.deref.ensures.value ∙ c.in-Ok.ensures) c.write_all.ensures.front) c.in-Err.ensures.cause.failed
