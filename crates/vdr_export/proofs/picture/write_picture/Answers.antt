use Rattle.std.proofs.Common.{◌∙◌, List, Err, refl, sym, ap, subst, Result, ◌≡◌}
use Rattle.std.specs.Bool.{⊤}
use Rattle.std.proofs.lemmas.Result.{err_from_is_err_and}
use Rattle.vdr_terms.specs.Records.{Record}
use Rattle.vdr_entry.specs.Queries.{asked}
use Rattle.vdr_visit.specs.Visits.{ReadEnd}
use Rattle.vdr_export.specs.Collected.{IsCollected}
use Rattle.vdr_export.specs.Pictures.{shown}
use Rattle.vdr_export.specs.declared.refused.ExportRefused.{ExportRefused}
use Rattle.vdr_export.specs.declared.refused.ExportRefused.TheVariants.{Damaged, Fault, Output}
use Rattle.vdr_export.proofs.Ending.{completed, front_ends, incomplete, missing_sound, missing_undamaged, never_stops, refused_ends, written_ends}
use Rattle.vdr_export.proofs.Refusing.{never_blamed, output_still}
use Rattle.vdr_export.proofs.Ends.{read_end}
use Rattle.vdr_export.proofs.Visited.{blames_output, ended_so, no_picture, no_picture_own}
use Rattle.vdr_export.proofs.picture.write_picture.Goals as goal

pub returns-in-Err-clause-picture : goal.returns-in-Err-clause-picture
returns-in-Err-clause-picture g c =
    let v = c.in-Err.ensures.handed (record c.new-collecting.result { block = c.args.block.now }) (c.new-collecting.ensures.block, c.new-collecting.ensures.nothing) in
    no_picture c.refusal_of.result c.in-Err.stop c.refusal_of.ensures c.args.block.now (λ is. never_blamed c.in-Err.ensures.output (ap (λ s. Err s) is)) v _ _ refl

pub returns-in-Err-clause-own : goal.returns-in-Err-clause-own
returns-in-Err-clause-own g c =
    let v = c.in-Err.ensures.handed (record c.new-collecting.result { block = c.args.block.now }) (c.new-collecting.ensures.block, c.new-collecting.ensures.nothing) in
    no_picture_own c.refusal_of.result c.in-Err.stop c.refusal_of.ensures c.args.block.now (λ is. never_blamed c.in-Err.ensures.output (ap (λ s. Err s) is)) v

pub returns-in-Err-clause-output : goal.returns-in-Err-clause-output
returns-in-Err-clause-output g c =
    let v = c.in-Err.ensures.handed (record c.new-collecting.result { block = c.args.block.now }) (c.new-collecting.ensures.block, c.new-collecting.ensures.nothing) in
    output_still _ _
    (λ is. never_blamed c.in-Err.ensures.output (blames_output c.refusal_of.result c.in-Err.stop c.refusal_of.ensures v _ refl
    (never_stops (shown c.args.block.now v.seen) Output (λ place is. let none : ⊥ = cc in none) (λ is. let none : ⊥ = cc in none)) is))

pub returns-in_err-complete-clause-picture : goal.returns-in_err-complete-clause-picture
returns-in_err-complete-clause-picture g c records told =
    let v = c.in_default.ensures.handed (record c.new-collecting.result { block = c.args.block.now }) (c.new-collecting.ensures.block, c.new-collecting.ensures.nothing) in
    let p = err_from_is_err_and c.from_residual.result c.from_residual.ensures.1 in
    let has = subst (λ (rs : List Record). IsCollected (shown c.args.block.now rs) c.visit.new.visitor.parts) (v.are records told) v.made.0.1 in
    refused_ends _ (g.O.Sink.taken c.args.out.now) c.from_residual.result c.in_err-complete.field-0.0
    (incomplete _ (shown c.args.block.now records) has c.in_err-complete.field-0.0 (sym c.complete.ensures ∙ c.in_err-complete.was))
    (p.1 ∙ ap (λ (e : ExportRefused). Err e) p.2)

pub returns-in-Ok-clause-picture : goal.returns-in-Ok-clause-picture
returns-in-Ok-clause-picture g c records told =
    let v = c.in_default.ensures.handed (record c.new-collecting.result { block = c.args.block.now }) (c.new-collecting.ensures.block, c.new-collecting.ensures.nothing) in
    let has = subst (λ (rs : List Record). IsCollected (shown c.args.block.now rs) c.visit.new.visitor.parts) (v.are records told) v.made.0.1 in
    written_ends _ _ _ _ (completed _ (shown c.args.block.now records) has (sym c.complete.ensures ∙ c.in_ok-complete.was)) c.in-Ok.ensures.all

pub returns-clause-picture : goal.returns-clause-picture
returns-clause-picture g c records told =
    let v = c.in_default.ensures.handed (record c.new-collecting.result { block = c.args.block.now }) (c.new-collecting.ensures.block, c.new-collecting.ensures.nothing) in
    let has = subst (λ (rs : List Record). IsCollected (shown c.args.block.now rs) c.visit.new.visitor.parts) (v.are records told) v.made.0.1 in
    front_ends _ _ _ _ (completed _ (shown c.args.block.now records) has (sym c.complete.ensures ∙ c.in_ok-complete.was)) c.write.ensures.front

pub returns-in-Err-clause-leaves : goal.returns-in-Err-clause-leaves
returns-in-Err-clause-leaves g c =
    let v = c.in-Err.ensures.handed (record c.new-collecting.result { block = c.args.block.now }) (c.new-collecting.ensures.block, c.new-collecting.ensures.nothing) in
    let is : ◌≡◌ {A = Result ⊤ ExportRefused} (Err c.refusal_of.result) (Err c.refusal_of.result) = refl in
    subst (λ (e : ReadEnd). g.R.Reader.leaves _ g.M.Media (asked c.args.query.now) c.args.reader.now c.visit.new.self c.args.media.now c.visit.new.media e)
    (ended_so c.refusal_of.result c.in-Err.stop c.refusal_of.ensures v _ is
    (never_stops (shown c.args.block.now v.seen) Fault (λ place is. let none : ⊥ = cc in none) (λ is. let none : ⊥ = cc in none))
    (λ m offset. never_stops (shown c.args.block.now v.seen) (Damaged m offset) (λ place is. let none : ⊥ = cc in none) (λ is. let none : ⊥ = cc in none)))
    c.in-Err.ensures.leaves

pub returns-in_err-complete-clause-leaves : goal.returns-in_err-complete-clause-leaves
returns-in_err-complete-clause-leaves g c =
    let p = err_from_is_err_and c.from_residual.result c.from_residual.ensures.1 in
    read_end (λ (e : ReadEnd). g.R.Reader.leaves _ g.M.Media (asked c.args.query.now) c.args.reader.now c.visit.new.self c.args.media.now c.visit.new.media e)
    c.from_residual.result c.in_default.ensures.leaves (c.law_of_visits.ensures.cut _ _ _ _ _ _ c.in_default.ensures.leaves)
    (λ fault. missing_sound c.visit.new.visitor.parts (sym c.complete.ensures ∙ c.in_err-complete.was ∙ sym (p.1 ∙ ap (λ (e : ExportRefused). Err e) p.2) ∙ fault))
    (λ m offset damage. missing_undamaged c.visit.new.visitor.parts m offset (sym c.complete.ensures ∙ c.in_err-complete.was ∙ sym (p.1 ∙ ap (λ (e : ExportRefused). Err e) p.2) ∙ damage))

pub returns-clause-leaves : goal.returns-clause-leaves
returns-clause-leaves g c = c.law_of_visits.ensures.cut _ _ _ _ _ _ c.in_default.ensures.leaves
