use Rattle.std.proofs.Common.{◌∷◌, ◌++◌, [], inl, inr, ⊎_elim, Result, sym, subst}
use Rattle.std.specs.Bool.{⊤}
use Rattle.std.specs.Prelude.{IfErr}
use Rattle.std.proofs.lemmas.Result.{err_from_is_err_and}
use Rattle.vdr_export.specs.Collected.{StopsAt}
use Rattle.vdr_export.specs.Kept.{shown_as}
use Rattle.vdr_export.specs.declared.refused.ExportRefused.{ExportRefused}
use Rattle.vdr_export.proofs.Parting.{met, met_other, on_ok}
use Rattle.vdr_export.proofs.parts.Parts.meet.Goals as goal

pub returns-in_err-make_room-clause-stops : goal.returns-in_err-make_room-clause-stops
returns-in_err-make_room-clause-stops c ps h =
    let p = err_from_is_err_and c.from_residual.result c.from_residual.ensures.1 in
    let shown = shown_as c.args.place c.args.header.now in
    subst (λ (o : Result ⊤ ExportRefused). IfErr o (StopsAt (ps ++ shown ∷ []))) (sym p.1)
    (subst (λ (e : ExportRefused). StopsAt (ps ++ shown ∷ []) e) (sym p.2)
    (⊎_elim (λ memory. inr memory) (λ other. inl (c.args.place, other.0, met_other shown ps c.args.self.now h other.1 other.2)) c.in_err-make_room.ensures.refused))

pub returns-clause-collected : goal.returns-clause-collected
returns-clause-collected c ps h =
    let room = c.in_ok-make_room.ensures.room in
    let legal = c.args.header.now.legal in
    on_ok c.put.result
    (λ put. met (shown_as c.args.place c.args.header.now) legal.first legal.last c.make_room.new.self c.put.new.self ps c.args.self.now h room.0 room.1 put)
    c.put.ensures.put
