use Rattle.std.proofs.Common.{inl, inr, ℕ, List, get_or, ap, ◌∙◌, sym, arith}
use Rattle.std.proofs.lemmas.Option.{none-some, same_Some}
use Rattle.vdr_bytes.specs.Digits.{number}
use Rattle.vdr_control.proofs.IdLemmas.{id_begins, id_read, id_spelled, if_none}
use Rattle.vdr_control.proofs.play.read_id.Goals as goal

pub returns-in_err-id-clause-none : goal.returns-in_err-id-clause-none
returns-in_err-id-clause-none c = if_none c.from_residual.result (λ id some few is.
    none-some id (sym c.in_err-id.was ∙ c.number.ensures.number ∙ ap (number 2) is ∙ id_read id few))

pub returns-then-digits-eq48-clause-none : goal.returns-then-digits-eq48-clause-none
returns-then-digits-eq48-clause-none c = λ id some few is. elim c.then-digits-eq48.either [
  | inl zero ↦
      let bad : ⊥ = omega (arith, zero, ap (λ (ds : List ℕ). get_or ds 0 0) is, id_begins id some few) in absurd bad
  | inr more ↦
      let same = same_Some _ _ (sym c.in_ok-id.was ∙ c.number.ensures.number ∙ ap (number 2) is ∙ id_read id few) in
      let bad : ⊥ = omega (arith, same, few, more.1) in absurd bad
]

pub returns-clause-found : goal.returns-clause-found
returns-clause-found c =
    let spelled = id_spelled c.args.digits.now c.in_ok-id.id c.in_ok-id.ensures.below c.in_ok-id.ensures.number c.if-digits-eq48.false in
    (spelled.some, c.if-id-gt-LAST_ID.false, spelled.spelled)
