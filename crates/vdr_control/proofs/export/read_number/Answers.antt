use Rattle.std.proofs.Common.{◌≡◌, ℕ, List, length, get_or, true≢false, eq-eqb, eqb-true, ap, ◌∙◌, sym, arith}
use Rattle.std.proofs.lemmas.Bool.{ltb-true}
use Rattle.std.proofs.lemmas.Option.{none-some, same_Some}
use Rattle.vdr_bytes.specs.Digits.{number}
use Rattle.vdr_control.proofs.IdLemmas.{if_none}
use Rattle.vdr_control.proofs.NumberLemmas.{number_begins, number_read, few, number_spelled}
use Rattle.vdr_control.proofs.export.read_number.Goals.{then-digits-gt1, else-digits-gt1, then-begins_so-via-then-begins_so, then-begins_so-via-else-begins_so+then-number-from}
use Rattle.vdr_control.proofs.export.read_number.Goals as goal

pub returns-in_err-number-clause-none : goal.returns-in_err-number-clause-none
returns-in_err-number-clause-none c = if_none c.from_residual.result (λ n small is. none-some n (sym c.in_err-number.was ∙ c.number.ensures.number ∙ ap (number 10) is ∙ number_read n small))

pub returns-then-begins_so-clause-none : goal.returns-then-begins_so-clause-none
returns-then-begins_so-clause-none c = λ n small is. elim c.then-begins_so.branch [
  | then-begins_so-via-then-begins_so v ↦ elim c.if-digits-gt1.branch [
    | then-digits-gt1 w ↦
        let first : get_or c.args.digits.now 0 0 ≡ 48 = eqb-true _ _ (sym w.begins_so-is ∙ v.if-begins_so.true) in
        absurd (number_begins n small (omega (arith, w.if-digits-gt1.true, ap length is)) (ap (λ (ds : List ℕ). get_or ds 0 0) (sym is) ∙ first))
    | else-digits-gt1 w ↦
        let bad : ⊥ = omega (arith, w.if-digits-gt1.false, ltb-true 1 (length c.args.digits.now) (sym w.begins_so-is ∙ v.if-begins_so.true)) in absurd bad
  ]
  | then-begins_so-via-else-begins_so+then-number-from w ↦
      let same = same_Some _ _ (sym c.in_ok-number.was ∙ c.number.ensures.number ∙ ap (number 10) is ∙ number_read n small) in
      let bad : ⊥ = omega (arith, same, small, w.if-number-from.true, w.from.ensures) in absurd bad
]

pub returns-clause-found : goal.returns-clause-found
returns-clause-found c = number_spelled c.args.digits.now c.in_ok-number.number c.in_ok-number.ensures.below c.in_ok-number.ensures.number (λ lead. elim c.if-digits-gt1.branch [
  | then-digits-gt1 w ↦ absurd (true≢false (sym (eq-eqb _ _ lead) ∙ sym w.begins_so-is ∙ c.if-begins_so.false))
  | else-digits-gt1 w ↦ few c.args.digits.now c.in_ok-number.number c.in_ok-number.ensures.number w.if-digits-gt1.false
])
