-- The id of an incident in decimal digits.
use Rattle.std.proofs.Common.{rules, ◌≡◌, ◌≢◌, ◌≤◌, ◌<◌, ◌+◌, ◌-◌, ◌*◌, inl, inr, ℕ, true, List, length, get_or, Option, IfNone, None, Some, decimal, ap, ◌∙◌, sym, arith}
use Rattle.std.specs.List.{fold, list_all}
use Rattle.std.proofs.lemmas.Bool.{and_from, and_parts, cond-true, le-leb, leb-true}
use Rattle.std.proofs.lemmas.Bool.Decides.{leb_tells}
use Rattle.std.proofs.lemmas.Fmt.{decimal-digits_value, decimal_digit, decimal_nonempty, digits_decimal, digits_value-decimal, first_decimal, length-decimal-le}
use Rattle.std.proofs.lemmas.Option.{cond_some}
use Rattle.std.proofs.lemmas.Str.Parse.{IsNumeralModel, numerals_by_fold}
use Rattle.vdr_bytes.specs.Digits.{are_digits, decimal_value, is_digit, number}

pub own : IsNumeralModel (λ ds. list_all is_digit ds ≡ true) decimal_value
own = numerals_by_fold _ (search rules) (λ n ds. fold (λ k b. 10 * k + (b - 48)) n ds) (search rules)

pub if_none : {A : Type 0} {P : Type 0} (o : Option A) → P → IfNone o P
if_none None p = p
if_none (Some x) p = tt

-- An id's digits read as the id, and don't begin with 0.

pub id_read : (id : ℕ) → id ≤ 32 → number 2 (decimal id) ≡ Some id
id_read id few =
    let digits : are_digits 2 (decimal id) ≡ true =
    and_from _ _ (and_from _ _ (le-leb 1 _ (omega (arith, decimal_nonempty id (omega (arith, few))))) (le-leb _ 2 (length-decimal-le 2 id (omega arith) (omega (arith, few)) (omega (arith, few)))))
    (digits_decimal own id (omega (arith, few))) in
    cond-true (are_digits 2 (decimal id)) _ _ digits ∙ ap Some (digits_value-decimal own id (omega (arith, few)))

pub id_begins : (id : ℕ) → 1 ≤ id → id ≤ 32 → 48 < get_or (decimal id) 0 0
id_begins id some few = first_decimal id some (omega (arith, few))

-- Digits that don't begin with 0 are those of their number, which isn't 0.

pub record IsId (digits : List ℕ) (id : ℕ) : Type 0 where
  pub some : 1 ≤ id
  pub spelled : digits ≡ decimal id

pub id_spelled : (digits : List ℕ) (id : ℕ) → id < 100 → Some id ≡ number 2 digits → get_or digits 0 0 ≢ 48 → IsId digits id
id_spelled digits id small read begins =
    let parts = cond_some (are_digits 2 digits) (decimal_value digits) id (sym read) in
    let tests = and_parts _ _ parts.0 in
    let sizes = and_parts _ _ tests.0 in
    let long = leb-true 1 (length digits) sizes.0 in
    let same : decimal id ≡ digits = ap decimal (sym parts.1) ∙ decimal-digits_value own digits tests.1 long (λ e. absurd (begins e)) (omega (arith, small, parts.1)) in
    record {
      some = elim (leb_tells 1 id) [
        | inl is ↦ is.1
        | inr not ↦
            let none : id ≡ 0 = omega (arith, not.1) in
            absurd (begins (ap (λ (ds : List ℕ). get_or ds 0 0) (sym same ∙ ap decimal none ∙ decimal_digit 0 (omega arith))))
      ];
      spelled = sym same;
    }
