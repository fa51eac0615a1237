-- Digits without the zeros at their end.
use Rattle.std.proofs.Common.{◌≡◌, ◌≤◌, ◌∙◌, ◌≢◌, ℕ, Bool, true, false, cond, List, [], ◌∷◌, ◌++◌, ◌+◌, ◌-◌, ◌<◌, length, take, get_or, refl, sym, ap, arith, eqb}
use Rattle.std.proofs.lemmas.Bool.{eqb-true}
use Rattle.std.proofs.lemmas.List.{take-append-drop, drop_more, at_drop_all}
use Rattle.vdr_values.specs.Texts.{trimmed, unless_zero}

pub trimmed-zero : (digits : List ℕ) → trimmed (digits ++ 48 ∷ []) ≡ trimmed digits
trimmed-zero [] = refl
trimmed-zero (d ∷ digits) = ap (unless_zero d) (trimmed-zero digits)

unless_zero-last : (d last : ℕ) (digits : List ℕ) → unless_zero d (digits ++ last ∷ []) ≡ d ∷ (digits ++ last ∷ [])
unless_zero-last d last [] = refl
unless_zero-last d last (e ∷ digits) = refl

-- Where the last is no zero they are all shown.
pub trimmed-last : (digits : List ℕ) (last : ℕ) → last ≢ 48 → trimmed (digits ++ last ∷ []) ≡ digits ++ last ∷ []
trimmed-last [] last shown = by_test (eqb last 48) refl
  where
    by_test : (t : Bool) → eqb last 48 ≡ t → cond t [] (last ∷ []) ≡ last ∷ []
    by_test true e = absurd (shown (eqb-true last 48 e))
    by_test false e = refl
trimmed-last (d ∷ digits) last shown = ap (unless_zero d) (trimmed-last digits last shown) ∙ unless_zero-last d last digits

-- A list that is not empty ends with its last.
ended : (digits : List ℕ) (n : ℕ) → n + 1 ≡ length digits → digits ≡ take n digits ++ get_or digits n 0 ∷ []
ended digits n h =
    let inside : n < length digits = omega arith in
    let past : length digits ≤ n + 1 = omega arith in
    sym (take-append-drop n digits)
    ∙ ap (λ xs. take n digits ++ xs) (drop_more digits n 0 inside ∙ ap (λ xs. get_or digits n 0 ∷ xs) (at_drop_all (λ xs. xs) digits (n + 1) past))

pub trimmed-shown : (digits : List ℕ) → 1 ≤ length digits → get_or digits (length digits - 1) 0 ≢ 48 → digits ≡ trimmed digits
trimmed-shown digits some shown =
    let e = ended digits (length digits - 1) (omega (arith, some)) in
    e ∙ sym (trimmed-last (take (length digits - 1) digits) (get_or digits (length digits - 1) 0) shown) ∙ ap trimmed (sym e)

pub trimmed-shorter : (digits : List ℕ) → 1 ≤ length digits → get_or digits (length digits - 1) 0 ≡ 48 → trimmed (take (length digits - 1) digits) ≡ trimmed digits
trimmed-shorter digits some zero =
    let front = take (length digits - 1) digits in
    sym (trimmed-zero front) ∙ ap (λ last. trimmed (front ++ last ∷ [])) (sym zero) ∙ ap trimmed (sym (ended digits (length digits - 1) (omega (arith, some))))

length-unless_zero : (d : ℕ) (digits : List ℕ) → length (unless_zero d digits) ≤ length (d ∷ digits)
length-unless_zero d [] = by_test (eqb d 48)
  where
    by_test : (t : Bool) → length (cond t [] (d ∷ [])) ≤ length (d ∷ [])
    by_test true = omega arith
    by_test false = omega arith
length-unless_zero d (e ∷ digits) = omega arith

pub length-trimmed : (digits : List ℕ) → length (trimmed digits) ≤ length digits
length-trimmed [] = omega arith
length-trimmed (d ∷ digits) = omega (arith, length-unless_zero d (trimmed digits), length-trimmed digits)
