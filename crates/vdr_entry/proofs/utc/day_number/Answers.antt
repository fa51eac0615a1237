use Rattle.std.proofs.Common.{◌≡◌, ◌≤◌, ℕ, ℤ, pos, unsigned_abs, Result, Ok, Err, Some, IfOk, FitsSigned, w32, ap, ◌∙◌, sym, subst, arith}
use Rattle.std.proofs.lemmas.Int.{to_z-of_z}
use Rattle.std.proofs.lemmas.Option.{none-some, same_Some}
use Rattle.std.proofs.lemmas.Result.{Ok-from_Ok_iff}
use Rattle.std.specs.Int.{FitsUnsignedBits}
use Rattle.std.specs.Result.{OkIff, result_ok}
use Rattle.jiff_core.proofs.SignedLemmas.{signed_arith}
use Rattle.jiff_core.specs.Calendar.{days_from_civil}
use Rattle.jiff_core.specs.declared.civil.date.Date.{Date}
use Rattle.jiff.specs.Words.{IsYmd, epoch_day}
use Rattle.vdr_entry.proofs.utc.day_number.Goals as goal

value_of : {A E : Type 0} (r : Result A E) (x : A) (P : A → Type 0) → IfOk r P → Some x ≡ result_ok r → P x
value_of (Ok y) x P holds is = subst P (sym (same_Some x y is)) holds
value_of (Err e) x P holds is = absurd (none-some x (sym is))

-- the day number of a date with these fields
same_day : (d : Date) (year month day : ℤ) → IsYmd year month day d → epoch_day d ≡ days_from_civil year (unsigned_abs month) (unsigned_abs day)
same_day d year month day is =
    ap (λ (z : ℤ). days_from_civil z d.month d.day) is.0
    ∙ ap (λ (z : ℤ). days_from_civil year (unsigned_abs z) d.day) is.1
    ∙ ap (λ (z : ℤ). days_from_civil year (unsigned_abs month) (unsigned_abs z)) is.2

tried : {E : Type 0} (r : Result ℕ E) (z : ℤ) (n : ℕ) → OkIff r (FitsUnsignedBits 64 z) (unsigned_abs z) → z ≡ pos n → n ≤ 2_932_896 → result_ok r ≡ Some n
tried r z n is same few =
    let small : FitsUnsignedBits 64 z = subst (FitsUnsignedBits 64) (sym same) (omega (arith, few)) in
    ap result_ok (Ok-from_Ok_iff r _ _ is small) ∙ ap (λ (k : ℤ). Some (unsigned_abs k)) same

pub returns-clause-exact : goal.returns-clause-exact
returns-clause-exact c = λ days date is.
    let bound = c.to_unix_epoch_day.ensures.bound in
    let fits : FitsSigned w32 c.to_unix_epoch_day.result = omega (arith, signed_arith, bound) in
    let made = simp (to_z-of_z, c.ranges.year, c.ranges.month, c.ranges.day) at c.new.ensures.value in
    let number : c.to_unix_epoch_day.result ≡ pos days =
    c.to_unix_epoch_day.ensures.value ∙ ap epoch_day c.to_plain.ensures
    ∙ same_day c.in_ok-date.date _ _ _ (value_of c.new.result c.in_ok-date.date _ made c.in_ok-date.ensures.value) ∙ is in
    c.ok-2.ensures.value ∙ tried c.try_from.result c.to_unix_epoch_day.result days (simp (to_z-of_z, fits) at c.try_from.ensures) number (omega (arith, signed_arith, number, bound))
