-- What follows of results.
use Rattle.std.proofs.Common.{◌≡◌, Result, Ok, Err, IsOk, OnOk, rules}

-- Two facts make a third.
pub on_ok_both : {T E P Q R : Type 0} (r : Result T E) → (P → Q → R) → OnOk r P → OnOk r Q → OnOk r R
on_ok_both (Ok x) f p q = f p q
on_ok_both (Err e) f p q = tt

-- One error of two results.
pub same_err : {T U E : Type 0} (e f : E) → ◌≡◌ {A = Result T E} (Err e) (Err f) → ◌≡◌ {A = Result U E} (Err e) (Err f)
same_err e f is = cc

-- What holds after Ok, of an answer that is Ok.
pub of_ok : {T E P : Type 0} (r : Result T E) → IsOk r → OnOk r P → P
of_ok (Ok x) is p = p
of_ok (Err e) is p = let none : ⊥ = search rules in absurd none
