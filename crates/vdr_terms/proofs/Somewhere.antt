-- Where of a list some element is so.
use Rattle.std.proofs.Common.{◌≡◌, zero, suc, ◌+◌, ◌⊎◌, inl, inr, List, [], ◌∷◌, ◌++◌, length, refl, sym, ◌∙◌, subst, arith, Any, length-append}
use Rattle.std.proofs.lemmas.List.{get_or_append_left, get_or-append-add}

pub any_cases : {X : Type 0} (P : X → Type 0) (x : X) (xs : List X) → Any P (x ∷ xs) → P x ⊎ Any P xs
any_cases P x xs (zero, y, within, at, h) = inl (subst P (sym at) h)
any_cases P x xs (suc k, y, within, at, h) = inr (k, y, omega (arith, within), at, h)

pub any_here : {X : Type 0} (P : X → Type 0) (x : X) (xs : List X) → P x → Any P (x ∷ xs)
any_here P x xs h = (0, x, omega arith, refl, h)

pub any_there : {X : Type 0} (P : X → Type 0) (x : X) (xs : List X) → Any P xs → Any P (x ∷ xs)
any_there P x xs (k, y, within, at, h) = (suc k, y, omega (arith, within), at, h)

pub any_none : {X : Type 0} (P : X → Type 0) → Any P [] → ⊥
any_none P (k, y, within, at, h) = omega (arith, within)

pub any_left : {X : Type 0} (P : X → Type 0) (xs ys : List X) → Any P xs → Any P (xs ++ ys)
any_left P xs ys h =
    let lt = h.2 in
    (h.0, h.1, omega (arith, lt, length-append xs ys), get_or_append_left xs ys h.1 h.0 h.2 ∙ h.3, h.4)

pub any_right : {X : Type 0} (P : X → Type 0) (xs ys : List X) → Any P ys → Any P (xs ++ ys)
any_right P xs ys h =
    let lt = h.2 in
    (length xs + h.0, h.1, omega (arith, lt, length-append xs ys), get_or-append-add xs ys h.0 h.1 ∙ h.3, h.4)

-- What stands behind the first.
pub same_rest : {X : Type 0} (x y : X) (xs ys : List X) → x ∷ xs ≡ y ∷ ys → xs ≡ ys
same_rest x y xs ys e = cc
