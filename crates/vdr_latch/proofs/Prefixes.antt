-- Beginnings of one list.
use Rattle.std.proofs.Common.{◌≡◌, List, [], ◌∷◌, ◌++◌, refl, ap, sym, ◌∙◌, append_assoc}
use mathlib.Core.List.{IsPrefix}

module _ {A : Type 0} where
  pub prefix_self : (xs : List A) → IsPrefix xs xs
  prefix_self [] = ([], refl)
  prefix_self (x ∷ xs) = let r = prefix_self xs in (r.0, ap (λ ys. x ∷ ys) r.1)

  pub prefix_more : (xs ys zs : List A) → IsPrefix xs ys → IsPrefix xs (ys ++ zs)
  prefix_more xs ys zs p = (p.0 ++ zs, sym (append_assoc xs p.0 zs) ∙ ap (λ w. w ++ zs) p.1)

  pub prefix_none : (xs : List A) → IsPrefix xs [] → xs ≡ []
  prefix_none [] p = refl
  prefix_none (x ∷ xs) p = absurd (cc (p.1))
