-- Items of a run, one after another, and since when it goes.
use Rattle.std.proofs.Common.{◌≡◌, ◌<◌, ◌++◌, ◌∷◌, ◌∙◌, ◌+◌, ℕ, ℤ, List, [], length, get_or, take, Option, None, Some, sym, ap, refl, append_assoc}
use Rattle.std.specs.Prelude.{IfSome}
use Rattle.std.proofs.lemmas.List.{take_more}
use Rattle.vdr_terms.specs.Stamps.{IsStamp}
use Rattle.vdr_core.specs.Taken.{Captured}
use Rattle.vdr_health.specs.Since.{IsSince}

pub items_more : (front xs : List Captured) (i : ℕ) (c : Captured) → i < length xs → c ≡ get_or xs i c → (front ++ take i xs) ++ c ∷ [] ≡ front ++ take (i + 1) xs
items_more front xs i c within is =
    append_assoc front (take i xs) (c ∷ []) ∙ ap (λ (x : Captured). front ++ (take i xs ++ x ∷ [])) is ∙ ap (λ (ys : List Captured). front ++ ys) (sym (take_more xs i c within))

pub stamped : (since : Option ℤ) → IsSince since → IfSome since IsStamp
stamped None is = tt
stamped (Some utc) is = let s = is utc refl in record { whole = s.0; in_time = s.1 }
