-- Lists that are known or not. Of one that isn't known nothing is said.
use Rattle.std.specs.Prelude.{◌≡◌, List, [], ◌∷◌, ◌++◌, Option, Some, None, ⊤}

-- A known list stays.
abbrev pub Stays : {A : Type 0} → Option (List A) → Option (List A) → Type 0
Stays None new = ⊤
Stays (Some xs) None = ⊥
Stays (Some xs) (Some ys) = ys ≡ xs

-- A known list gets one more, at its end.
abbrev pub Gains : {A : Type 0} → Option (List A) → Option (List A) → A → Type 0
Gains None new x = ⊤
Gains (Some xs) None x = ⊥
Gains (Some xs) (Some ys) x = ys ≡ xs ++ x ∷ []

-- A known list loses its first.
abbrev pub Loses : {A : Type 0} → Option (List A) → Option (List A) → A → Type 0
Loses None new x = ⊤
Loses (Some xs) None x = ⊥
Loses (Some xs) (Some ys) x = xs ≡ x ∷ ys

abbrev pub NoneLeft : {A : Type 0} → Option (List A) → Type 0
NoneLeft None = ⊤
NoneLeft (Some xs) = xs ≡ []
