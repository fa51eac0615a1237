-- Names without what stands at their end.
use Rattle.std.proofs.Common.{◌≡◌, ◌∙◌, ◌++◌, ◌+◌, ◌<◌, ◌==◌, ℕ, get_or, Bool, true, false, List, [], ◌∷◌, length, take, refl, sym, ap, arith, if◌then◌else◌}
use Rattle.std.specs.List.{position_or_len}
use Rattle.std.proofs.lemmas.Bool.{ne_eqb}
use Rattle.std.proofs.lemmas.List.{length-append, length-take-le, take_more}
use Rattle.vdr_ais.specs.Reports.{before_spaces, trimmed}

not_empty : (xs : List ℕ) (c : ℕ) (x : ℕ) → before_spaces x (xs ++ c ∷ []) ≡ x ∷ (xs ++ c ∷ [])
not_empty [] c x = refl
not_empty (y ∷ xs) c x = refl

pub trimmed_more : (xs : List ℕ) (c : ℕ) → trimmed (xs ++ c ∷ []) ≡ (if c == 32 then trimmed xs else xs ++ c ∷ [])
trimmed_more [] c = refl
trimmed_more (x ∷ xs) c = ap (before_spaces x) (trimmed_more xs c) ∙ go (c == 32)
  where
    go : (t : Bool) → before_spaces x (if t then trimmed xs else xs ++ c ∷ []) ≡ (if t then trimmed (x ∷ xs) else x ∷ (xs ++ c ∷ []))
    go true = refl
    go false = not_empty xs c x

pub length_more : (xs : List ℕ) (c : ℕ) → length (trimmed (xs ++ c ∷ [])) ≡ (if c == 32 then length (trimmed xs) else length (xs ++ c ∷ []))
length_more xs c = ap length (trimmed_more xs c) ∙ go (c == 32)
  where
    go : (t : Bool) → length (if t then trimmed xs else xs ++ c ∷ []) ≡ (if t then length (trimmed xs) else length (xs ++ c ∷ []))
    go true = refl
    go false = refl

taken : (xs : List ℕ) (i : ℕ) → i < length xs → length (trimmed (take (i + 1) xs)) ≡ (if get_or xs i 0 == 32 then length (trimmed (take i xs)) else length (take i xs ++ get_or xs i 0 ∷ []))
taken xs i lt = ap (λ ys. length (trimmed ys)) (take_more xs i 0 lt) ∙ length_more (take i xs) (get_or xs i 0)

-- A letter that is no space, and one that is.
pub end_other : (xs : List ℕ) (i : ℕ) → i < length xs → (get_or xs i 0 ≡ 32 → ⊥) → i + 1 ≡ length (trimmed (take (i + 1) xs))
end_other xs i lt other =
    sym (taken xs i lt ∙ ap (λ t. if t then length (trimmed (take i xs)) else length (take i xs ++ get_or xs i 0 ∷ [])) (ne_eqb (get_or xs i 0) 32 other)
    ∙ length-append (take i xs) (get_or xs i 0 ∷ []) ∙ ap (λ n. n + 1) (length-take-le i xs (omega (arith, lt))))

pub end_space : (xs : List ℕ) (i : ℕ) → i < length xs → get_or xs i 0 ≡ 32 → length (trimmed (take i xs)) ≡ length (trimmed (take (i + 1) xs))
end_space xs i lt space = sym (taken xs i lt ∙ ap (λ c. if c == 32 then length (trimmed (take i xs)) else length (take i xs ++ get_or xs i 0 ∷ [])) space)

pub take_trimmed : (xs : List ℕ) → take (length (trimmed xs)) xs ≡ trimmed xs
take_trimmed [] = refl
take_trimmed (x ∷ xs) = go (trimmed xs) (take_trimmed xs)
  where
    last : (t : Bool) → take (length (if t then [] else x ∷ [])) (x ∷ xs) ≡ (if t then [] else x ∷ [])
    last true = refl
    last false = refl

    go : (ys : List ℕ) → take (length ys) xs ≡ ys → take (length (before_spaces x ys)) (x ∷ xs) ≡ before_spaces x ys
    go [] e = last (x == 32)
    go (y ∷ ys) e = ap (λ zs. x ∷ zs) e

-- The name among its letters.
pub cut_twice : (all seen cut again name : List ℕ) (end last : ℕ) → seen ≡ all → end ≡ position_or_len (λ c. c == 64) seen → cut ≡ take end all → again ≡ cut → last ≡ length (trimmed again)
    → name ≡ take last cut → name ≡ trimmed (take (position_or_len (λ c. c == 64) all) all)
cut_twice all seen cut again name end last s e c a l n =
    n ∙ ap (λ k. take k cut) (l ∙ ap (λ xs. length (trimmed xs)) a) ∙ take_trimmed cut ∙ ap trimmed (c ∙ ap (λ k. take k all) (e ∙ ap (position_or_len (λ c. c == 64)) s))
