-- A part of a list of batches has no more bytes of a second, and lists that are joined twice.
use mathlib.Core.List.{Sublist, Sublistᴰ}
use mathlib.Core.List.Sublistᴰ
use mathlib.Core.Logic.{∥∥₁_elim}
use Rattle.std.proofs.Math.Bridge.{le_prop}
use Rattle.std.proofs.Common.{ℕ, ◌<◌, ◌≤◌, List, [], ◌∷◌, ◌++◌, length, sum_by, ◌≡◌, ⊎_elim, refl, sym, ap, ◌∙◌, arith}
use Rattle.std.proofs.lemmas.List.Sums.{sum_by-cons, sum_by-append}
use Rattle.vdr_terms.specs.Records.{Record, last}
use Rattle.vdr_durability.specs.Layout.{Batches, batch_size_at, batches_size_at, batches_in}
use Rattle.vdr_durability.proofs.Lists.{last_behind}

part_of : {X : Type 0} (f : X → ℕ) (xs ys : List X) → Sublistᴰ xs ys → sum_by f xs ≤ sum_by f ys
part_of f xs [] d = let a = ap (sum_by f) (Sublistᴰ.eq-nil d) in omega (arith, a)
part_of {X} f xs (y ∷ ys) d =
    let b = sum_by-cons f y ys in
    ⊎_elim
    (λ (s : Sublistᴰ xs ys). let a = part_of f xs ys s in omega (arith, a, b))
    (λ (k : (r : List X) × (xs ≡ y ∷ r) × Sublistᴰ r ys).
    let a = part_of f k.0 ys k.2 in
    let c = ap (sum_by f) k.1 ∙ sum_by-cons f y k.0 in
    omega (arith, a, b, c))
    (Sublistᴰ.cases_cons d)

pub part_has_less : {X : Type 0} (f : X → ℕ) (xs ys : List X) → Sublist xs ys → sum_by f xs ≤ sum_by f ys
part_has_less f xs ys h = ∥∥₁_elim h le_prop (part_of f xs ys)

pub sum_of_all : (s : ℕ) (segments : List Batches) → sum_by (batch_size_at s) (batches_in segments) ≡ sum_by (batches_size_at s) segments
sum_of_all s [] = refl
sum_of_all s (segment ∷ segments) =
    let a = sum_by-append (batch_size_at s) segment (batches_in segments) in
    let b = sum_by-cons (batches_size_at s) segment segments in
    let c = sum_of_all s segments in
    omega (arith, a, b, c)

-- what stands before a list does not change its last element
pub same_last : (xs ys rs : List Record) → 0 < length rs → last (xs ++ rs) ≡ last (ys ++ rs)
same_last xs ys [] some = absurd (omega (arith, some))
same_last xs ys (r ∷ rs) some = last_behind xs r rs ∙ sym (last_behind ys r rs)
