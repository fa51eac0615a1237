-- How long the name of a group is, and that no other number has one.
use Rattle.std.proofs.Common.{◌≡◌, ◌≤◌, ◌<◌, ◌∙◌, ℕ, Bool, true, false, List, [], ◌∷◌, length, refl, sym, arith}
use Rattle.std.specs.Prelude.{◌==◌, if◌then◌else◌, ⊤}
use Rattle.std.proofs.lemmas.Bool.{ne_eqb}
use Rattle.vdr_terms.specs.Groups.{group_name, group_table, named}

abbrev AreShort : List (List ℕ × ℕ) → Type 0
AreShort [] = ⊤
AreShort (row ∷ rows) = (length row.0 ≤ 4) × AreShort rows

short_if : (b : Bool) (xs ys : List ℕ) → length xs ≤ 4 → length ys ≤ 4 → length (if b then xs else ys) ≤ 4
short_if true xs ys p q = p
short_if false xs ys p q = q

named_short : (g : ℕ) (rows : List (List ℕ × ℕ)) → AreShort rows → length (named g rows) ≤ 4
named_short g [] short = omega arith
named_short g (row ∷ rows) short = short_if (g == row.1) row.0 (named g rows) short.0 (named_short g rows short.1)

-- A group's name has four letters at most.
pub name_short : (g : ℕ) → length (group_name g) ≤ 4
name_short g =
    let four : 4 ≤ 4 = omega arith in
    named_short g group_table (four, (four, (four, (four, (four, (four, (four, (four, (four, (four, (four, (four, (four, (four, (four, (four, tt))))))))))))))))

-- A number from 16 on is that of no group.
abbrev AreBelow : ℕ → List (List ℕ × ℕ) → Type 0
AreBelow n [] = ⊤
AreBelow n (row ∷ rows) = (row.1 < n) × AreBelow n rows

take_else : (b : Bool) (xs ys : List ℕ) → b ≡ false → (if b then xs else ys) ≡ ys
take_else true xs ys is = let none : ⊥ = cc in absurd none
take_else false xs ys is = refl

named_beyond : (g n : ℕ) (rows : List (List ℕ × ℕ)) → n ≤ g → AreBelow n rows → named g rows ≡ []
named_beyond g n [] high low = refl
named_beyond g n (row ∷ rows) high low =
    let below = low.0 in
    take_else (g == row.1) row.0 (named g rows) (ne_eqb g row.1 (λ same. omega (arith, same, below, high))) ∙ named_beyond g n rows high low.1

pub name_beyond : (g : ℕ) → 16 ≤ g → [] ≡ group_name g
name_beyond g high =
    sym (named_beyond g 16 group_table high (omega arith, (omega arith, (omega arith, (omega arith, (omega arith, (omega arith, (omega arith, (omega arith, (omega arith, (omega arith, (omega arith, (omega arith, (omega arith, (omega arith, (omega arith, (omega arith, tt)))))))))))))))))
