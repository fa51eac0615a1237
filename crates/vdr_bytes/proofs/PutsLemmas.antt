-- Several writes in a row.
use Rattle.std.proofs.Common.{◌≡◌, ◌≤◌, ◌<◌, ◌+◌, ◌*◌, ℕ, List, [], ◌∷◌, ◌++◌, length, take, drop, slice_index, refl, ap, ◌∙◌, sym, subst, arith}
use Rattle.std.proofs.lemmas.List.{take-append-le, length-take-le, length-append, append_assoc, append-nil, drop-drop, take-take, take_more, drop_all}
use Rattle.std.proofs.lemmas.Grind.{flat_map-append}
use Rattle.vdr_bytes.specs.Numbers.{Puts, le_u64, le_u64s}
use Rattle.vdr_bytes.proofs.NumberLemmas.{drop-front, take-front, length-le_u64}

-- two writes of which the second begins where the first ends are one
pub puts-more : (a b c : List ℕ) (at next : ℕ) (x y : List ℕ) → Puts a b at x → Puts b c next y → next ≡ at + length x → at + length x ≤ length a → Puts a c at (x ++ y)
puts-more a b c at next x y p q e fits =
    let front_long : length (take at a) ≡ at = length-take-le at a (omega (arith, fits)) in
    let ends : length (take at a ++ x) ≡ next = length-append (take at a) x ∙ omega (arith, front_long, e) in
    let taken : take next b ≡ take at a ++ x = ap (λ (xs : List ℕ). take next xs) p.is ∙ take-front next (take at a ++ x) (drop (at + length x) a) ends in
    let left : drop next b ≡ drop (at + length x) a = ap (λ (xs : List ℕ). drop next xs) p.is ∙ drop-front next (take at a ++ x) (drop (at + length x) a) ends in
    let whole : (at + length x) + length y ≡ at + length (x ++ y) = omega (arith, length-append x y) in
    let tail : drop (next + length y) b ≡ drop (at + length (x ++ y)) a =
    sym (drop-drop (length y) next b) ∙ ap (λ (xs : List ℕ). drop (length y) xs) left ∙ drop-drop (length y) (at + length x) a
    ∙ ap (λ (j : ℕ). drop j a) whole in
    record {
      is = q.is ∙ ap (λ (xs : List ℕ). xs ++ y ++ drop (next + length y) b) taken
          ∙ ap (λ (xs : List ℕ). (take at a ++ x) ++ y ++ xs) tail
          ∙ ap (λ (xs : List ℕ). xs ++ drop (at + length (x ++ y)) a) (append_assoc (take at a) x y);
    }

-- two writes of which the first begins where the second ends are one
pub puts-before : (a b c : List ℕ) (at next : ℕ) (x y : List ℕ) → Puts a b next y → Puts b c at x → next ≡ at + length x → next ≤ length a → Puts a c at (x ++ y)
puts-before a b c at next x y p q e fits =
    let front_long : length (take next a) ≡ next = length-take-le next a fits in
    let b_is : b ≡ take next a ++ (y ++ drop (next + length y) a) = p.is ∙ append_assoc (take next a) y (drop (next + length y) a) in
    let left : drop (at + length x) b ≡ y ++ drop (next + length y) a =
    ap (λ (j : ℕ). drop j b) (sym e) ∙ ap (λ (xs : List ℕ). drop next xs) b_is ∙ drop-front next (take next a) (y ++ drop (next + length y) a) front_long in
    let taken : take at b ≡ take at a =
    ap (λ (xs : List ℕ). take at xs) b_is ∙ take-append-le at (take next a) (y ++ drop (next + length y) a) (omega (arith, front_long, e)) ∙ take-take at next a (omega (arith, e)) in
    let whole : next + length y ≡ at + length (x ++ y) = omega (arith, e, length-append x y) in
    record {
      is = q.is ∙ ap (λ (xs : List ℕ). xs ++ x ++ drop (at + length x) b) taken ∙ ap (λ (xs : List ℕ). take at a ++ x ++ xs) left
          ∙ ap (λ (j : ℕ). take at a ++ x ++ (y ++ drop j a)) whole
          ∙ sym (append_assoc (take at a ++ x) y (drop (at + length (x ++ y)) a))
          ∙ ap (λ (xs : List ℕ). xs ++ drop (at + length (x ++ y)) a) (append_assoc (take at a) x y);
    }

pub length-le_u64s : (numbers : List ℕ) → length (le_u64s numbers) ≡ 8 * length numbers
length-le_u64s [] = refl
length-le_u64s (n ∷ numbers) = length-append (le_u64 n) (le_u64s numbers) ∙ omega (arith, length-le_u64 n, length-le_u64s numbers)

-- the numbers up to one more
le_u64s-take : (numbers : List ℕ) (i : ℕ) → i < length numbers → le_u64s (take (i + 1) numbers) ≡ le_u64s (take i numbers) ++ le_u64 (slice_index numbers i)
le_u64s-take numbers i within =
    ap le_u64s (take_more numbers i 0 within) ∙ flat_map-append le_u64 (take i numbers) (slice_index numbers i ∷ [])
    ∙ ap (λ (xs : List ℕ). le_u64s (take i numbers) ++ xs) (append-nil (le_u64 (slice_index numbers i)))

-- one number more behind those that were written
pub puts-number : (old now new numbers : List ℕ) (at end i : ℕ) → i < length numbers → end ≡ at + 8 * i → at + 8 * length numbers ≤ length old
    → Puts old now at (le_u64s (take i numbers)) → Puts now new end (le_u64 (slice_index numbers i)) → Puts old new at (le_u64s (take (i + 1) numbers))
puts-number old now new numbers at end i within ends fits p q =
    let long : length (le_u64s (take i numbers)) ≡ 8 * i = length-le_u64s (take i numbers) ∙ ap (λ (n : ℕ). 8 * n) (length-take-le i numbers (omega (arith, within))) in
    subst (λ (xs : List ℕ). Puts old new at xs) (sym (le_u64s-take numbers i within)) (puts-more old now new at end (le_u64s (take i numbers)) (le_u64 (slice_index numbers i)) p q (omega (arith, long, ends)) (omega (arith, long, within, fits)))

-- a write over the whole list
pub puts-whole : (old new x : List ℕ) → Puts old new 0 x → length x ≡ length old → new ≡ x
puts-whole old new x p whole = p.is ∙ ap (λ (xs : List ℕ). x ++ xs) (drop_all (0 + length x) old (omega (arith, whole))) ∙ append-nil x
