-- What the test says by which a run ends.
use Rattle.std.proofs.Common.{◌≡◌, ◌||◌, ◌==◌, ◌/◌, ◌-◌, ◌∙◌, ◌≤◌, ℕ, Bool, true, false, not, nat_lt, Option, None, Some, refl, sym, ap, arith}
use Rattle.std.specs.Bool.{beq}
use Rattle.std.specs.Cmp.{booleans_Decides}
use Rattle.std.specs.Option.{option_eq}
use Rattle.std.proofs.lemmas.Bool.{eqb-true, le-ltb, ltb-false}
use Rattle.std.proofs.lemmas.Bool.Decides.{nat_tests}
use Rattle.vdr_thin.specs.Laws.{Follows}
use Rattle.vdr_thin.specs.Runs.{Reading, ends}

none_of : (a b c d : Bool) → (a || b || c || d) ≡ false → (a ≡ false) × (b ≡ false) × (c ≡ false) × (d ≡ false)
none_of true b c d e = let none : ⊥ = cc in absurd none
none_of false true c d e = let none : ⊥ = cc in absurd none
none_of false false true d e = let none : ⊥ = cc in absurd none
none_of false false false true e = let none : ⊥ = cc in absurd none
none_of false false false false e = (refl, refl, refl, refl)

all_none : (a b c d : Bool) → a ≡ false → b ≡ false → c ≡ false → d ≡ false → (a || b || c || d) ≡ false
all_none a b c d p q r s = λ i. p i || q i || r i || s i

not_false : (b : Bool) → not b ≡ false → b ≡ true
not_false true e = refl
not_false false e = let none : ⊥ = cc in absurd none

itself : (n : ℕ) → (n == n) ≡ true
itself n = grind (arith, nat_tests)

same_valid : (a b : Option Bool) → option_eq beq a b ≡ true → a ≡ b
same_valid None None e = refl
same_valid None (Some y) e = let none : ⊥ = cc in absurd none
same_valid (Some x) None e = let none : ⊥ = cc in absurd none
same_valid (Some x) (Some y) e = ap Some ((booleans_Decides x y).0 e)

valid_itself : (a : Option Bool) → option_eq beq a a ≡ true
valid_itself None = refl
valid_itself (Some true) = refl
valid_itself (Some false) = refl

-- A run that goes on.
pub follows : (step longest : ℕ) (p q : Reading) → ends step longest p q ≡ false → Follows step longest p q
follows step longest p q e =
    let n = none_of (not (p.utc / step == q.utc / step)) (nat_lt q.utc p.utc) (nat_lt longest (q.utc - p.utc)) (not (option_eq beq p.valid q.valid)) e in
    let rises : p.utc ≤ q.utc = ltb-false q.utc p.utc n.1 in
    let soon : q.utc - p.utc ≤ longest = ltb-false longest (q.utc - p.utc) n.2 in
    record {
      bucket = eqb-true (p.utc / step) (q.utc / step) (not_false _ n.0);
      rises = rises;
      soon = omega (arith, rises, soon);
      valid = same_valid p.valid q.valid (not_false _ n.3);
    }

still_follows : (step longest : ℕ) (p q : Reading) → Follows step longest p q → ends step longest p q ≡ false
still_follows step longest p q f =
    let soon : q.utc - p.utc ≤ longest = let s = f.soon in omega (arith, s) in
    all_none _ _ _ _
    (ap not (ap (λ (n : ℕ). p.utc / step == n) (sym f.bucket) ∙ itself (p.utc / step)))
    (le-ltb q.utc p.utc f.rises)
    (le-ltb longest (q.utc - p.utc) soon)
    (ap not (ap (λ (v : Option Bool). option_eq beq p.valid v) (sym f.valid) ∙ valid_itself p.valid))

-- A run that ends.
pub apart : (step longest : ℕ) (p q : Reading) → ends step longest p q ≡ true → Follows step longest p q → ⊥
apart step longest p q e f = let still = still_follows step longest p q f in let none : ⊥ = cc in none
