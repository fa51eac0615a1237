-- Differences that are joined to runs, one after another.
use Rattle.std.proofs.Common.{◌≡◌, ◌+◌, ◌&&◌, ℕ, Bool, true, false, cond, List, [], ◌∷◌, eqb, refl, sym, ap, ◌∙◌, true≢false}
use Rattle.std.proofs.lemmas.Bool.{and_parts, eqb-true}
use Rattle.vdr_compare.specs.declared.difference.Difference.{Difference}
use Rattle.vdr_compare.specs.declared.difference.Difference.TheVariants.{Differs, Lacks}
use Rattle.vdr_compare.specs.Differences.{goes_on, joined_before, with_next}

pub false_true : {P : Type 0} → false ≡ true → P
false_true e = absurd (true≢false (sym e))

-- What goes on the second goes on both.
on_both : (r x y : Difference) → goes_on r x ≡ true → goes_on (with_next r x) y ≡ goes_on x y
on_both (Differs p) x y e = false_true e
on_both (Lacks m a b) (Differs p) y e = false_true e
on_both (Lacks m a b) (Lacks n c d) (Differs p) e = refl
on_both (Lacks m a b) (Lacks n c d) (Lacks k f g) e = ap (λ (j : ℕ). eqb j k && eqb f (d + 1)) (eqb-true m n (and_parts (eqb m n) (eqb c (b + 1)) e).0)

-- Both begin where the first begins.
begins_same : (r x y : Difference) → goes_on x y ≡ true → goes_on r (with_next x y) ≡ goes_on r x
begins_same r (Differs p) y e = false_true e
begins_same r (Lacks n c d) (Differs p) e = false_true e
begins_same (Differs p) (Lacks n c d) (Lacks k f g) e = refl
begins_same (Lacks m a b) (Lacks n c d) (Lacks k f g) e = refl

three : (r x y : Difference) → goes_on r x ≡ true → goes_on x y ≡ true → with_next r (with_next x y) ≡ with_next (with_next r x) y
three (Differs p) x y e f = false_true e
three (Lacks m a b) (Differs p) y e f = false_true e
three (Lacks m a b) (Lacks n c d) (Differs p) e f = false_true f
three (Lacks m a b) (Lacks n c d) (Lacks k h g) e f = refl

-- One before others, where it is known whether the first of them goes on it.
pub joins : (x y : Difference) (ys : List Difference) → goes_on x y ≡ true → joined_before x (y ∷ ys) ≡ with_next x y ∷ ys
joins x y ys e = ap (λ (b : Bool). cond b (with_next x y ∷ ys) (x ∷ y ∷ ys)) e

pub stays : (x y : Difference) (ys : List Difference) → goes_on x y ≡ false → joined_before x (y ∷ ys) ≡ x ∷ y ∷ ys
stays x y ys e = ap (λ (b : Bool). cond b (with_next x y ∷ ys) (x ∷ y ∷ ys)) e

grown_at : (b : Bool) (r x y : Difference) (ys : List Difference) → goes_on x y ≡ b → goes_on r x ≡ true → joined_before r (joined_before x (y ∷ ys)) ≡ joined_before (with_next r x) (y ∷ ys)
grown_at true r x y ys f e =
    ap (joined_before r) (joins x y ys f) ∙ joins r (with_next x y) ys (begins_same r x y f ∙ e) ∙ ap (λ (z : Difference). z ∷ ys) (three r x y e f)
    ∙ sym (joins (with_next r x) y ys (on_both r x y e ∙ f))
grown_at false r x y ys f e =
    ap (joined_before r) (stays x y ys f) ∙ joins r x (y ∷ ys) e ∙ sym (stays (with_next r x) y ys (on_both r x y e ∙ f))

pub grown : (r x : Difference) (xs : List Difference) → goes_on r x ≡ true → joined_before r (joined_before x xs) ≡ joined_before (with_next r x) xs
grown r x [] e = joins r x [] e
grown r x (y ∷ ys) e = grown_at (goes_on x y) r x y ys refl e

closed_at : (b : Bool) (r x y : Difference) (ys : List Difference) → goes_on x y ≡ b → goes_on r x ≡ false → joined_before r (joined_before x (y ∷ ys)) ≡ r ∷ joined_before x (y ∷ ys)
closed_at true r x y ys f e =
    ap (joined_before r) (joins x y ys f) ∙ stays r (with_next x y) ys (begins_same r x y f ∙ e) ∙ ap (λ (zs : List Difference). r ∷ zs) (sym (joins x y ys f))
closed_at false r x y ys f e = ap (joined_before r) (stays x y ys f) ∙ stays r x (y ∷ ys) e ∙ ap (λ (zs : List Difference). r ∷ zs) (sym (stays x y ys f))

pub closed : (r x : Difference) (xs : List Difference) → goes_on r x ≡ false → joined_before r (joined_before x xs) ≡ r ∷ joined_before x xs
closed r x [] e = stays r x [] e
closed r x (y ∷ ys) e = closed_at (goes_on x y) r x y ys refl e
