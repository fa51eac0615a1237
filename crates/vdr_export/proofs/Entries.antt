-- What is found among entries once one more is put, where keys that are tested as the same are one.
use Rattle.std.proofs.Common.{◌≡◌, ◌∙◌, Bool, true, false, cond, if◌then◌else◌, List, [], ◌∷◌, Option, Some, refl, sym, ap, true≢false}
use Rattle.std.specs.Map.{lookup}
use Rattle.indexmap.specs.IndexMap.{insert_entry}

module _ {K : Type 0} (eq : K → K → Bool) (one : (a b : K) → eq a b ≡ true → a ≡ b) where
  turned : (a b : K) → eq a b ≡ true → eq b a ≡ true
  turned a b e = let p = one a b e in (λ i. eq (sym p i) (p i)) ∙ e

  either_way : (a b : K) → eq a b ≡ eq b a
  either_way a b = go (eq a b) (eq b a) refl refl
    where
      go : (r s : Bool) → eq a b ≡ r → eq b a ≡ s → eq a b ≡ eq b a
      go true s p q = p ∙ sym (turned a b p)
      go false true p q = absurd (true≢false (sym (turned b a q) ∙ p))
      go false false p q = p ∙ sym q

module _ {K X : Type 0} (eq : K → K → Bool) (one : (a b : K) → eq a b ≡ true → a ≡ b) where
  -- By a key that stands first or second in the test.
  pub found_either_way : (k : K) (es : List (K × X)) → lookup (eq k) es ≡ lookup (λ b. eq b k) es
  found_either_way k [] = refl
  found_either_way k (e ∷ es) = (λ i. cond (either_way eq one k e.0 i) (Some e.1) (found_either_way k es i))

  pub found_put : (es : List (K × X)) (k q : K) (v : X) → lookup (λ b. eq b q) (insert_entry eq es k v) ≡ (if eq k q then Some v else lookup (λ b. eq b q) es)
  found_put [] k q v = refl
  found_put (e ∷ es) k q v = by (found_put es k q v) (eq k e.0) refl (eq k q) refl
    where
      here : (r : Bool) → eq k e.0 ≡ r → lookup (λ b. eq b q) (insert_entry eq (e ∷ es) k v) ≡ lookup (λ b. eq b q) (if r then (e.0, v) ∷ es else e ∷ insert_entry eq es k v)
      here r is = ap (λ (b : Bool). lookup (λ b. eq b q) (if b then (e.0, v) ∷ es else e ∷ insert_entry eq es k v)) is

      there : (s : Bool) → eq k q ≡ s → (if eq k q then Some v else lookup (λ b. eq b q) (e ∷ es)) ≡ (if s then Some v else lookup (λ b. eq b q) (e ∷ es))
      there s is = ap (λ (b : Bool). if b then Some v else lookup (λ b. eq b q) (e ∷ es)) is

      by : lookup (λ b. eq b q) (insert_entry eq es k v) ≡ (if eq k q then Some v else lookup (λ b. eq b q) es) → (r : Bool) → eq k e.0 ≡ r → (s : Bool) → eq k q ≡ s → lookup (λ b. eq b q) (insert_entry eq (e ∷ es) k v) ≡ (if eq k q then Some v else lookup (λ b. eq b q) (e ∷ es))
      by later true r true s = here true r ∙ ap (λ (b : Bool). cond b (Some v) (lookup (λ b. eq b q) es)) (ap (λ x. eq x q) (sym (one k e.0 r)) ∙ s) ∙ sym (there true s)
      by later true r false s =
          let other : eq e.0 q ≡ false = ap (λ x. eq x q) (sym (one k e.0 r)) ∙ s in
          here true r ∙ ap (λ (b : Bool). cond b (Some v) (lookup (λ b. eq b q) es)) other
          ∙ sym (there false s ∙ ap (λ (b : Bool). cond b (Some e.1) (lookup (λ b. eq b q) es)) other)
      by later false r true s =
          here false r
          ∙ ap (λ (b : Bool). cond b (Some e.1) (lookup (λ b. eq b q) (insert_entry eq es k v))) (other (eq e.0 q) refl)
          ∙ later ∙ ap (λ (b : Bool). if b then Some v else lookup (λ b. eq b q) es) s ∙ sym (there true s)
        where
          other : (t : Bool) → eq e.0 q ≡ t → eq e.0 q ≡ false
          other true t = absurd (true≢false (sym (ap (λ x. eq k x) (one e.0 q t) ∙ s) ∙ r))
          other false t = t
      by later false r false s =
          here false r
          ∙ ap (λ (o : Option X). cond (eq e.0 q) (Some e.1) o) (later ∙ ap (λ (b : Bool). if b then Some v else lookup (λ b. eq b q) es) s)
          ∙ sym (there false s)
