-- Bytes written over others.
use Rattle.std.proofs.Common.{◌≡◌, ◌⊎◌, inl, inr, ℕ, zero, suc, ◌+◌, ◌<◌, ◌≤◌, ◌≢◌, List, [], ◌∷◌, ◌++◌, length, map, get_or, set, take, drop, refl, sym, ◌∙◌, ap, arith, length-drop, take-append-drop}
use Rattle.std.proofs.lemmas.List.{set-get_or, length-take-le, get_or-set_other}
use Rattle.vdr_outside.specs.Disk.{Image, content, over, written}

pub length-over : (b : List ℕ) (at : ℕ) (x : List ℕ) → length (over b at x) ≡ length b
length-over [] at x = refl
length-over (y ∷ b) (suc at) x = ap suc (length-over b at x)
length-over (y ∷ b) zero [] = refl
length-over (y ∷ b) zero (z ∷ x) = ap suc (length-over b zero x)

-- the bytes that stand there
pub over_own : (b : List ℕ) (at n : ℕ) → over b at (take n (drop at b)) ≡ b
over_own [] at n = refl
over_own (y ∷ b) (suc at) n = ap (λ (l : List ℕ). y ∷ l) (over_own b at n)
over_own (y ∷ b) zero zero = refl
over_own (y ∷ b) zero (suc n) = ap (λ (l : List ℕ). y ∷ l) (over_own b zero n)

pub over_front : (p r : List ℕ) (at : ℕ) (x : List ℕ) → length p ≡ at → over (p ++ r) at x ≡ p ++ over r zero x
over_front [] r zero x is = refl
over_front [] r (suc at) x is = absurd (omega arith)
over_front (y ∷ p) r zero x is = absurd (omega arith)
over_front (y ∷ p) r (suc at) x is = ap (λ (l : List ℕ). y ∷ l) (over_front p r at x (omega arith))

over_here : (q r x : List ℕ) → length q ≡ length x → over (q ++ r) zero x ≡ x ++ r
over_here [] [] [] is = refl
over_here [] (y ∷ r) [] is = refl
over_here [] r (z ∷ x) is = absurd (omega arith)
over_here (y ∷ q) r [] is = absurd (omega arith)
over_here (y ∷ q) r (z ∷ x) is = ap (λ (l : List ℕ). z ∷ l) (over_here q r x (omega arith))

-- a part in the middle is written over
pub over_middle : (p q r : List ℕ) (at : ℕ) (x : List ℕ) → length p ≡ at → length q ≡ length x → over (p ++ (q ++ r)) at x ≡ p ++ (x ++ r)
over_middle p q r at x is same = over_front p (q ++ r) at x is ∙ ap (λ (l : List ℕ). p ++ l) (over_here q r x same)

pub sizes_written : (image : Image) (m at : ℕ) (x : List ℕ) → map length (written image m at x) ≡ map length image
sizes_written [] zero at x = refl
sizes_written [] (suc m) at x = refl
sizes_written (b ∷ image) zero at x = ap (λ (n : ℕ). n ∷ map length image) (length-over b at x)
sizes_written (b ∷ image) (suc m) at x = ap (λ (l : List ℕ). length b ∷ l) (sizes_written image m at x)

pub written_own : (image : Image) (m at n : ℕ) → written image m at (take n (drop at (content image m))) ≡ image
written_own image m at n = ap (λ (b : List ℕ). set image m b) (over_own (content image m) at n) ∙ set-get_or image m []

-- the size of a medium, by its image
pub size_of : (image : Image) (m : ℕ) → length (content image m) ≡ get_or (map length image) m 0
size_of [] m = refl
size_of (b ∷ image) zero = refl
size_of (b ∷ image) (suc m) = size_of image m

pub content_set_other : (image : Image) (m k : ℕ) (b : List ℕ) → k ≢ m → content (set image m b) k ≡ content image k
content_set_other image m k b ne = get_or-set_other image m k b [] ne

-- as a write to a part of a slice has it
pub over_parts : (b : List ℕ) (at : ℕ) (x : List ℕ) → at + length x ≤ length b → take at b ++ (x ++ drop (length x) (drop at b)) ≡ over b at x
over_parts b at x fits =
    let long : length (take at b) ≡ at = length-take-le at b (omega (arith, fits)) in
    let enough : length (take (length x) (drop at b)) ≡ length x = length-take-le (length x) (drop at b) (omega (arith, fits, length-drop at b)) in
    let split : b ≡ take at b ++ (take (length x) (drop at b) ++ drop (length x) (drop at b)) =
    sym (take-append-drop at b) ∙ ap (λ (l : List ℕ). take at b ++ l) (sym (take-append-drop (length x) (drop at b))) in
    sym (ap (λ (l : List ℕ). over l at x) split ∙ over_middle (take at b) (take (length x) (drop at b)) (drop (length x) (drop at b)) at x long enough)

pub le_or_gt : (a b : ℕ) → (a ≤ b) ⊎ (b < a)
le_or_gt zero b = inl (omega arith)
le_or_gt (suc a) zero = inr (omega arith)
le_or_gt (suc a) (suc b) = elim (le_or_gt a b) [ inl le ↦ inl (omega (arith, le)) | inr gt ↦ inr (omega (arith, gt)) ]
