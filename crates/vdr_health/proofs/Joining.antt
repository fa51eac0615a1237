-- Texts that are appended one after another.
use Rattle.std.proofs.Common.{◌≡◌, ◌++◌, ◌∙◌, ℕ, List, ap, append_assoc}

pub join3 : (p a b c : List ℕ) → p ++ a ++ b ++ c ≡ p ++ (a ++ b ++ c)
join3 p a b c = ap (λ (xs : List ℕ). xs ++ c) (append_assoc p a b) ∙ append_assoc p (a ++ b) c

pub join4 : (p a b c d : List ℕ) → p ++ a ++ b ++ c ++ d ≡ p ++ (a ++ b ++ c ++ d)
join4 p a b c d = ap (λ (xs : List ℕ). xs ++ d) (join3 p a b c) ∙ append_assoc p (a ++ b ++ c) d

pub join7 : (p a b c d e f g : List ℕ) → p ++ a ++ b ++ c ++ d ++ e ++ f ++ g ≡ p ++ (a ++ b ++ c ++ d ++ e ++ f ++ g)
join7 p a b c d e f g =
    ap (λ (xs : List ℕ). xs ++ e ++ f ++ g) (join4 p a b c d)
    ∙ ap (λ (xs : List ℕ). xs ++ f ++ g) (append_assoc p (a ++ b ++ c ++ d) e)
    ∙ ap (λ (xs : List ℕ). xs ++ g) (append_assoc p (a ++ b ++ c ++ d ++ e) f)
    ∙ append_assoc p (a ++ b ++ c ++ d ++ e ++ f) g

pub join5 : (p a b c d e : List ℕ) → p ++ a ++ b ++ c ++ d ++ e ≡ p ++ (a ++ b ++ (c ++ d) ++ e)
join5 p a b c d e =
    ap (λ (xs : List ℕ). xs ++ e) (append_assoc (p ++ a ++ b) c d)
    ∙ join4 p a b (c ++ d) e
