-- Texts that are put together.
use Rattle.std.proofs.Common.{◌≡◌, ◌∙◌, ◌++◌, ℕ, List, ap, append_assoc}

pub five_parts : (old u v w x y s a b c d e : List ℕ) → a ≡ old ++ u ++ s → b ≡ a ++ v ++ s → c ≡ b ++ w ++ s → d ≡ c ++ x ++ s → e ≡ d ++ y ++ s
    → e ≡ old ++ (u ++ s ++ v ++ s ++ w ++ s ++ x ++ s ++ y) ++ s
five_parts old u v w x y s a b c d e p q r t z =
    z ∙ ap (λ k. k ++ y ++ s) (t ∙ ap (λ k. k ++ x ++ s) (r ∙ ap (λ k. k ++ w ++ s) (q ∙ ap (λ k. k ++ v ++ s) p))) ∙ simp append_assoc
