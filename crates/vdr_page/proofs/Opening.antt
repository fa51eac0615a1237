-- Texts that are appended, one after the other.
use Rattle.std.proofs.Common.{◌≡◌, ℕ, List, ◌++◌, ◌∙◌, append_assoc}

pub joined : (text a b first second mid end : List ℕ) → mid ≡ text ++ a → end ≡ mid ++ b → a ≡ first → b ≡ second → end ≡ text ++ (first ++ second)
joined text a b first second mid end mid_is end_is first_is second_is =
    end_is ∙ (λ i. mid_is i ++ second_is i) ∙ (λ i. (text ++ first_is i) ++ second) ∙ append_assoc text first second
