-- Lanes that stand at the numbers of their groups, with one more.
use Rattle.std.proofs.Common.{◌≡◌, ◌<◌, ℕ, List, [], ◌∷◌, ◌++◌, ◌+◌, length, get_or, arith, sym, inl, inr, ◌∙◌, ap}
use Rattle.std.proofs.lemmas.Bool.{cases_eq}
use Rattle.std.proofs.lemmas.List.{get_or_push, get_or_append_left}
use Rattle.vdr_capture.specs.declared.lane.Lane.{Lane}

pub one_more : {P : Type 0} (lanes : List (Lane P)) (lane : Lane P) (n : ℕ) → length lanes ≡ n → lane.group ≡ n
    → ((k : ℕ) (d : Lane P) → k < n → (get_or lanes k d).group ≡ k) → (k : ℕ) (d : Lane P) → k < n + 1 → (get_or (lanes ++ lane ∷ []) k d).group ≡ k
one_more {P} lanes lane n size at before k d below = elim (cases_eq k n) [
  | inl same ↦ ap (λ (l : Lane P). l.group) (get_or_push lanes lane d k (size ∙ sym same)) ∙ at ∙ sym same
  | inr other ↦ ap (λ (l : Lane P). l.group) (get_or_append_left lanes (lane ∷ []) d k (omega (arith, below, other, size))) ∙ before k d (omega (arith, below, other))
]
