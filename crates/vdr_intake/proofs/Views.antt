-- What holds of each end still does when one of them changes, and when one is added.
use Rattle.std.proofs.Common.{◌≡◌, ◌≢◌, ◌⊎◌, ℕ, zero, suc, List, [], ◌∷◌, ◌++◌, length, set, refl, sym, ap, subst, inl, inr, ⊎_elim}
use mathlib.Core.Option.{some, some-ne-none, some-injective}
use lib.ListN.{get_elem?}
use Rattle.crossbeam_queue.proofs.Lists.{at_set}
use Rattle.vdr_intake.specs.declared.view.EndView.{EndView}

abbrev pub Each : (ℕ → EndView → Type 0) → List EndView → Type 0
Each P views = (port : ℕ) (v : EndView) → get_elem? views port ≡ some v → P port v

-- an end stands where it stood, or it is the one that was added behind them
at_more : (views : List EndView) (v w : EndView) (port : ℕ) → get_elem? (views ++ v ∷ []) port ≡ some w
    → (get_elem? views port ≡ some w) ⊎ ((port ≡ length views) × (v ≡ w))
at_more [] v w zero e = inr (refl, some-injective v w e)
at_more [] v w (suc port) e = absurd (some-ne-none w (sym e))
at_more (x ∷ xs) v w zero e = inl e
at_more (x ∷ xs) v w (suc port) e = ⊎_elim (λ before. inl before) (λ behind. inr (ap suc behind.0, behind.1)) (at_more xs v w port e)

pub each_set : (P : ℕ → EndView → Type 0) (views : List EndView) (port : ℕ) (w : EndView) → P port w
    → ((other : ℕ) (v : EndView) → other ≢ port → get_elem? views other ≡ some v → P other v) → Each P (set views port w)
each_set P views port w here others other v e =
    ⊎_elim (λ (x : (other ≡ port) × (w ≡ v)). subst (λ (y : ℕ × EndView). P y.0 y.1) (λ i. (sym x.0 i, x.1 i)) here)
    (λ (x : (other ≢ port) × (get_elem? views other ≡ some v)). others other v x.0 x.1) (at_set views port other w v e)

pub each_more : (P : ℕ → EndView → Type 0) (views : List EndView) (w : EndView) → Each P views → P (length views) w → Each P (views ++ w ∷ [])
each_more P views w each here port v e =
    ⊎_elim (λ before. each port v before)
    (λ (behind : (port ≡ length views) × (w ≡ v)). subst (λ (y : ℕ × EndView). P y.0 y.1) (λ i. (sym behind.0 i, behind.1 i)) here)
    (at_more views w v port e)

pub each_first : (P : ℕ → EndView → Type 0) (w : EndView) → P 0 w → Each P (w ∷ [])
each_first P w here = each_more P [] w (λ port v none. absurd (some-ne-none v (sym none))) here
