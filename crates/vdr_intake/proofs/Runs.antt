-- Runs of items, from both ends.
use Rattle.std.proofs.Common.{◌≡◌, ◌<◌, ℕ, List, [], ◌∷◌, ◌++◌, Some, refl, subst, append_assoc, append-nil, sym}
use Rattle.vdr_terms.specs.Records.{last}
use Rattle.vdr_core.specs.Taken.{Captured}
use Rattle.vdr_intake.specs.Items.{Follows, IsRun, most_items}

-- one more item at the end
pub run_more : (group : ℕ) (before items : List Captured) (c : Captured) → IsRun group before items → Follows group (before ++ items) c → c.number < most_items
    → IsRun group before (items ++ c ∷ [])
run_more group before [] c r follows few = (subst (λ (l : List Captured). Follows group l c) (append-nil before) follows, few, tt)
run_more group before (x ∷ xs) c r follows few =
    (r.0, r.1, run_more group (before ++ x ∷ []) xs c r.2 (subst (λ (l : List Captured). Follows group l c) (sym (append_assoc before (x ∷ []) xs)) follows) few)

-- an item in the middle
pub run_at : (group : ℕ) (before items : List Captured) (c : Captured) (rest : List Captured) → IsRun group before (items ++ c ∷ rest)
    → Follows group (before ++ items) c × (c.number < most_items)
run_at group before [] c rest r = (subst (λ (l : List Captured). Follows group l c) (sym (append-nil before)) r.0, r.1)
run_at group before (x ∷ xs) c rest r =
    let here = run_at group (before ++ x ∷ []) xs c rest r.2 in
    (subst (λ (l : List Captured). Follows group l c) (append_assoc before (x ∷ []) xs) here.0, here.1)

-- the last of these and one more is that one
pub last_more : (items : List Captured) (c : Captured) → last (items ++ c ∷ []) ≡ Some c
last_more [] c = refl
last_more (x ∷ []) c = refl
last_more (x ∷ y ∷ xs) c = last_more (y ∷ xs) c
