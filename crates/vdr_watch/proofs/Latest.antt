-- The last heartbeats are the predecessors at the end.
use Rattle.std.proofs.Common.{◌≡◌, ◌<◌, ◌∙◌, ℕ, zero, suc, Bool, true, false, cond, List, [], ◌∷◌, length, find, unwrap_or, Option, Some, refl, sym, ap, arith, Ordering, Less, is_eq}
use Rattle.std.specs.Cmp.{IsTotalOrder}
use Rattle.std.specs.List.{Contains, slice_index_or}
use Rattle.std.proofs.lemmas.Cmp.{tied_itself}
use Rattle.vdr_watch.specs.Signs.{Sign}
use Rattle.vdr_alerts.specs.Rows.{AreOrdered}
use Rattle.vdr_watch.specs.Supervision.{AreLatest, beat_cmp, latest}
use Rattle.vdr_alerts.proofs.Ordered.{all_at, same_as}
use Rattle.vdr_watch.proofs.Orders.{beat_found, beat_total, latest_ordered}

module _ {A : Type 0} (cmp : A → A → Ordering) (total : IsTotalOrder cmp) where
  -- A row of a list in order is found.
  found_at : (xs : List A) (b : A) (i : ℕ) → AreOrdered cmp xs → i < length xs → slice_index_or xs i b ≡ b → find (same_as cmp total b) xs ≡ Some b
  found_at [] b i h lt is = absurd (omega (arith, lt))
  found_at (x ∷ xs) b zero h lt is =
      ap (λ (o : Ordering). cond (is_eq o) (Some x) (find (same_as cmp total b) xs)) (ap (λ (y : A). cmp y b) is ∙ tied_itself total b) ∙ ap (λ (y : A). Some y) is
  found_at (x ∷ xs) b (suc i) h lt is =
      ap (λ (o : Ordering). cond (is_eq o) (Some x) (find (same_as cmp total b) xs))
      (sym (ap (cmp x) is) ∙ all_at (λ later. cmp x later ≡ Less) xs i b h.0 (omega (arith, lt)))
      ∙ found_at xs b i h.1 (omega (arith, lt)) is

module _ {A : Type 0} (p : A → Bool) where
  -- What is found stands in the list.
  contained : (xs : List A) (b : A) → find p xs ≡ Some b → Contains xs b
  contained [] b is = let none : ⊥ = cc in absurd none
  contained (x ∷ xs) b is = go (p x) refl (contained xs b)
    where
      go : (t : Bool) → p x ≡ t → (find p xs ≡ Some b → Contains xs b) → Contains (x ∷ xs) b
      go true e later = (0, omega arith, ap (λ (o : Option A). unwrap_or o b) (sym (ap (λ (t : Bool). cond t (Some x) (find p xs)) e) ∙ is))
      go false e later = let found = later (sym (ap (λ (t : Bool). cond t (Some x) (find p xs)) e) ∙ is) in (suc found.0, let lt = found.1 in omega (arith, lt), found.2)

pub are_latest : (met : List Sign) → AreLatest met (latest met)
are_latest met = record {
  ordered = latest_ordered met;
  each = λ b. (
    λ stands. sym (beat_found met b) ∙ found_at beat_cmp beat_total (latest met) b stands.0 (latest_ordered met) stands.1 stands.2,
    λ before. contained (same_as beat_cmp beat_total b) (latest met) b (beat_found met b ∙ before),
  );
}
