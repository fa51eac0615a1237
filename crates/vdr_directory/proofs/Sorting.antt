-- Segments sorted by sequence number, and by slot where two have the same.
use Rattle.std.proofs.Common.{◌≡◌, ◌⊎◌, ◌<◌, ◌≤◌, ◌+◌, ℕ, suc, Bool, false, List, [], ◌∷◌, length, get_or, inl, inr, ⊎_elim, sym, subst, arith, add-one, Ordering}
use Rattle.std.specs.declared.cmp.Ordering.TheVariants.{Less, Equal}
use Rattle.std.specs.Cmp.{nat_cmp_is}
use Rattle.std.specs.List.Sorted.{IsSortedBy}
use Rattle.std.specs.Ordering.{nat_cmp, is_lt, ordering_then}
use Rattle.std.proofs.lemmas.Bool.{cases_eq, cases_lt, false≢true}
use Rattle.std.proofs.lemmas.List.Elements.{All-nil, All-cons, All-weaker}
use Rattle.std.proofs.lemmas.Map.Keys.{ge_from_not_lt}
use Rattle.vdr_directory.specs.declared.entry.Entry.{Entry}
use Rattle.vdr_directory.specs.Fronts.{IsNotLater, AreSorted}

-- the test of a sort
abbrev pub is_before : Entry → Entry → Bool
is_before e f = is_lt (ordering_then (nat_cmp e.seq f.seq) (nat_cmp e.slot f.slot))

not_later : (a b c d : ℕ) → is_lt (ordering_then (nat_cmp a b) (nat_cmp c d)) ≡ false → (b < a) ⊎ ((b ≡ a) × (d ≤ c))
not_later a b c d h =
    ⊎_elim
    (λ (e : a ≡ b). inr (sym e, ge_from_not_lt c d (subst (λ (o : Ordering). is_lt (ordering_then o (nat_cmp c d)) ≡ false) (sym (nat_cmp_is a b Equal e)) h)))
    (λ (ne : a ≡ b → ⊥). ⊎_elim
    (λ (e : a < b). absurd (false≢true (sym (subst (λ (o : Ordering). is_lt (ordering_then o (nat_cmp c d)) ≡ false) (sym (nat_cmp_is a b Less e)) h))))
    (λ (e : b ≤ a). inl (omega (arith, ne, e)))
    (cases_lt a b))
    (cases_eq a b)

later_still : (e f x : Entry) → IsNotLater e f → IsNotLater f x → IsNotLater e x
later_still e f x (inl h) k = inl (omega (arith, h, k))
later_still e f x (inr h) (inl k) = inl (omega (arith, h.0, k))
later_still e f x (inr h) (inr k) = inr (omega (arith, h.0, k.0), omega (arith, h.1, k.1))

sorted_neighbours : (es : List Entry) → ((k : ℕ) (d : Entry) → suc k < length es → is_before (get_or es (suc k) d) (get_or es k d) ≡ false) → AreSorted es
sorted_neighbours [] h = tt
sorted_neighbours (e ∷ []) h = (All-nil (IsNotLater e), tt)
sorted_neighbours (e ∷ f ∷ es) h =
    let rest : AreSorted (f ∷ es) = sorted_neighbours (f ∷ es) (λ k d lt. h (suc k) d (omega (arith, lt))) in
    let first : IsNotLater e f = not_later f.seq e.seq f.slot e.slot (h 0 e (omega arith)) in
    (All-cons (IsNotLater e) f es first (All-weaker (IsNotLater f) (IsNotLater e) (λ x. later_still e f x first) es rest.0), rest)

pub sorted_pairs : (es : List Entry) → IsSortedBy is_before es → AreSorted es
sorted_pairs es h = sorted_neighbours es (λ k d lt.
    let next : k + 1 ≡ suc k = add-one k in
    subst (λ (n : ℕ). is_before (get_or es n d) (get_or es k d) ≡ false) next (h k d (omega arith) (omega (arith, lt))))
