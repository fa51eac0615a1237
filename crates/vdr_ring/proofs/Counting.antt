-- The budget of a new cursor as a number of segments: of those that an index knows to meet, each stands in a slot of its own.
use Rattle.std.proofs.Common.{◌≡◌, ◌≢◌, inl, inr, ⊎_elim, ◌⊎◌, ◌≤◌, ◌+◌, cond, eqb, ℕ, zero, suc, Bool, true, false, List, [], ◌∷◌, get_or, set, Option, Some, None, refl, sym, ap, ◌∙◌, subst, arith, count_by, filter, get_or-set_other}
use Rattle.std.specs.Prelude.{All}
use mathlib.Core.List.{Sublist, sublist-cons_self}
use mathlib.Core.List.Sublist
use Rattle.std.proofs.Math.Nat.{mul-le-mul_left}
use Rattle.std.proofs.lemmas.Bool.{cond-false, cond-true, false≢true}
use Rattle.std.proofs.lemmas.Bool.Decides.{eqb_tells}
use Rattle.std.proofs.lemmas.List.Elements.{All-cons, All-head, All-nil, All-tail}
use Rattle.std.proofs.lemmas.List.Sums.{length-filter, sum_by-cons}
use Rattle.vdr_terms.specs.Queries.{Query, Span}
use Rattle.vdr_index.specs.declared.known.Known.{Known}
use Rattle.vdr_index.specs.Indexes.{passes_by}
use Rattle.vdr_directory.specs.Sequence.{Placed}
use Rattle.vdr_directory.specs.Indexed.{IsIndexed, IsKnownAs, Meets}
use Rattle.vdr_ring.specs.Rings.{RingState}
use Rattle.vdr_ring.specs.Budgets.{IsOfSegments, is_to_enter}
use Rattle.vdr_ring.proofs.Spending.{count_less}

abbrev pub Index : Type 0
Index = List (Option Known)

-- One slot more, and one slot fewer

cleared_here : (index : Index) (slot : ℕ) → get_or (set index slot None) slot None ≡ None
cleared_here [] slot = refl
cleared_here (x ∷ xs) zero = refl
cleared_here (x ∷ xs) (suc slot) = cleared_here xs slot

module _ (test : Known → Bool) where
  none_pass : (index : Index) → ((j : ℕ) → get_or index j None ≡ None) → count_by (passes_by test) index ≤ 0
  none_pass [] clear = omega arith
  none_pass (x ∷ xs) clear =
      let a : count_by (passes_by test) (x ∷ xs) ≡ cond (passes_by test x) 1 0 + count_by (passes_by test) xs = sum_by-cons (λ y. cond (passes_by test y) 1 0) x xs in
      let b : ◌≡◌ {A = ℕ} (cond (passes_by test x) 1 0) 0 = ap (λ (o : Option Known). cond (passes_by test o) 1 0) (clear 0) in
      let c = none_pass xs (λ j. clear (suc j)) in omega (arith, a, b, c)

  -- a slot that is cleared takes at most one from the count
  one_less_clear : (index : Index) (slot : ℕ) → count_by (passes_by test) index ≤ cond (passes_by test (get_or index slot None)) 1 0 + count_by (passes_by test) (set index slot None)
  one_less_clear [] slot = omega arith
  one_less_clear (x ∷ xs) zero =
      let a : count_by (passes_by test) (x ∷ xs) ≡ cond (passes_by test x) 1 0 + count_by (passes_by test) xs = sum_by-cons (λ y. cond (passes_by test y) 1 0) x xs in
      let b : count_by (passes_by test) (None ∷ xs) ≡ 0 + count_by (passes_by test) xs = sum_by-cons (λ y. cond (passes_by test y) 1 0) None xs in omega (arith, a, b)
  one_less_clear (x ∷ xs) (suc slot) =
      let a : count_by (passes_by test) (x ∷ xs) ≡ cond (passes_by test x) 1 0 + count_by (passes_by test) xs = sum_by-cons (λ y. cond (passes_by test y) 1 0) x xs in
      let b : count_by (passes_by test) (x ∷ set xs slot None) ≡ cond (passes_by test x) 1 0 + count_by (passes_by test) (set xs slot None) = sum_by-cons (λ y. cond (passes_by test y) 1 0) x (set xs slot None) in
      let c = one_less_clear xs slot in omega (arith, a, b, c)

  -- whether what an index knows of a segment's slot passes
  abbrev passes_at : Index → Placed → Bool
  passes_at index p = passes_by test (get_or index p.slot None)

  cleared_too : (index : Index) (slot : ℕ) (q : Placed) → passes_at (set index slot None) q ≡ true → passes_at index q ≡ true
  cleared_too index slot q h = ⊎_elim
      (λ (e : (eqb q.slot slot ≡ true) × (q.slot ≡ slot)).
      absurd (false≢true (sym (ap (passes_by test) (ap (λ (j : ℕ). get_or (set index slot None) j None) e.1 ∙ cleared_here index slot)) ∙ h)))
      (λ (e : (eqb q.slot slot ≡ false) × (q.slot ≢ slot)). ap (passes_by test) (sym (get_or-set_other index slot q.slot None None e.1)) ∙ h)
      (eqb_tells q.slot slot)

  -- each slot that passes is that of one of the segments
  slots_of_segments : (placed : List Placed) (index : Index) → ((j : ℕ) → All (λ p. p.slot ≢ j) placed → get_or index j None ≡ None)
      → count_by (passes_by test) index ≤ count_by (passes_at index) placed
  slots_of_segments [] index clear = none_pass index (λ j. clear j (All-nil (λ (p : Placed). p.slot ≢ j)))
  slots_of_segments (p ∷ ps) index clear =
      let others = slots_of_segments ps (set index p.slot None) (λ j away. clear_there j away (eqb_tells j p.slot)) in
      let own = one_less_clear index p.slot in
      let still = count_less (passes_at (set index p.slot None)) (passes_at index) (cleared_too index p.slot) ps in
      let a : count_by (passes_at index) (p ∷ ps) ≡ cond (passes_at index p) 1 0 + count_by (passes_at index) ps = sum_by-cons (λ q. cond (passes_at index q) 1 0) p ps in omega (arith, others, own, still, a)
    where
      clear_there : (j : ℕ) → All (λ q. q.slot ≢ j) ps → ((eqb j p.slot ≡ true) × (j ≡ p.slot)) ⊎ ((eqb j p.slot ≡ false) × (j ≢ p.slot)) → get_or (set index p.slot None) j None ≡ None
      clear_there j away (inl e) = ap (λ (k : ℕ). get_or (set index p.slot None) k None) e.1 ∙ cleared_here index p.slot
      clear_there j away (inr e) = get_or-set_other index p.slot j None None e.1 ∙ clear j (All-cons (λ (q : Placed). q.slot ≢ j) p ps (λ is. e.1 (sym is)) away)

-- Those of a list that pass a test

filter_some : {X : Type 0} (test : X → Bool) (xs : List X) → Sublist (filter test xs) xs
filter_some test [] = Sublist.refl []
filter_some test (x ∷ xs) = go (test x) refl (filter_some test xs)
  where
    go : (b : Bool) → test x ≡ b → Sublist (filter test xs) xs → Sublist (filter test (x ∷ xs)) (x ∷ xs)
    go true is rest = subst (λ (ys : List _). Sublist ys (x ∷ xs)) (sym (cond-true (test x) (x ∷ filter test xs) (filter test xs) is)) (Sublist.cons-cons x rest)
    go false is rest = subst (λ (ys : List _). Sublist ys (x ∷ xs)) (sym (cond-false (test x) (x ∷ filter test xs) (filter test xs) is)) (Sublist.trans rest (sublist-cons_self x xs))

module _ (query : Query) (span : Span) (index : Index) where
  -- whether a segment is known to meet
  abbrev meets_at : Placed → Bool
  meets_at = passes_at (is_to_enter query span None) index

  meets_known : (p : Placed) (o : Option Known) → IsKnownAs p o → passes_by (is_to_enter query span None) o ≡ true → Meets query span p
  meets_known p None is h = absurd (false≢true h)
  meets_known p (Some k) is h = record { known = k; is = is; meets_it = h }

  filter_meets : (placed : List Placed) → All (λ p. IsKnownAs p (get_or index p.slot None)) placed → All (Meets query span) (filter meets_at placed)
  filter_meets [] h = All-nil (Meets query span)
  filter_meets (p ∷ ps) h =
      go (meets_at p) refl (All-head (λ q. IsKnownAs q (get_or index q.slot None)) p ps h) (filter_meets ps (All-tail (λ q. IsKnownAs q (get_or index q.slot None)) p ps h))
    where
      go : (b : Bool) → meets_at p ≡ b → IsKnownAs p (get_or index p.slot None) → All (Meets query span) (filter meets_at ps) → All (Meets query span) (filter meets_at (p ∷ ps))
      go true is own rest =
          subst (All (Meets query span)) (sym (cond-true (meets_at p) (p ∷ filter meets_at ps) (filter meets_at ps) is)) (All-cons (Meets query span) p (filter meets_at ps) (meets_known p (get_or index p.slot None) own is) rest)
      go false is own rest = subst (All (Meets query span)) (sym (cond-false (meets_at p) (p ∷ filter meets_at ps) (filter meets_at ps) is)) rest

pub of_segments : (query : Query) (span : Span) (ring : RingState) (placed : List Placed) → IsIndexed ring.slots placed ring.directory.index → IsOfSegments query span ring placed
of_segments query span ring placed indexed =
    let index = ring.directory.index in
    let most = slots_of_segments (is_to_enter query span None) placed index indexed.clear in
    let kept = length-filter (meets_at query span index) placed in
    record {
      met = filter (meets_at query span index) placed;
      some = filter_some (meets_at query span index) placed;
      meet = filter_meets query span index placed indexed.kept;
      enough = mul-le-mul_left ring.segment (omega (arith, most, kept));
    }
