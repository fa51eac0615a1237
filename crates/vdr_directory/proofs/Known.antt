-- What an index knows of segments, and where each stands among those in order.
use Rattle.std.proofs.Common.{◌≡◌, ◌≢◌, ◌⊎◌, ◌<◌, ◌≤◌, ℕ, suc, List, [], ◌∷◌, ◌++◌, length, get_or, All, Contains, Option, Some, None, inl, inr, ⊎_elim, refl, sym, ap, ◌∙◌, subst, arith}
use Rattle.std.specs.Prelude.{Any, IfSome}
use Rattle.std.proofs.lemmas.Bool.{cases_eq}
use Rattle.std.proofs.lemmas.Option.{none-some, same_Some, get_or_from_slice_get}
use Rattle.std.proofs.lemmas.List.Elements.{All-nil, All-cons, All-contains, All-weaker, Contains-append_cases}
use Rattle.vdr_terms.specs.Records.{last}
use Rattle.vdr_terms.proofs.Somewhere.{any_here, any_there}
use Rattle.vdr_durability.proofs.Lists.{none_contained, contains_cases}
use Rattle.vdr_entry.specs.declared.summary.Summary.{Summary}
use Rattle.vdr_index.proofs.JoinLemmas.{one_summarised}
use Rattle.vdr_index.specs.declared.known.Known.{Known}
use Rattle.vdr_index.specs.Indexes.{Keeps}
use Rattle.vdr_index.proofs.Ranks.{keeps_at}
use Rattle.vdr_directory.specs.Sequence.{Placed, first_of, records_of, seq_of}
use Rattle.vdr_index.specs.Audits.{IsCovered}
use Rattle.vdr_directory.specs.Order.{next_place, Agrees, HasNone, RunsOn, AreInPlace, AreInOrder}
use Rattle.vdr_directory.specs.Growing.{next_seq}
use Rattle.vdr_directory.specs.Indexed.{IsKnown, IsKnownAs, IsIndexed, StandsFor}
use Rattle.vdr_directory.proofs.Agreeing.{exact_covered}
use Rattle.vdr_directory.proofs.Ordering.{has_records}
use Rattle.vdr_directory.proofs.Numbering.{seqs_below}

pub any_or_none : (ps : List Placed) (j : ℕ) → Any (λ p. p.slot ≡ j) ps ⊎ All (λ p. p.slot ≢ j) ps
any_or_none [] j = inr (All-nil (λ p. p.slot ≢ j))
any_or_none (p ∷ ps) j =
    ⊎_elim
    (λ (e : p.slot ≡ j). inl (any_here (λ (p : Placed). p.slot ≡ j) p ps e))
    (λ (ne : p.slot ≡ j → ⊥). ⊎_elim
    (λ (k : Any (λ p. p.slot ≡ j) ps). inl (any_there (λ (p : Placed). p.slot ≡ j) p ps k))
    (λ (k : All (λ p. p.slot ≢ j) ps). inr (All-cons (λ (p : Placed). p.slot ≢ j) p ps ne k))
    (any_or_none ps j))
    (cases_eq p.slot j)

-- What is known of a segment is one

pub some_record : (p : Placed) (k : Known) → IsKnown p k → HasNone p → ⊥
some_record p k is none = is.some none

pub one_stands : (o : Option Summary) (p : Placed) (s t : Summary) → StandsFor o p s → StandsFor o p t → s ≡ t
one_stands None p s t a b = same_Some s t (one_summarised (records_of p) (Some s) (Some t) a.summary b.summary)
one_stands (Some x) p s t a b = a ∙ sym b

one_known : (p : Placed) (k l : Known) → IsKnown p k → IsKnown p l → k ≡ l
one_known p k l a b = by_fields k l (a.seq ∙ sym b.seq) (a.first ∙ sym b.first) (one_stands p.segment.header.summary p k.summary l.summary a.summary b.summary)
  where
    by_fields : (k l : Known) → k.seq ≡ l.seq → k.first ≡ l.first → k.summary ≡ l.summary → k ≡ l
    by_fields k l e f g = λ i. record { seq = e i; first = f i; summary = g i }

-- It has as many records as this says, and each is within it.

stands_count : (o : Option Summary) (p : Placed) (s : Summary) → IfSome o (Agrees p) → StandsFor o p s → s.count ≡ length (records_of p)
stands_count None p s agrees is = is.count
stands_count (Some t) p s agrees is = ap (λ (x : Summary). x.count) is ∙ agrees.count

stands_covered : (o : Option Summary) (p : Placed) (s : Summary) → RunsOn p → IfSome o (Agrees p) → StandsFor o p s → All (IsCovered s) (records_of p)
stands_covered None p s runs agrees is = exact_covered (records_of p) s runs.ticks is.summary
stands_covered (Some t) p s runs agrees is = subst (λ (x : Summary). All (IsCovered x) (records_of p)) (sym is) agrees.covered

module _ (p : Placed) (k : Known) (is : IsKnown p k) (agrees : IfSome p.segment.header.summary (Agrees p)) where
  pub known_count : k.summary.count ≡ length (records_of p)
  known_count = stands_count p.segment.header.summary p k.summary agrees is.summary

  pub known_covers : RunsOn p → All (IsCovered k.summary) (records_of p)
  known_covers runs = stands_covered p.segment.header.summary p k.summary runs agrees is.summary

-- A segment is in the index, or has no records.
abbrev pub IsInIndex : List (Option Known) → Placed → Type 0
IsInIndex index p = (HasNone p × (get_or index p.slot None ≡ None)) ⊎ ((k : Known) × Keeps index p.slot k × IsKnown p k)

module _ (count : ℕ) (placed : List Placed) (index : List (Option Known)) (x : IsIndexed count placed index) where
  -- the segment in a slot of which something is known
  pub placed_at : (slot : ℕ) (k : Known) → Keeps index slot k → (p : Placed) × Contains placed p × (p.slot ≡ slot) × IsKnown p k
  placed_at slot k at =
      let is : get_or index slot None ≡ Some k = get_or_from_slice_get index slot (Some k) None at in
      ⊎_elim
      (λ (h : Any (λ p. p.slot ≡ slot) placed).
      let p : Placed = h.1 in
      let m : Contains placed p = (h.0, h.2, h.3) in
      let known = All-contains (λ p. IsKnownAs p (get_or index p.slot None)) placed p x.kept m in
      let r : (p : Placed) × Contains placed p × (p.slot ≡ slot) × IsKnown p k = (p, m, h.4, subst (IsKnownAs p) (ap (λ (j : ℕ). get_or index j None) h.4 ∙ is) known) in r)
      (λ (h : All (λ p. p.slot ≢ slot) placed). absurd (none-some k (sym (x.clear slot h) ∙ is)))
      (any_or_none placed slot)

  pub in_index : (p : Placed) → Contains placed p → IsInIndex index p
  in_index p m = go (get_or index p.slot None) refl (All-contains (λ p. IsKnownAs p (get_or index p.slot None)) placed p x.kept m)
    where
      go : (o : Option Known) → get_or index p.slot None ≡ o → IsKnownAs p o → IsInIndex index p
      go None at none = inl (none, at)
      go (Some k) at is = inr (k, keeps_at index p.slot k at, is)

  -- what is known of a segment is kept in its slot
  pub kept_of : (p : Placed) (k : Known) → Contains placed p → IsKnown p k → Keeps index p.slot k
  kept_of p k m is = keeps_at index p.slot k (go (get_or index p.slot None) (All-contains (λ p. IsKnownAs p (get_or index p.slot None)) placed p x.kept m))
    where
      go : (o : Option Known) → IsKnownAs p o → o ≡ Some k
      go None none = absurd (some_record p k is none)
      go (Some l) there = ap (λ (y : Known). Some y) (one_known p l k there is)

-- Segments in order

pub runs_on : (o : Option Placed) (ps : List Placed) → AreInPlace o ps → (p : Placed) → Contains ps p → RunsOn p
runs_on o [] h p m = absurd (none_contained p m)
runs_on o (x ∷ xs) h p m = ⊎_elim
    (λ (e : x ≡ p). subst RunsOn e h.0.runs_on)
    (λ (k : Contains xs p). runs_on (Some x) xs h.1 p k)
    (contains_cases x xs p m)

pub agrees : (o : Option Placed) (ps : List Placed) → AreInPlace o ps → (p : Placed) → Contains ps p → IfSome p.segment.header.summary (Agrees p)
agrees o [] h p m = absurd (none_contained p m)
agrees o (x ∷ xs) h p m = ⊎_elim
    (λ (e : x ≡ p). subst (λ (q : Placed). IfSome q.segment.header.summary (Agrees q)) e h.0.agrees)
    (λ (k : Contains xs p). agrees (Some x) xs h.1 p k)
    (contains_cases x xs p m)

-- q comes before p, with all its places.
abbrev pub IsEarlier : Placed → Placed → Type 0
IsEarlier q p = (seq_of q < seq_of p) × (next_place q ≤ first_of p)

pub all_behind : (q : Placed) (ps : List Placed) → AreInPlace (Some q) ps → All (λ p. IsEarlier q p) ps
all_behind q [] h = All-nil (λ p. IsEarlier q p)
all_behind q (p ∷ ps) h =
    let a = h.0.follows.seq in
    let b = h.0.follows.place in
    All-cons (λ r. IsEarlier q r) p ps (a, b)
    (All-weaker (λ r. IsEarlier p r) (λ r. IsEarlier q r) (λ r k. let c = k.0 in let d = k.1 in (omega (arith, a, c), omega (arith, b, d))) ps (all_behind p ps h.1))

-- Where a segment stands.
pub record Splits (placed : List Placed) (p : Placed) : Type 0 where
  pub before : List Placed
  pub after : List Placed
  pub split : placed ≡ before ++ p ∷ after
  pub earlier : All (λ q. IsEarlier q p) before
  pub later : All (λ q. IsEarlier p q) after

pub split_at : (o : Option Placed) (placed : List Placed) → AreInPlace o placed → (p : Placed) → Contains placed p → Splits placed p
split_at o [] h p m = absurd (none_contained p m)
split_at o (x ∷ xs) h p m = ⊎_elim
    (λ (e : x ≡ p). record {
      before = [];
      after = xs;
      split = ap (λ (y : Placed). y ∷ xs) e;
      earlier = All-nil (λ q. IsEarlier q p);
      later = subst (λ (y : Placed). All (λ q. IsEarlier y q) xs) e (all_behind x xs h.1);
    })
    (λ (k : Contains xs p). let s = split_at (Some x) xs h.1 p k in record {
      before = x ∷ s.before;
      after = s.after;
      split = ap (λ (ys : List Placed). x ∷ ys) s.split;
      earlier = All-cons (λ q. IsEarlier q p) x s.before (All-contains (λ r. IsEarlier x r) xs p (all_behind x xs h.1) k) s.earlier;
      later = s.later;
    })
    (contains_cases x xs p m)

-- One of two is the other, comes before it or behind it.
pub which_first : (placed : List Placed) → AreInOrder placed → (p q : Placed) → Contains placed p → Contains placed q → (p ≡ q) ⊎ (IsEarlier q p ⊎ IsEarlier p q)
which_first placed order p q m n =
    let s = split_at None placed order p m in
    ⊎_elim
    (λ (k : Contains s.before q). inr (inl (All-contains (λ q. IsEarlier q p) s.before q s.earlier k)))
    (λ (k : Contains (p ∷ s.after) q). ⊎_elim
    (λ (e : p ≡ q). inl e)
    (λ (l : Contains s.after q). inr (inr (All-contains (λ q. IsEarlier p q) s.after q s.later l)))
    (contains_cases p s.after q k))
    (Contains-append_cases s.before (p ∷ s.after) q (subst (λ (ps : List Placed). Contains ps q) s.split n))

-- A segment without records is the newest.
pub empty_last : (o : Option Placed) (placed : List Placed) → AreInPlace o placed → (p : Placed) → Contains placed p → HasNone p → last placed ≡ Some p
empty_last o [] h p m none = absurd (none_contained p m)
empty_last o (x ∷ []) h p m none = ⊎_elim
    (λ (e : x ≡ p). ap (λ (y : Placed). Some y) e)
    (λ (k : Contains [] p). absurd (none_contained p k))
    (contains_cases x [] p m)
empty_last o (x ∷ y ∷ ys) h p m none = ⊎_elim
    (λ (e : x ≡ p). absurd (has_records x y ys h.0.precedes (subst HasNone (sym e) none)))
    (λ (k : Contains (y ∷ ys) p). empty_last (Some x) (y ∷ ys) h.1 p k none)
    (contains_cases x (y ∷ ys) p m)

-- None comes behind the newest.
pub newest_greatest : (placed : List Placed) → AreInOrder placed → (n : Placed) → last placed ≡ Some n → (q : Placed) → Contains placed q → seq_of q ≤ seq_of n
newest_greatest placed order n is q m =
    let lt = All-contains (λ p. seq_of p < next_seq (last placed)) placed q (seqs_below placed order) m in
    let same : next_seq (last placed) ≡ suc (seq_of n) = ap next_seq is in
    omega (arith, lt, same)

pub not_before_empty : (placed : List Placed) → AreInOrder placed → (p q : Placed) → Contains placed p → Contains placed q → IsEarlier q p → HasNone q → ⊥
not_before_empty placed order p q m n e none =
    let le = newest_greatest placed order q (empty_last None placed order q n none) p m in
    let lt = e.0 in omega (arith, le, lt)
