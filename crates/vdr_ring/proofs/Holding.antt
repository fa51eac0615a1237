-- Which places stand in segments, as opening knows them, found by a walk over an index in its order.
use Rattle.std.proofs.Common.{◌≡◌, ◌<◌, ◌≤◌, ◌⊎◌, inl, inr, ⊎_elim, ℕ, ◌+◌, List, length, get_or, Contains, Option, Some, None, sym, ◌∙◌, ap, subst, arith}
use Rattle.std.specs.Prelude.{Any}
use Rattle.std.proofs.lemmas.Bool.{cases_eq, cases_lt}
use Rattle.std.proofs.lemmas.Option.{none-some, same_Some, get_or_from_slice_get}
use Rattle.std.proofs.lemmas.List.{get_or_default}
use Rattle.vdr_index.specs.declared.known.Known.{Known}
use Rattle.vdr_index.specs.Indexes.{Keeps}
use Rattle.vdr_index.specs.Keys.{IsOrdered}
use Rattle.vdr_index.proofs.Ranks.{Stands, keeps_at, keeps_lt, one_place, place_of, seqs_rise}
use Rattle.vdr_directory.specs.Sequence.{Placed, first_of}
use Rattle.vdr_directory.specs.Telling.{HasPlaceBy, HoldAllBy, IsEarlierBy, IsIndexedBy, IsKnownBy, RiseBy}
use Rattle.vdr_ring.proofs.ByKnowns.{IsInIndexBy, count_kept, in_index_by, placed_by, which_first}

-- The segment of which this is known has the place.
abbrev pub KnownHas : Known → ℕ → Type 0
KnownHas k place = (k.first ≤ place) × (place < k.first + k.summary.count)

has_by : (p : Placed) (k : Known) (place : ℕ) → IsKnownBy p k → KnownHas k place → HasPlaceBy place p
has_by p k place is h = let f = is.first in let c = count_kept p k is in let a = h.0 in let b = h.1 in record { from = omega (arith, f, a); below = omega (arith, f, c, b) }

-- What was found of the first i slots: the places before this one stand in segments, and none of theirs has this one.
pub record LeftAt (a place : ℕ) (known : List Placed) (order : List ℕ) (i : ℕ) : Type 0 where
  pub before : (k : ℕ) → a ≤ k → k < place → Any (HasPlaceBy k) known
  pub none : (j d : ℕ) (p : Placed) → j < i → Contains known p → p.slot ≡ get_or order j d → HasPlaceBy place p → ⊥

abbrev pub HasLeft : (a place : ℕ) (index : List (Option Known)) (order : List ℕ) (i : ℕ) → Type 0
HasLeft a place index order i = (count : ℕ) (known : List Placed) → IsIndexedBy count known index → RiseBy known → LeftAt a place known order i

pub left_all : (a : ℕ) (index : List (Option Known)) (order : List ℕ) → HasLeft a a index order 0
left_all a index order count known x rise = record { before = λ k from to. absurd (omega (arith, from, to)); none = λ j d p lt m at has. absurd (omega (arith, lt)) }

module _ (index : List (Option Known)) (order : List ℕ) (o : IsOrdered index order) (a place b i : ℕ) (within : i < length order) (left : HasLeft a place index order i) where
  abbrev here : ℕ
  here = get_or order i 0

  one_more : (count : ℕ) (known : List Placed) → IsIndexedBy count known index → RiseBy known → ((p : Placed) → Contains known p → p.slot ≡ here → HasPlaceBy place p → ⊥) → LeftAt a place known order (i + 1)
  one_more count known x rise not =
      let l = left count known x rise in
      record {
        before = l.before;
        none = λ j d p lt m at has. ⊎_elim
            (λ (e : j ≡ i). not p m (at ∙ ap (λ (n : ℕ). get_or order n d) e ∙ get_or_default order i d 0 within) has)
            (λ (ne : j ≡ i → ⊥). l.none j d p (omega (arith, lt, ne)) m at has)
            (cases_eq j i);
      }

  -- the slot is clear
  pub left_clear : get_or index here None ≡ None → HasLeft a place index order (i + 1)
  left_clear clear count known x rise = one_more count known x rise (λ p m at has. go p at has (in_index_by count known index x p m))
    where
      go : (p : Placed) → p.slot ≡ here → HasPlaceBy place p → IsInIndexBy index p → ⊥
      go p at has (inl (none, gone)) = let e = none in let f = has.from in let c = has.below in omega (arith, e, f, c)
      go p at has (inr (k, there, is)) = none-some k (sym clear ∙ ap (λ (j : ℕ). get_or index j None) (sym at) ∙ get_or_from_slice_get index p.slot (Some k) None there)

  module _ (k : Known) (at : get_or index here None ≡ Some k) where
    there : Keeps index here k
    there = keeps_at index here k at

    -- what is known of it is known of the segment in the slot
    is_of : (j count : ℕ) (known : List Placed) → IsIndexedBy count known index → RiseBy known → (p : Placed) → Contains known p → p.slot ≡ here → HasPlaceBy j p → KnownHas k j
    is_of j count known x rise p m slot has = go (in_index_by count known index x p m)
      where
        go : IsInIndexBy index p → KnownHas k j
        go (inl (none, clear)) = absurd (none-some k (sym clear ∙ ap (λ (j : ℕ). get_or index j None) slot ∙ at))
        go (inr (l, kept, is)) =
            let same : l ≡ k = same_Some l k (sym (get_or_from_slice_get index p.slot (Some l) None kept) ∙ ap (λ (j : ℕ). get_or index j None) slot ∙ at) in
            let f : l.first ≡ first_of p = is.first in
            let c = count_kept p l is in
            let from = has.from in
            let below = has.below in
            subst (λ (k : Known). KnownHas k j) same (omega (arith, f, from), omega (arith, f, c, below))

    pub left_still : (KnownHas k place → ⊥) → HasLeft a place index order (i + 1)
    left_still not count known x rise = one_more count known x rise (λ p m slot has. not (is_of place count known x rise p m slot has))

    -- it has the place, and all up to its last one
    up_to : (count : ℕ) (known : List Placed) (x : IsIndexedBy count known index) → RiseBy known → KnownHas k place → (j : ℕ) → a ≤ j → j < k.first + k.summary.count → Any (HasPlaceBy j) known
    up_to count known x rise has j from to = ⊎_elim
        (λ (lt : j < place). (left count known x rise).before j from lt)
        (λ (le : place ≤ j). let low = has.0 in anywhere (has_by p.0 k j p.3 (omega (arith, low, le), to)))
        (cases_lt j place)
      where
        p : (p : Placed) × Contains known p × (p.slot ≡ here) × IsKnownBy p k
        p = placed_by count known index x here k there

        anywhere : HasPlaceBy j p.0 → Any (HasPlaceBy j) known
        anywhere h = let m = p.1 in (m.0, p.0, m.1, m.2, h)

    pub left_found : KnownHas k place → place ≤ b → KnownHas k b → (count : ℕ) (known : List Placed) → IsIndexedBy count known index → RiseBy known → HoldAllBy a b known
    left_found has le end count known x rise j from to = up_to count known x rise has j from (let e = end.1 in omega (arith, to, e))

    pub left_next : KnownHas k place → HasLeft a (k.first + k.summary.count) index order (i + 1)
    left_next has count known x rise = record {
      before = λ j from to. up_to count known x rise has j from to;
      none = λ j d q lt m slot holds. ⊎_elim
          (λ (e : j ≡ i). let bad = (is_of (k.first + k.summary.count) count known x rise q m (slot ∙ ap (λ (n : ℕ). get_or order n d) e ∙ get_or_default order i d 0 within) holds).1 in omega (arith, bad))
          (λ (ne : j ≡ i → ⊥). sooner count known x rise q m (in_index_by count known index x q m) j d (omega (arith, lt, ne)) slot holds)
          (cases_eq j i);
    }
      where
        sooner : (count : ℕ) (known : List Placed) → (x : IsIndexedBy count known index) → RiseBy known → (q : Placed) → Contains known q → IsInIndexBy index q → (j d : ℕ) → j < i → q.slot ≡ get_or order j d → HasPlaceBy (k.first + k.summary.count) q → ⊥
        sooner count known x rise q m (inl (none, clear)) j d lt slot holds = let e = none in let f = holds.from in let c = holds.below in omega (arith, e, f, c)
        sooner count known x rise q m (inr (l, kept, is)) j d lt slot holds =
            let p = placed_by count known index x here k there in
            let stands_j : Stands index order o q.slot j = record { within = omega (arith, lt, within); is = λ e. get_or_default order j e d (omega (arith, lt, within)) ∙ sym slot } in
            let stands_i : Stands index order o here i = record { within = within; is = λ e. get_or_default order i e 0 within } in
            let le : l.seq ≤ k.seq = seqs_rise index order o j i q.slot here l k stands_j stands_i (omega (arith, lt)) kept there in
            ⊎_elim
            (λ (e : p.0 ≡ q).
            let same : j ≡ i = one_place index order o here j i (subst (λ (s : ℕ). Stands index order o s j) (sym (ap (λ (r : Placed). r.slot) e) ∙ p.2) stands_j) stands_i in omega (arith, same, lt))
            (λ (h : IsEarlierBy q p.0 ⊎ IsEarlierBy p.0 q). ⊎_elim
            (λ (s : IsEarlierBy q p.0).
            let end = s.1 in
            let below = holds.below in
            let first = p.3.first in omega (arith, end, below, first))
            (λ (s : IsEarlierBy p.0 q).
            let seqs = s.0 in
            let mine = p.3.seq in
            let theirs = is.seq in omega (arith, seqs, mine, theirs, le))
            h)
            (which_first known rise p.0 q p.1 m)

-- none has the place that is left
pub left_done : (index : List (Option Known)) (order : List ℕ) → IsOrdered index order → (a place b i : ℕ) → a ≤ place → place ≤ b → length order ≤ i → HasLeft a place index order i
    → (count : ℕ) (known : List Placed) → IsIndexedBy count known index → RiseBy known → HoldAllBy a b known → ⊥
left_done index order o a place b i from le past left count known x rise all =
    let h = all place from le in
    let m : Contains known h.1 = (h.0, h.2, h.3) in
    go h.1 m h.4 (in_index_by count known index x h.1 m)
  where
    go : (p : Placed) → Contains known p → HasPlaceBy place p → IsInIndexBy index p → ⊥
    go p m has (inl (none, clear)) = let e = none in let f = has.from in let c = has.below in omega (arith, e, f, c)
    go p m has (inr (k, kept, is)) =
        let s = place_of index order o p.slot (keeps_lt index order o p.slot k kept) in
        let lt : s.0 < length order = s.1.within in
        (left count known x rise).none s.0 0 p (omega (arith, lt, past)) m (sym (s.1.is 0)) has
