-- The first slot of the order that may answer, and that none does.
use Rattle.std.proofs.Common.{◌≡◌, ◌⊎◌, ◌<◌, ◌≤◌, ◌+◌, ◌*◌, ◌^◌, ℕ, true, false, List, length, get_or, Option, Some, None, ⊎_elim, sym, ap, ◌∙◌, subst, arith}
use Rattle.std.proofs.lemmas.Bool.{cases_order, cases_lt, cases_eq, false≢true}
use Rattle.std.proofs.lemmas.Option.{same_Some}
use Rattle.vdr_terms.specs.Queries.{Query, Span, meets}
use Rattle.vdr_index.specs.declared.known.Known.{Known}
use Rattle.vdr_index.specs.Indexes.{IsAbove, IsCandidate, Keeps, MayAnswer, summary_of}
use Rattle.vdr_index.specs.Keys.{key_of, key_in, IsOrdered, NoneOf}
use Rattle.vdr_index.proofs.Ranks.{Stands, place_of, keeps_lt, low_slot, key_kept}

module _ (kept : List (Option Known)) (order : List ℕ) (o : IsOrdered kept order) (query : Query) (span : Span) (after : Option ℕ) (n : ℕ) (none : NoneOf kept order query span after n) where
  -- what may answer stands from n on
  behind : (slot : ℕ) (k : Known) → Keeps kept slot k → MayAnswer query span after k → (i : ℕ) × Stands kept order o slot i × (n ≤ i)
  behind slot k at may =
      let p : (i : ℕ) × Stands kept order o slot i = place_of kept order o slot (keeps_lt kept order o slot k at) in
      ⊎_elim
      (λ (l : p.0 < n). absurd (none p.0 0 k l (subst (λ (j : ℕ). Keeps kept j k) (sym (p.1.is 0)) at) may))
      (λ (l : n ≤ p.0). let r : (i : ℕ) × Stands kept order o slot i × (n ≤ i) = (p.0, p.1, l) in r)
      (cases_lt p.0 n)

  -- none, where all were looked at
  pub none_past : length order ≤ n → (slot : ℕ) (k : Known) → Keeps kept slot k → MayAnswer query span after k → ⊥
  none_past past slot k at may =
      let b = behind slot k at may in let w : b.0 < length order = b.1.within in let l : n ≤ b.0 = b.2 in omega (arith, past, w, l)

  -- none, where a clear slot stands there
  pub none_clear : (here : ℕ) → n < length order → ((d : ℕ) → get_or order n d ≡ here) → get_or kept here None ≡ None → (slot : ℕ) (k : Known) → Keeps kept slot k → MayAnswer query span after k → ⊥
  none_clear here lt is clear slot k at may =
      let b = behind slot k at may in
      let w : b.0 < length order = b.1.within in
      let l : n ≤ b.0 = b.2 in
      let high : key_in kept (get_or order n 0) ≡ 2 ^ 64 * 2 ^ 32 + here = ap (key_in kept) (is 0) ∙ ap (key_of here) clear in
      let seq : key_in kept (get_or order b.0 0) ≡ k.seq * 2 ^ 32 + slot = ap (key_in kept) (b.1.is 0) ∙ key_kept kept order o slot k at in
      let low : k.seq < 2 ^ 64 = o.low slot k at in
      let last : slot < 2 ^ 32 = low_slot kept order o slot k at in
      ⊎_elim
      (λ (same : n ≡ b.0). let e : key_in kept (get_or order n 0) ≡ key_in kept (get_or order b.0 0) = ap (λ (j : ℕ). key_in kept (get_or order j 0)) same in omega (arith, e, high, seq, low, last))
      (λ (h : (n < b.0) ⊎ (b.0 < n)). ⊎_elim
      (λ (up : n < b.0). let r : key_in kept (get_or order n 0) < key_in kept (get_or order b.0 0) = o.rises n b.0 0 up w in omega (arith, r, high, seq, low, last))
      (λ (down : b.0 < n). omega (arith, down, l))
      h)
      (cases_order n b.0)

  -- the one that stands there
  pub first_found : (here : ℕ) (known : Known) → n < length order → ((d : ℕ) → get_or order n d ≡ here) → Keeps kept here known → IsAbove after known.seq → meets query span (summary_of known) ≡ true → IsCandidate kept query span after here
  first_found here known lt is at above meets_it = record {
    known = known;
    there = at;
    may = record { above = above; meets_it = meets_it };
    least = λ slot k at_k may.
        let b = behind slot k at_k may in
        let w : b.0 < length order = b.1.within in
        let l : n ≤ b.0 = b.2 in
        let mine_low : here < 2 ^ 32 = low_slot kept order o here known at in
        let last : slot < 2 ^ 32 = low_slot kept order o slot k at_k in
        let mine : key_in kept (get_or order n 0) ≡ known.seq * 2 ^ 32 + here = ap (key_in kept) (is 0) ∙ key_kept kept order o here known at in
        let seq : key_in kept (get_or order b.0 0) ≡ k.seq * 2 ^ 32 + slot = ap (key_in kept) (b.1.is 0) ∙ key_kept kept order o slot k at_k in
        ⊎_elim
        (λ (same : n ≡ b.0). let e : key_in kept (get_or order n 0) ≡ key_in kept (get_or order b.0 0) = ap (λ (j : ℕ). key_in kept (get_or order j 0)) same in omega (arith, e, mine, seq, mine_low, last))
        (λ (h : (n < b.0) ⊎ (b.0 < n)). ⊎_elim
        (λ (up : n < b.0). let r : key_in kept (get_or order n 0) < key_in kept (get_or order b.0 0) = o.rises n b.0 0 up w in omega (arith, r, mine, seq, mine_low, last))
        (λ (down : b.0 < n). absurd (omega (arith, down, l)))
        h)
        (cases_order n b.0);
  }

  -- nor the one that stands there, where it does not meet the query
  pub none_more : (here : ℕ) (known : Known) → n < length order → ((d : ℕ) → get_or order n d ≡ here) → Keeps kept here known → meets query span (summary_of known) ≡ false → NoneOf kept order query span after (n + 1)
  none_more here known lt is at fails i d k le keeps may = ⊎_elim
      (λ (same : i ≡ n).
      let there : Keeps kept here k = subst (λ (j : ℕ). Keeps kept j k) (ap (λ (m : ℕ). get_or order m d) same ∙ is d) keeps in
      let one : known ≡ k = same_Some known k (same_Some (Some known) (Some k) (sym at ∙ there)) in
      absurd (false≢true (sym fails ∙ ap (λ (x : Known). meets query span (summary_of x)) one ∙ may.meets_it)))
      (λ (ne : i ≡ n → ⊥). none i d k (omega (arith, le, ne)) keeps may)
      (cases_eq i n)
