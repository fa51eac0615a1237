-- Entries in order of their keys: where a key stands, and what a look-up finds once one more entry is there.
use Rattle.std.proofs.Common.{◌≡◌, ◌⊎◌, ◌<◌, ◌≤◌, ◌+◌, ◌∙◌, ℕ, zero, suc, Bool, true, false, cond, true≢false, List, [], ◌∷◌, length, get_or, set, Some, None, refl, sym, ap, subst, arith, ⊎_elim, inl, inr, Ordering, Less, Equal, Greater, is_eq, Result, Ok, Err, IfOk, IfErr, filter, if◌then◌else◌}
use Rattle.std.specs.List.{AllByRecursion, insert, slice_get}
use Rattle.std.specs.List.Sorted.{IsBinarySearchResult, IsNonDecreasingBy, IsSearchInRange, IsStrictlySortedBy}
use Rattle.std.specs.Ordering.{match_ordering, ordering_index, ordering_reverse}
use Rattle.std.specs.Cmp.{IsTotalOrder, Equal-is}
use Rattle.std.specs.Map.{keys_of, lookup}
use Rattle.std.specs.BTreeMap.{insert_entry, is_at}
use Rattle.std.proofs.lemmas.Bool.{cases_lt}
use Rattle.std.proofs.lemmas.Cmp.{alike_right, tied_back}
use Rattle.std.proofs.lemmas.Option.{get_or_from_slice_get, slice_get-get_or, slice_get_within, same_Some, none-some}
use Rattle.std.proofs.lemmas.Map.Entries.{lookup_at_gap}
use Rattle.vdr_ais.specs.Places.{ComesBehind, IsAt, IsGap}

same_twice : {Y : Type 0} (b c : Bool) (x y z : Y) → c ≡ b → cond b x z ≡ cond c x (cond b y z)
same_twice true true x y z e = refl
same_twice true false x y z e = absurd (true≢false (sym e))
same_twice false true x y z e = absurd (true≢false e)
same_twice false false x y z e = refl

not_both : {Y : Type 0} (b c : Bool) (x y z l : Y) → (b ≡ true → c ≡ true → ⊥) → l ≡ cond c x z → cond b y l ≡ cond c x (cond b y z)
not_both true true x y z l none e = absurd (none refl refl)
not_both true false x y z l none e = refl
not_both false c x y z l none e = e

module _ {K : Type 0} (cmp : K → K → Ordering) (total : IsTotalOrder cmp) where
  turned : (a b : K) (o : Ordering) → cmp a b ≡ o → cmp b a ≡ ordering_reverse o
  turned a b o is = total.antisymm b a ∙ ap ordering_reverse is

  all_less : (k : K) (ks : List K) (e : K) → cmp k e ≡ Less → AllByRecursion (λ y. cmp e y ≡ Less) ks → AllByRecursion (λ y. cmp k y ≡ Less) ks
  all_less k [] e lt all = tt
  all_less k (x ∷ ks) e lt all = (total.trans k e x lt all.0, all_less k ks e lt all.1)

module _ {K X : Type 0} (cmp : K → K → Ordering) where
  -- A fact of each key, at one of them.
  key_at : (P : K → Type 0) (es : List (K × X)) (i : ℕ) (e : K × X) → AllByRecursion P (keys_of es) → slice_get es i ≡ Some e → P e.0
  key_at P [] i e all at = absurd (none-some e at)
  key_at P (f ∷ es) zero e all at = subst P (ap (λ (x : K × X). x.0) (same_Some f e at)) all.0
  key_at P (f ∷ es) (suc i) e all at = key_at P es i e all.1 at

  -- Keys in order by their places.
  sorted_at : (es : List (K × X)) → IsStrictlySortedBy cmp (keys_of es) → (i j : ℕ) (a b : K × X) → i < j → slice_get es i ≡ Some a → slice_get es j ≡ Some b → cmp a.0 b.0 ≡ Less
  unfolding IsStrictlySortedBy
  sorted_at [] s i j a b lt p q = absurd (none-some a p)
  sorted_at (e ∷ es) s zero zero a b lt p q = absurd (omega (arith, lt))
  sorted_at (e ∷ es) s zero (suc j) a b lt p q = ap (λ (x : K × X). cmp x.0 b.0) (sym (same_Some e a p)) ∙ key_at (λ k. cmp e.0 k ≡ Less) es j b s.0 q
  sorted_at (e ∷ es) s (suc i) zero a b lt p q = absurd (omega (arith, lt))
  sorted_at (e ∷ es) s (suc i) (suc j) a b lt p q = sorted_at es s.1 i j a b (omega (arith, lt)) p q

  put_step : (k : K) (v : X) (e : K × X) (es : List (K × X)) (o : Ordering) → cmp k e.0 ≡ o → insert_entry cmp (e ∷ es) k v ≡ match_ordering o ((k, v) ∷ e ∷ es) ((e.0, v) ∷ es) (e ∷ insert_entry cmp es k v)
  put_step k v e es o is = ap (λ (r : Ordering). match_ordering r ((k, v) ∷ e ∷ es) ((e.0, v) ∷ es) (e ∷ insert_entry cmp es k v)) is

  later_behind : (order : K → Ordering) (e : K × X) (es : List (K × X)) (i : ℕ) → ComesBehind order (e ∷ es) (suc i) → ComesBehind order es i
  later_behind order e es i h j f lt at = h (suc j) f (omega (arith, lt)) at

  -- An entry of the key is there.
  put_over : (k : K) (v : X) (es : List (K × X)) (i : ℕ) (here : K × X) → ComesBehind (cmp k) es i → slice_get es i ≡ Some here → cmp k here.0 ≡ Equal → insert_entry cmp es k v ≡ set es i (here.0, v)
  put_over k v [] i here behind at same = absurd (none-some here at)
  put_over k v (e ∷ es) zero here behind at same =
      let is = same_Some e here at in
      put_step k v e es Equal (ap (λ (x : K × X). cmp k x.0) is ∙ same) ∙ ap (λ (x : K × X). (x.0, v) ∷ es) is
  put_over k v (e ∷ es) (suc i) here behind at same =
      put_step k v e es Greater (behind zero e (omega arith) refl) ∙ ap (λ (xs : List (K × X)). e ∷ xs) (put_over k v es i here (later_behind (cmp k) e es i behind) at same)

  -- None is.
  put_between : (k : K) (v : X) (es : List (K × X)) (i : ℕ) → i ≤ length es → ComesBehind (cmp k) es i → ((e : K × X) → slice_get es i ≡ Some e → cmp k e.0 ≡ Less) → insert_entry cmp es k v ≡ insert es i (k, v)
  put_between k v [] zero within behind before = refl
  put_between k v [] (suc i) within behind before = absurd (omega (arith, within))
  put_between k v (e ∷ es) zero within behind before = put_step k v e es Less (before e refl)
  put_between k v (e ∷ es) (suc i) within behind before =
      put_step k v e es Greater (behind zero e (omega arith) refl) ∙ ap (λ (xs : List (K × X)). e ∷ xs) (put_between k v es i (omega (arith, within)) (later_behind (cmp k) e es i behind) before)

  pub put_at : (k : K) (v : X) (es : List (K × X)) (i : ℕ) (here : K × X) → IsAt (cmp k) es i → slice_get es i ≡ Some here → insert_entry cmp es k v ≡ set es i (here.0, v)
  put_at k v es i here p at = put_over k v es i here p.behind at (p.here here at)

  pub put_in : (k : K) (v : X) (es : List (K × X)) (i : ℕ) → IsGap (cmp k) es i → insert_entry cmp es k v ≡ insert es i (k, v)
  put_in k v es i p = put_between k v es i p.within p.behind p.before

  -- What a look-up of another key finds.
  look_step : (q : K) (e : K × X) (es : List (K × X)) (o : Ordering) → cmp q e.0 ≡ o → lookup (is_at (cmp q)) (e ∷ es) ≡ cond (is_eq o) (Some e.1) (lookup (is_at (cmp q)) es)
  look_step q e es o is = ap (λ (r : Ordering). cond (is_eq r) (Some e.1) (lookup (is_at (cmp q)) es)) is

  module _ (total : IsTotalOrder cmp) where
    pub behind_more : (k : K) (es : List (K × X)) → IsStrictlySortedBy cmp (keys_of es) → (m : ℕ) (here : K × X) → slice_get es m ≡ Some here → cmp k here.0 ≡ Greater → ComesBehind (cmp k) es (m + 1)
    behind_more k es s m here at more j e lt is = ⊎_elim same earlier cases
      where
        cases : (j ≡ m) ⊎ (j < m)
        cases = ⊎_elim (λ less. inr less) (λ most. inl (omega (arith, lt, most))) (cases_lt j m)

        same : j ≡ m → cmp k e.0 ≡ Greater
        same p = ap (λ (x : K × X). cmp k x.0) (same_Some e here (sym is ∙ (ap (slice_get es) p ∙ at))) ∙ more

        earlier : j < m → cmp k e.0 ≡ Greater
        earlier l = turned cmp total e.0 k Less (total.trans e.0 here.0 k (sorted_at es s j m e here l is at) (turned cmp total k here.0 Greater more))

    pub behind_own : (k : K) (es : List (K × X)) → IsStrictlySortedBy cmp (keys_of es) → (m : ℕ) (here : K × X) → slice_get es m ≡ Some here → cmp k here.0 ≡ Equal → ComesBehind (cmp k) es m
    behind_own k es s m here at same j e lt is = turned cmp total e.0 k Less (alike_right total k here.0 e.0 same ∙ sorted_at es s j m e here lt is at)

    -- What stands at the place of a key.
    pub own_at : (k : K) (es : List (K × X)) (m : ℕ) (here e : K × X) (o : Ordering) → slice_get es m ≡ Some here → cmp k here.0 ≡ o → slice_get es m ≡ Some e → cmp k e.0 ≡ o
    own_at k es m here e o at is found = ap (λ (x : K × X). cmp k x.0) (same_Some e here (sym found ∙ at)) ∙ is

    -- A look-up finds the value that was put there at its key, and else what it found before.
    pub lookup_with : (k q : K) (v : X) (es : List (K × X)) → lookup (is_at (cmp q)) (insert_entry cmp es k v) ≡ (if is_eq (cmp q k) then Some v else lookup (is_at (cmp q)) es)
    lookup_with k q v [] = refl
    lookup_with k q v (e ∷ es) = go (cmp k e.0) refl (lookup_with k q v es)
      where
        go : (o : Ordering) → cmp k e.0 ≡ o → lookup (is_at (cmp q)) (insert_entry cmp es k v) ≡ (if is_eq (cmp q k) then Some v else lookup (is_at (cmp q)) es)
            → lookup (is_at (cmp q)) (match_ordering o ((k, v) ∷ e ∷ es) ((e.0, v) ∷ es) (e ∷ insert_entry cmp es k v)) ≡ (if is_eq (cmp q k) then Some v else lookup (is_at (cmp q)) (e ∷ es))
        go Less is later = refl
        go Equal is later = same_twice (is_eq (cmp q e.0)) (is_eq (cmp q k)) (Some v) (Some e.1) (lookup (is_at (cmp q)) es) (ap is_eq (alike_right total k e.0 q is))
        go Greater is later = not_both (is_eq (cmp q e.0)) (is_eq (cmp q k)) (Some v) (Some e.1) (lookup (is_at (cmp q)) es) (lookup (is_at (cmp q)) (insert_entry cmp es k v)) both later
          where
            both : is_eq (cmp q e.0) ≡ true → is_eq (cmp q k) ≡ true → ⊥
            both f g = true≢false (sym f ∙ ap is_eq (total.congr q k e.0 ((Equal-is (cmp q k)).0 g) ∙ is))

    sorted_all : (P : K → Type 0) (k : K) (v : X) (es : List (K × X)) → P k → AllByRecursion P (keys_of es) → AllByRecursion P (keys_of (insert_entry cmp es k v))
    sorted_all P k v [] p all = (p, tt)
    sorted_all P k v (e ∷ es) p all = go (cmp k e.0) (sorted_all P k v es p all.1)
      where
        go : (o : Ordering) → AllByRecursion P (keys_of (insert_entry cmp es k v)) → AllByRecursion P (keys_of (match_ordering o ((k, v) ∷ e ∷ es) ((e.0, v) ∷ es) (e ∷ insert_entry cmp es k v)))
        go Less later = (p, all)
        go Equal later = all
        go Greater later = (all.0, later)

    -- The keys stay in order.
    pub sorted_with : (k : K) (v : X) (es : List (K × X)) → IsStrictlySortedBy cmp (keys_of es) → IsStrictlySortedBy cmp (keys_of (insert_entry cmp es k v))
    unfolding IsStrictlySortedBy
    sorted_with k v [] s = (tt, tt)
    sorted_with k v (e ∷ es) s = go (cmp k e.0) refl (sorted_with k v es s.1)
      where
        go : (o : Ordering) → cmp k e.0 ≡ o → IsStrictlySortedBy cmp (keys_of (insert_entry cmp es k v)) → IsStrictlySortedBy cmp (keys_of (match_ordering o ((k, v) ∷ e ∷ es) ((e.0, v) ∷ es) (e ∷ insert_entry cmp es k v)))
        go Less is later = ((is, all_less cmp total k (keys_of es) e.0 is s.0), s)
        go Equal is later = s
        go Greater is later = (sorted_all (λ y. cmp e.0 y ≡ Less) k v es (turned cmp total k e.0 Greater is) s.0, later)

    -- What stands at its place is found.
    pub look_at : (k : K) (es : List (K × X)) (i : ℕ) (here : K × X) → IsAt (cmp k) es i → slice_get es i ≡ Some here → lookup (is_at (cmp k)) es ≡ Some here.1
    look_at k es i here p at = go es i p.behind at (p.here here at)
      where
        go : (es : List (K × X)) (i : ℕ) → ComesBehind (cmp k) es i → slice_get es i ≡ Some here → cmp k here.0 ≡ Equal → lookup (is_at (cmp k)) es ≡ Some here.1
        go [] i behind at same = absurd (none-some here at)
        go (e ∷ es) zero behind at same = let is = same_Some e here at in look_step k e es Equal (ap (λ (x : K × X). cmp k x.0) is ∙ same) ∙ ap (λ (x : K × X). Some x.1) is
        go (e ∷ es) (suc i) behind at same = look_step k e es Greater (behind zero e (omega arith) refl) ∙ go es i (later_behind (cmp k) e es i behind) at same

    pub look_gap : (k : K) (es : List (K × X)) (i : ℕ) → IsStrictlySortedBy cmp (keys_of es) → IsGap (cmp k) es i → lookup (is_at (cmp k)) es ≡ None
    look_gap k es i s p = lookup_at_gap total k es i s p.behind p.before

-- What a search finds among entries in order.
pub at_some : {E : Type 0} (es : List E) (i : ℕ) → i < length es → (e : E) × (slice_get es i ≡ Some e)
at_some [] i lt = absurd (omega (arith, lt))
at_some (e ∷ es) zero lt = (e, refl)
at_some (e ∷ es) (suc i) lt = at_some es i (omega (arith, lt))

module _ {K X : Type 0} (cmp : K → K → Ordering) (total : IsTotalOrder cmp) (k : K) (es : List (K × X)) (s : IsStrictlySortedBy cmp (keys_of es)) where
  rises : IsNonDecreasingBy (λ (e : K × X). ordering_index (cmp e.0 k)) es
  rises i j d le lt = ⊎_elim apart same (cases_lt i j)
    where
      a : K × X
      a = get_or es i d

      b : K × X
      b = get_or es j d

      same : j ≤ i → ordering_index (cmp a.0 k) ≤ ordering_index (cmp b.0 k)
      same ge = let is : i ≡ j = omega (arith, le, ge) in subst (λ n. ordering_index (cmp a.0 k) ≤ ordering_index (cmp (get_or es n d).0 k)) is (omega arith)

      apart : i < j → ordering_index (cmp a.0 k) ≤ ordering_index (cmp b.0 k)
      apart less = go (cmp a.0 k) refl
        where
          before : cmp a.0 b.0 ≡ Less
          before = sorted_at cmp es s i j a b less (slice_get-get_or es i d (omega (arith, less, lt))) (slice_get-get_or es j d lt)

          go : (o : Ordering) → cmp a.0 k ≡ o → ordering_index o ≤ ordering_index (cmp b.0 k)
          go Less is = omega arith
          go Equal is = let after : cmp b.0 k ≡ Greater = turned cmp total k b.0 Less (sym (total.congr a.0 k b.0 is) ∙ before) in subst (λ o. 1 ≤ ordering_index o) (sym after) (omega arith)
          go Greater is =
              let after : cmp b.0 k ≡ Greater = turned cmp total k b.0 Less (total.trans k a.0 b.0 (turned cmp total a.0 k Greater is) before) in subst (λ o. 2 ≤ ordering_index o) (sym after) (omega arith)

  pub searched : (r : Result ℕ ℕ) → IsSearchInRange r (length es) → IsBinarySearchResult (λ (e : K × X). cmp e.0 k) es r → IfOk r (IsAt (cmp k) es) × IfErr r (IsGap (cmp k) es)
  searched (Ok i) within equal =
      let here = at_some es i within in
      let same : cmp k here.0.0 ≡ Equal = tied_back total here.0.0 k (subst (λ (e : K × X). cmp e.0 k ≡ Equal) (get_or_from_slice_get es i here.0 here.0 here.1) (equal here.0)) in
      (record { within = within; behind = behind_own cmp total k es s i here.0 here.1 same; here = λ e at. own_at cmp total k es i here.0 e Equal here.1 same at }, tt)
  searched (Err i) within parted =
      let parts = parted rises in (
        tt,
        record {
          within = within;
          behind = λ j e lt at. turned cmp total e.0 k Less (subst (λ (x : K × X). cmp x.0 k ≡ Less) (get_or_from_slice_get es j e e at) (parts.0 j e (omega arith) lt));
          before = λ e at. turned cmp total e.0 k Greater (subst (λ (x : K × X). cmp x.0 k ≡ Greater) (get_or_from_slice_get es i e e at) (parts.1 i e (omega arith) (slice_get_within es i e at)));
        },
      )

-- An entry that fails a test does not show among those that pass it.
pub filter_insert : {E : Type 0} (p : E → Bool) (x : E) → p x ≡ false → (es : List E) (i : ℕ) → filter p (insert es i x) ≡ filter p es
filter_insert p x fails es zero = ap (λ b. cond b (x ∷ filter p es) (filter p es)) fails
filter_insert p x fails [] (suc i) = ap (λ b. cond b (x ∷ []) []) fails
filter_insert p x fails (e ∷ es) (suc i) = ap (λ xs. cond (p e) (e ∷ xs) xs) (filter_insert p x fails es i)
