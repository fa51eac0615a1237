-- The first slot of the order that passes a test, the last one that has a segment, and the first one that is clear.
use Rattle.std.proofs.Common.{◌≡◌, ◌≢◌, ◌⊎◌, ◌<◌, ◌≤◌, ◌+◌, ◌-◌, ◌*◌, ◌^◌, ℕ, zero, suc, Bool, true, false, cond, not, List, [], ◌∷◌, length, drop, find, get_or, slice_get, Option, Some, None, ⊎_elim, refl, sym, ap, ◌∙◌, subst, arith, length-drop}
use Rattle.std.specs.Prelude.{◌==◌, IfNone, IfSome}
use Rattle.std.proofs.lemmas.Bool.{cases_lt, eq-eqb, eqb-true, false≢true, true≢false}
use Rattle.std.proofs.lemmas.List.{get_or_default, get_or-drop}
use Rattle.std.proofs.lemmas.Option.{none-some, same_Some, slice_get_within, get_or_from_slice_get}
use Rattle.vdr_index.specs.declared.known.Known.{Known}
use Rattle.vdr_index.specs.Indexes.{IsAbove, IsFirst, IsFirstClear, IsNewest, IsNextAbove, Keeps, passes_by}
use Rattle.vdr_index.specs.Keys.{key_of, key_in, IsOrdered, IsRank, AreKept, is_other}
use Rattle.vdr_index.proofs.Ranks.{Stands, place_of, keeps_at, keeps_lt, low_slot, seqs_rise, keys_rise}

-- Where the first element that passes stands

pub record FindsAt {X : Type 0} (p : X → Bool) (xs : List X) (x : X) : Type 0 where
  pub index : ℕ
  pub at : slice_get xs index ≡ Some x
  pub passes : p x ≡ true
  pub before : (j : ℕ) (d : X) → j < index → p (get_or xs j d) ≡ false

pub found_at : {X : Type 0} (p : X → Bool) (xs : List X) (x : X) → find p xs ≡ Some x → FindsAt p xs x
found_at {X} p [] x is = absurd (none-some x is)
found_at {X} p (y ∷ ys) x is = go (λ same. found_at p ys x same) (p y) refl is
  where
    more : p y ≡ false → (f : FindsAt p ys x) → (j : ℕ) (d : X) → j < suc f.index → p (get_or (y ∷ ys) j d) ≡ false
    more e f zero d lt = e
    more e f (suc j) d lt = f.before j d (omega (arith, lt))

    go : (find p ys ≡ Some x → FindsAt p ys x) → (b : Bool) → p y ≡ b → cond b (Some y) (find p ys) ≡ Some x → FindsAt p (y ∷ ys) x
    go rest true e same = record { index = 0; at = same; passes = ap p (sym (same_Some y x same)) ∙ e; before = λ j d lt. absurd (omega (arith, lt)) }
    go rest false e same = let f = rest same in record { index = suc f.index; at = f.at; passes = f.passes; before = more e f }

pub found_none : {X : Type 0} (p : X → Bool) (xs : List X) → find p xs ≡ None → (j : ℕ) (d : X) → j < length xs → p (get_or xs j d) ≡ false
found_none {X} p [] is j d lt = absurd (omega (arith, lt))
found_none {X} p (y ∷ ys) is j d lt = go (λ same k below. found_none p ys same k d below) (p y) refl is j lt
  where
    go : (find p ys ≡ None → (k : ℕ) → k < length ys → p (get_or ys k d) ≡ false) → (b : Bool) → p y ≡ b → cond b (Some y) (find p ys) ≡ None → (j : ℕ) → j < suc (length ys) → p (get_or (y ∷ ys) j d) ≡ false
    go rest true e same j lt = absurd (none-some y (sym same))
    go rest false e same zero lt = e
    go rest false e same (suc j) lt = rest same j (omega (arith, lt))

passed_known : (test : Known → Bool) (o : Option Known) → passes_by test o ≡ true → (k : Known) × (o ≡ Some k) × (test k ≡ true)
passed_known test None is = absurd (false≢true is)
passed_known test (Some k) is = (k, refl, is)

module _ (kept : List (Option Known)) (order : List ℕ) (o : IsOrdered kept order) where
  at_index : (i slot : ℕ) → slice_get order i ≡ Some slot → Stands kept order o slot i
  at_index i slot at = record { within = slice_get_within order i slot at; is = λ d. get_or_from_slice_get order i slot d at }

  -- A test of what is known

  module _ (test : Known → Bool) where
    pub first_passes : (slot : ℕ) → find (λ j. passes_by test (get_or kept j None)) order ≡ Some slot → IsFirst kept test slot
    first_passes slot is =
        let f : FindsAt (λ j. passes_by test (get_or kept j None)) order slot = found_at (λ j. passes_by test (get_or kept j None)) order slot is in
        let k = passed_known test (get_or kept slot None) f.passes in
        let here : Keeps kept slot k.0 = keeps_at kept slot k.0 k.1 in
        record {
          known = k.0;
          there = here;
          passed = k.2;
          least = λ other l at passes.
              let p : (i : ℕ) × Stands kept order o other i = place_of kept order o other (keeps_lt kept order o other l at) in
              ⊎_elim
              (λ (lt : p.0 < f.index).
              let fails : passes_by test (get_or kept other None) ≡ false = ap (λ (j : ℕ). passes_by test (get_or kept j None)) (sym (p.1.is 0)) ∙ f.before p.0 0 lt in
              absurd (false≢true (sym fails ∙ ap (passes_by test) (get_or_from_slice_get kept other (Some l) None at) ∙ passes)))
              (λ (le : f.index ≤ p.0). seqs_rise kept order o f.index p.0 slot other k.0 l (at_index f.index slot f.at) p.1 le here at)
              (cases_lt p.0 f.index);
        }

    pub none_passes : find (λ j. passes_by test (get_or kept j None)) order ≡ None → (slot : ℕ) (k : Known) → Keeps kept slot k → test k ≡ true → ⊥
    none_passes is slot k at passes =
        let p : (i : ℕ) × Stands kept order o slot i = place_of kept order o slot (keeps_lt kept order o slot k at) in
        let fails : passes_by test (get_or kept slot None) ≡ false = ap (λ (j : ℕ). passes_by test (get_or kept j None)) (sym (p.1.is 0)) ∙ found_none (λ j. passes_by test (get_or kept j None)) order is p.0 0 p.1.within in
        false≢true (sym fails ∙ ap (passes_by test) (get_or_from_slice_get kept slot (Some k) None at) ∙ passes)

    -- what is found of the order
    pub first_some : (r : Option ℕ) → r ≡ find (λ j. passes_by test (get_or kept j None)) order → IfSome r (IsFirst kept test)
    first_some None is = tt
    first_some (Some slot) is = first_passes slot (sym is)

    pub first_none : (r : Option ℕ) → r ≡ find (λ j. passes_by test (get_or kept j None)) order → IfNone r ((slot : ℕ) (k : Known) → Keeps kept slot k → test k ≡ true → ⊥)
    first_none None is = none_passes (sym is)
    first_none (Some slot) is = tt

  -- Which is the next

  module _ (after : Option ℕ) (n : ℕ) (below : (i d : ℕ) (k : Known) → i < n → Keeps kept (get_or order i d) k → IsAbove after k.seq → ⊥)
      (above : (i d : ℕ) (k : Known) → n ≤ i → i < length order → Keeps kept (get_or order i d) k → IsAbove after k.seq) where
    -- what is above stands from n on
    behind : (slot : ℕ) (k : Known) → Keeps kept slot k → IsAbove after k.seq → (i : ℕ) × Stands kept order o slot i × (n ≤ i)
    behind slot k at up =
        let p : (i : ℕ) × Stands kept order o slot i = place_of kept order o slot (keeps_lt kept order o slot k at) in
        ⊎_elim
        (λ (lt : p.0 < n). absurd (below p.0 0 k lt (subst (λ (j : ℕ). Keeps kept j k) (sym (p.1.is 0)) at) up))
        (λ (le : n ≤ p.0). let r : (i : ℕ) × Stands kept order o slot i × (n ≤ i) = (p.0, p.1, le) in r)
        (cases_lt p.0 n)

    pub next_past : length order ≤ n → (slot : ℕ) (k : Known) → Keeps kept slot k → IsAbove after k.seq → ⊥
    next_past past slot k at up = let b = behind slot k at up in let w : b.0 < length order = b.1.within in let le : n ≤ b.0 = b.2 in omega (arith, past, w, le)

    pub next_clear : n < length order → get_or kept (get_or order n 0) None ≡ None → (slot : ℕ) (k : Known) → Keeps kept slot k → IsAbove after k.seq → ⊥
    next_clear lt clear slot k at up =
        let b = behind slot k at up in
        let low : k.seq < 2 ^ 64 = o.low slot k at in
        let small : slot < 2 ^ 32 = low_slot kept order o slot k at in
        let here : key_in kept (get_or order n 0) ≡ 2 ^ 64 * 2 ^ 32 + get_or order n 0 = ap (key_of (get_or order n 0)) clear in
        let there : key_in kept (get_or order b.0 0) ≡ k.seq * 2 ^ 32 + slot = ap (key_in kept) (b.1.is 0) ∙ ap (key_of slot) (get_or_from_slice_get kept slot (Some k) None at) in
        let r : key_in kept (get_or order n 0) ≤ key_in kept (get_or order b.0 0) = keys_rise kept order o n b.0 b.2 b.1.within in
        omega (arith, r, here, there, low, small)

    pub next_kept : (known : Known) → n < length order → get_or kept (get_or order n 0) None ≡ Some known → IsNextAbove kept after (get_or order n 0)
    next_kept known lt at =
        let here : Keeps kept (get_or order n 0) known = keeps_at kept (get_or order n 0) known at in
        record {
          known = known;
          there = here;
          above = above n 0 known (omega arith) lt here;
          least = λ other l at_l up.
              let b = behind other l at_l up in
              seqs_rise kept order o n b.0 (get_or order n 0) other known l (record { within = lt; is = λ d. get_or_default order n d 0 lt }) b.1 b.2 here at_l;
        }

  -- Which have a segment

  kept_below : (slot : ℕ) (x : Option Known) → key_of slot x < 2 ^ 64 * 2 ^ 32 → (k : Known) × (x ≡ Some k)
  kept_below slot None lt = absurd (omega (arith, lt))
  kept_below slot (Some k) lt = (k, refl)

  clear_above : (slot : ℕ) (x : Option Known) → get_or kept slot None ≡ x → 2 ^ 64 * 2 ^ 32 ≤ key_of slot x → x ≡ None
  clear_above slot None at le = refl
  clear_above slot (Some k) at le =
      let here : Keeps kept slot k = keeps_at kept slot k at in
      let low : k.seq < 2 ^ 64 = o.low slot k here in
      let small : slot < 2 ^ 32 = low_slot kept order o slot k here in absurd (omega (arith, le, low, small))

  pub are_kept : (key n : ℕ) → key ≡ 2 ^ 64 * 2 ^ 32 → IsRank kept order key n → AreKept kept order n
  are_kept key n is r = record {
    within = r.within;
    front = λ i d lt.
        let low = r.below i d lt in
        let k = kept_below (get_or order i d) (get_or kept (get_or order i d) None) (omega (arith, low, is)) in
        (k.0, keeps_at kept (get_or order i d) k.0 k.1);
    rest = λ i d le lt. let high = r.above i d le lt in clear_above (get_or order i d) (get_or kept (get_or order i d) None) refl (omega (arith, high, is));
  }

  module _ (n : ℕ) (are : AreKept kept order n) where
    -- a segment stands among the first n
    among : (slot : ℕ) (k : Known) → Keeps kept slot k → (i : ℕ) × Stands kept order o slot i × (i < n)
    among slot k at =
        let p : (i : ℕ) × Stands kept order o slot i = place_of kept order o slot (keeps_lt kept order o slot k at) in
        ⊎_elim
        (λ (lt : p.0 < n). let r : (i : ℕ) × Stands kept order o slot i × (i < n) = (p.0, p.1, lt) in r)
        (λ (le : n ≤ p.0). absurd (none-some k (sym (ap (λ (j : ℕ). get_or kept j None) (sym (p.1.is 0)) ∙ are.rest p.0 0 le p.1.within) ∙ get_or_from_slice_get kept slot (Some k) None at)))
        (cases_lt p.0 n)

    pub none_kept : n ≡ 0 → (slot : ℕ) (k : Known) → Keeps kept slot k → ⊥
    none_kept empty slot k at = let a = among slot k at in let lt : a.0 < n = a.2 in omega (arith, lt, empty)

    pub newest_kept : (n ≡ 0 → ⊥) → IsNewest kept (get_or order (n - 1) 0)
    newest_kept some =
        let w = are.within in
        let k = are.front (n - 1) 0 (omega (arith, some)) in
        record {
          known = k.0;
          there = k.1;
          greatest = λ other l at.
              let a = among other l at in
              let lt : a.0 < n = a.2 in
              seqs_rise kept order o a.0 (n - 1) other (get_or order (n - 1) 0) l k.0 a.1 (record { within = omega (arith, some, w); is = λ d. get_or_default order (n - 1) d 0 (omega (arith, some, w)) }) (omega (arith, lt)) at k.1;
        }

    -- a clear slot stands behind them
    after_them : (j : ℕ) → j < length kept → get_or kept j None ≡ None → (i : ℕ) × Stands kept order o j i × (n ≤ i)
    after_them j lt clear =
        let p : (i : ℕ) × Stands kept order o j i = place_of kept order o j lt in
        ⊎_elim
        (λ (lt : p.0 < n).
        let k = are.front p.0 0 lt in
        absurd (none-some k.0 (sym clear ∙ get_or_from_slice_get kept j (Some k.0) None (subst (λ (m : ℕ). Keeps kept m k.0) (p.1.is 0) k.1))))
        (λ (le : n ≤ p.0). let r : (i : ℕ) × Stands kept order o j i × (n ≤ i) = (p.0, p.1, le) in r)
        (cases_lt p.0 n)

    other_than : (but : Option ℕ) (j : ℕ) → is_other but j ≡ true → but ≢ Some j
    other_than None j is e = none-some j e
    other_than (Some one) j is e = false≢true (sym (ap not (eq-eqb j one (sym (same_Some one j e)))) ∙ is)

    not_false : (b : Bool) → not b ≡ false → b ≡ true
    not_false true e = refl
    not_false false e = absurd (true≢false e)

    is_it : (but : Option ℕ) (j : ℕ) → is_other but j ≡ false → but ≡ Some j
    is_it None j is = absurd (true≢false is)
    is_it (Some one) j is = ap (λ (m : ℕ). Some m) (sym (eqb-true j one (not_false (j == one) is)))

    dropped : (i d : ℕ) → get_or (drop n order) i d ≡ get_or order (n + i) d
    dropped i d = get_or-drop n order i d

    pub clear_some : (but r : Option ℕ) → r ≡ find (is_other but) (drop n order) → IfSome r (IsFirstClear kept but)
    clear_some but None is = tt
    clear_some but (Some slot) is =
        let f : FindsAt (is_other but) (drop n order) slot = found_at (is_other but) (drop n order) slot (sym is) in
        let here = slice_get_within (drop n order) f.index slot f.at in
        let long = length-drop n order in
        let within : n + f.index < length order = omega (arith, here, long) in
        let at : get_or order (n + f.index) 0 ≡ slot = sym (dropped f.index 0) ∙ get_or_from_slice_get (drop n order) f.index slot 0 f.at in
        let clear : get_or kept slot None ≡ None = ap (λ (j : ℕ). get_or kept j None) (sym at) ∙ are.rest (n + f.index) 0 (omega arith) within in
        let high : key_in kept (get_or order (n + f.index) 0) ≡ 2 ^ 64 * 2 ^ 32 + slot = ap (key_in kept) at ∙ ap (key_of slot) clear in
        let below : slot < length kept = subst (λ (j : ℕ). j < length kept) at (o.within (n + f.index) 0 within) in
        record {
          within = below;
          clear = clear;
          other = other_than but slot f.passes;
          least = λ j lt not_it none.
              let p = after_them j (omega (arith, lt, below)) none in
              let le : n ≤ p.0 = p.2 in
              ⊎_elim
              (λ (l : p.0 < n + f.index).
              let fails : is_other but j ≡ false = ap (is_other but) (sym (p.1.is 0) ∙ ap (λ (m : ℕ). get_or order m 0) (omega (arith, le)) ∙ sym (dropped (p.0 - n) 0)) ∙ f.before (p.0 - n) 0 (omega (arith, l, le)) in
              not_it (is_it but j fails))
              (λ (l : n + f.index ≤ p.0).
              let r : key_in kept (get_or order (n + f.index) 0) ≤ key_in kept (get_or order p.0 0) = keys_rise kept order o (n + f.index) p.0 l p.1.within in
              let mine : key_in kept (get_or order p.0 0) ≡ 2 ^ 64 * 2 ^ 32 + j = ap (key_in kept) (p.1.is 0) ∙ ap (key_of j) none in
              omega (arith, r, mine, high, lt))
              (cases_lt p.0 (n + f.index));
        }

    pub clear_none : (but r : Option ℕ) → r ≡ find (is_other but) (drop n order) → IfNone r ((j : ℕ) → j < length kept → but ≢ Some j → get_or kept j None ≢ None)
    clear_none but None is = λ j lt not_it none.
        let p = after_them j lt none in
        let le : n ≤ p.0 = p.2 in
        let w : p.0 < length order = p.1.within in
        let long = length-drop n order in
        let fails : is_other but j ≡ false = ap (is_other but) (sym (p.1.is 0) ∙ ap (λ (m : ℕ). get_or order m 0) (omega (arith, le)) ∙ sym (dropped (p.0 - n) 0))
        ∙ found_none (is_other but) (drop n order) (sym is) (p.0 - n) 0 (omega (arith, w, le, long)) in
        not_it (is_it but j fails)
    clear_none but (Some slot) is = tt

    pub clear_within : (but r : Option ℕ) → r ≡ find (is_other but) (drop n order) → IfSome r (λ slot. slot < length kept)
    clear_within but None is = tt
    clear_within but (Some slot) is = (clear_some but (Some slot) is).within
