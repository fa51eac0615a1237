-- The open segments of the slots, in order, under each write of an append.
use Rattle.std.proofs.Common.{◌≡◌, ◌≢◌, ◌⊎◌, ◌<◌, ◌≤◌, ℕ, zero, suc, List, [], ◌∷◌, ◌++◌, length, set, slice_get, All, Contains, Option, Some, None, inl, inr, ⊎_elim, refl, sym, ap, ap₂, ◌∙◌, subst, arith}
use Rattle.std.proofs.lemmas.Bool.{cases_eq}
use Rattle.std.proofs.lemmas.Option.{none-some, same_Some, slice_get_within}
use Rattle.std.proofs.lemmas.List.Elements.{All-contains, All-append, All-cons, Contains-append_left, Contains-append_right, Contains-append_cases}
use Rattle.vdr_terms.specs.Records.{Record}
use Rattle.vdr_segment.specs.Segments.{Segment, with_batch}
use Rattle.vdr_durability.proofs.Lists.{none_contained, contains_here, contains_there, contains_cases, all_from}
use Rattle.vdr_directory.specs.Sequence.{Placed, seq_of, IsBefore, Rises, AreInSequence}
use Rattle.vdr_directory.specs.Growing.{new_segment, with_batch_in}

-- One slot is written

pub slice_get-set_same : {X : Type 0} (xs : List X) (i : ℕ) (x : X) → i < length xs → slice_get (set xs i x) i ≡ Some x
slice_get-set_same [] i x h = absurd (omega (arith, h))
slice_get-set_same (y ∷ ys) zero x h = refl
slice_get-set_same (y ∷ ys) (suc i) x h = slice_get-set_same ys i x (omega (arith, h))

pub slice_get-set_other : {X : Type 0} (xs : List X) (i j : ℕ) (x : X) → j ≢ i → slice_get (set xs i x) j ≡ slice_get xs j
slice_get-set_other [] i j x ne = refl
slice_get-set_other (y ∷ ys) zero zero x ne = absurd (ne refl)
slice_get-set_other (y ∷ ys) zero (suc j) x ne = refl
slice_get-set_other (y ∷ ys) (suc i) zero x ne = refl
slice_get-set_other (y ∷ ys) (suc i) (suc j) x ne = slice_get-set_other ys i j x (λ e. ne (ap suc e))

-- Rising lists, and their parts

pub rises_parts : (xs ys : List Placed) → Rises (xs ++ ys) → Rises xs × Rises ys × ((p q : Placed) → Contains xs p → Contains ys q → IsBefore p q)
rises_parts [] ys h = (tt, h, λ p q m n. absurd (none_contained p m))
rises_parts (x ∷ xs) ys (first, more) =
    let k = rises_parts xs ys more in (
      (all_from (IsBefore x) xs (λ z m. All-contains (IsBefore x) (xs ++ ys) z first (Contains-append_left xs ys z m)), k.0),
      k.1,
      λ p q m n. ⊎_elim
          (λ (e : x ≡ p). subst (λ (z : Placed). IsBefore z q) e (All-contains (IsBefore x) (xs ++ ys) q first (Contains-append_right xs ys q n)))
          (λ (l : Contains xs p). k.2 p q l n)
          (contains_cases x xs p m),
    )

pub rises_join : (xs ys : List Placed) → Rises xs → Rises ys → ((p q : Placed) → Contains xs p → Contains ys q → IsBefore p q) → Rises (xs ++ ys)
rises_join [] ys h k across = k
rises_join (x ∷ xs) ys (first, more) k across = (
  All-append (IsBefore x) xs ys first (all_from (IsBefore x) ys (λ q n. across x q (contains_here x xs) n)),
  rises_join xs ys more k (λ p q m n. across p q (contains_there x xs p m) n),
)

-- Of a sequence each has a slot of its own

abbrev IsThere : List (Option Segment) → Placed → Type 0
IsThere slots p = slice_get slots p.slot ≡ Some (Some p.segment)

there_at : (slots : List (Option Segment)) (placed : List Placed) → AreInSequence slots placed → (p : Placed) → Contains placed p → IsThere slots p
there_at slots placed h p m = All-contains (IsThere slots) placed p h.there m

apart : (slots : List (Option Segment)) (p q : Placed) → IsThere slots p → IsThere slots q → IsBefore p q → p.slot ≢ q.slot
apart slots p q hp hq before same =
    let one : p.segment ≡ q.segment = same_Some p.segment q.segment (same_Some (Some p.segment) (Some q.segment) (sym hp ∙ (ap (λ (j : ℕ). slice_get slots j) same ∙ hq))) in
    let seqs : seq_of p ≡ seq_of q = ap (λ (s : Segment). s.header.seq) one in
    omega (arith, before, seqs, same)

-- No other has v's slot.
pub distinct_slots : (slots : List (Option Segment)) (before : List Placed) (v : Placed) (after : List Placed) → AreInSequence slots (before ++ v ∷ after)
    → All (λ p. p.slot ≢ v.slot) before × All (λ p. p.slot ≢ v.slot) after
distinct_slots slots before v after h =
    let k = rises_parts before (v ∷ after) h.rising in
    let here : IsThere slots v = there_at slots (before ++ v ∷ after) h v (Contains-append_right before (v ∷ after) v (contains_here v after)) in (
      all_from (λ p. p.slot ≢ v.slot) before (λ p m.
          apart slots p v (there_at slots (before ++ v ∷ after) h p (Contains-append_left before (v ∷ after) p m)) here (k.2 p v m (contains_here v after))),
      all_from (λ p. p.slot ≢ v.slot) after (λ p m e.
          apart slots v p here (there_at slots (before ++ v ∷ after) h p (Contains-append_right before (v ∷ after) p (contains_there v after p m)))
          (All-contains (IsBefore v) after p k.1.0 m) (sym e)),
    )

-- One segment and the others

-- what stands in another slot than v's is among the others
others : (slots : List (Option Segment)) (before : List Placed) (v : Placed) (after : List Placed) → AreInSequence slots (before ++ v ∷ after)
    → (x : Placed) → x.slot ≢ v.slot → IsThere slots x → Contains before x ⊎ Contains after x
others slots before v after h x ne here =
    ⊎_elim
    (λ (k : Contains before x). inl k)
    (λ (k : Contains (v ∷ after) x). ⊎_elim
    (λ (e : v ≡ x). absurd (ne (ap (λ (p : Placed). p.slot) (sym e))))
    (λ (m : Contains after x). inr m)
    (contains_cases v after x k))
    (Contains-append_cases before (v ∷ after) x (h.all x.slot x.segment here))

-- a write to v's slot leaves the others
kept : (slots : List (Option Segment)) (i : ℕ) (o : Option Segment) (ps : List Placed) → All (λ p. p.slot ≢ i) ps → ((p : Placed) → Contains ps p → IsThere slots p) → All (IsThere (set slots i o)) ps
kept slots i o ps ne here = all_from (IsThere (set slots i o)) ps (λ p m. slice_get-set_other slots i p.slot o (All-contains (λ p. p.slot ≢ i) ps p ne m) ∙ here p m)

-- The segment in v's slot is written over by another of its sequence number.
pub replace_in_sequence : (slots : List (Option Segment)) (before : List Placed) (v : Placed) (after : List Placed) (s : Segment) → s.header.seq ≡ seq_of v
    → AreInSequence slots (before ++ v ∷ after) → AreInSequence (set slots v.slot (Some s)) (before ++ record { slot = v.slot; segment = s } ∷ after)
replace_in_sequence slots before v after s seq h =
    let ne = distinct_slots slots before v after h in
    let parts = rises_parts before (v ∷ after) h.rising in
    record {
      there = All-append (IsThere (set slots v.slot (Some s))) before (w ∷ after)
          (kept slots v.slot (Some s) before ne.0 (λ p m. there_at slots (before ++ v ∷ after) h p (Contains-append_left before (v ∷ after) p m)))
          (All-cons (IsThere (set slots v.slot (Some s))) w after now
          (kept slots v.slot (Some s) after ne.1 (λ p m. there_at slots (before ++ v ∷ after) h p (Contains-append_right before (v ∷ after) p (contains_there v after p m)))));
      all = λ j t e. ⊎_elim
          (λ (same : j ≡ v.slot). at_slot j t same e)
          (λ (other : j ≡ v.slot → ⊥). ⊎_elim
          (λ (m : Contains before (record { slot = j; segment = t })). Contains-append_left before (w ∷ after) (record { slot = j; segment = t }) m)
          (λ (m : Contains after (record { slot = j; segment = t })). Contains-append_right before (w ∷ after) (record { slot = j; segment = t }) (contains_there w after (record { slot = j; segment = t }) m))
          (others slots before v after h (record { slot = j; segment = t }) other (sym (slice_get-set_other slots v.slot j (Some s) other) ∙ e)))
          (cases_eq j v.slot);
      rising = rises_join before (w ∷ after) parts.0
          (all_from (IsBefore w) after (λ p m. behind p (All-contains (IsBefore v) after p parts.1.0 m)), parts.1.1)
          (λ p q m n. ⊎_elim
          (λ (e : w ≡ q). subst (λ (x : Placed). IsBefore p x) e (in_front p (parts.2 p v m (contains_here v after))))
          (λ (k : Contains after q). parts.2 p q m (contains_there v after q k))
          (contains_cases w after q n));
    }
  where
    w : Placed
    w = record { slot = v.slot; segment = s }

    now : slice_get (set slots v.slot (Some s)) v.slot ≡ Some (Some s)
    now = slice_get-set_same slots v.slot (Some s)
        (slice_get_within slots v.slot (Some v.segment) (there_at slots (before ++ v ∷ after) h v (Contains-append_right before (v ∷ after) v (contains_here v after))))

    at_slot : (j : ℕ) (t : Segment) → j ≡ v.slot → slice_get (set slots v.slot (Some s)) j ≡ Some (Some t) → Contains (before ++ w ∷ after) (record { slot = j; segment = t })
    at_slot j t same e =
        let one : s ≡ t = same_Some s t (same_Some (Some s) (Some t) (sym now ∙ (ap (λ (i : ℕ). slice_get (set slots v.slot (Some s)) i) (sym same) ∙ e))) in
        let is : ◌≡◌ {A = Placed} (record { slot = v.slot; segment = s }) (record { slot = j; segment = t }) = λ i. record { slot = sym same i; segment = one i } in
        subst (λ (x : Placed). Contains (before ++ w ∷ after) x) is (Contains-append_right before (w ∷ after) w (contains_here w after))

    behind : (p : Placed) → IsBefore v p → IsBefore w p
    behind p b = subst (λ (n : ℕ). (n < seq_of p) ⊎ ((n ≡ seq_of p) × (v.slot < p.slot))) (sym seq) b

    in_front : (p : Placed) → IsBefore p v → IsBefore p w
    in_front p b = subst (λ (n : ℕ). (seq_of p < n) ⊎ ((seq_of p ≡ n) × (p.slot < v.slot))) (sym seq) b

-- The batch goes into a segment.
pub append_in_sequence : (slots : List (Option Segment)) (older : List Placed) (p : Placed) (b : List Record) → AreInSequence slots (older ++ p ∷ [])
    → AreInSequence (set slots p.slot (Some (with_batch p.segment b))) (older ++ with_batch_in p b ∷ [])
append_in_sequence slots older p b h = replace_in_sequence slots older p [] (with_batch p.segment b) refl h

-- The victim's slot is closed.
pub close_in_sequence : (slots : List (Option Segment)) (before : List Placed) (v : Placed) (after : List Placed) → AreInSequence slots (before ++ v ∷ after)
    → AreInSequence (set slots v.slot None) (before ++ after) × (slice_get (set slots v.slot None) v.slot ≡ Some None)
close_in_sequence slots before v after h =
    let ne = distinct_slots slots before v after h in
    let parts = rises_parts before (v ∷ after) h.rising in (
      record {
        there = All-append (IsThere (set slots v.slot None)) before after
            (kept slots v.slot None before ne.0 (λ p m. there_at slots (before ++ v ∷ after) h p (Contains-append_left before (v ∷ after) p m)))
            (kept slots v.slot None after ne.1 (λ p m. there_at slots (before ++ v ∷ after) h p (Contains-append_right before (v ∷ after) p (contains_there v after p m))));
        all = λ j t e. ⊎_elim
            (λ (same : j ≡ v.slot). absurd (none-some t (same_Some None (Some t) (sym now ∙ (ap (λ (i : ℕ). slice_get (set slots v.slot None) i) (sym same) ∙ e)))))
            (λ (other : j ≡ v.slot → ⊥). ⊎_elim
            (λ (m : Contains before (record { slot = j; segment = t })). Contains-append_left before after (record { slot = j; segment = t }) m)
            (λ (m : Contains after (record { slot = j; segment = t })). Contains-append_right before after (record { slot = j; segment = t }) m)
            (others slots before v after h (record { slot = j; segment = t }) other (sym (slice_get-set_other slots v.slot j None other) ∙ e)))
            (cases_eq j v.slot);
        rising = rises_join before after parts.0 parts.1.1 (λ p q m n. parts.2 p q m (contains_there v after q n));
      },
      now,
    )
  where
    now : slice_get (set slots v.slot None) v.slot ≡ Some None
    now = slice_get-set_same slots v.slot None
        (slice_get_within slots v.slot (Some v.segment) (there_at slots (before ++ v ∷ after) h v (Contains-append_right before (v ∷ after) v (contains_here v after))))

-- A segment of a greater sequence number comes into a closed slot.
pub add_in_sequence : (slots : List (Option Segment)) (placed : List Placed) (n : Placed) → AreInSequence slots placed → slice_get slots n.slot ≡ Some None
    → All (λ p. seq_of p < seq_of n) placed → AreInSequence (set slots n.slot (Some n.segment)) (placed ++ n ∷ [])
add_in_sequence slots placed n h closed below = record {
  there = All-append (IsThere (set slots n.slot (Some n.segment))) placed (n ∷ [])
      (kept slots n.slot (Some n.segment) placed elsewhere (there_at slots placed h))
      (all_from (IsThere (set slots n.slot (Some n.segment))) (n ∷ []) (λ p m. only p m));
  all = λ j t e. ⊎_elim
      (λ (same : j ≡ n.slot).
      let one : n.segment ≡ t = same_Some n.segment t (same_Some (Some n.segment) (Some t) (sym now ∙ (ap (λ (i : ℕ). slice_get (set slots n.slot (Some n.segment)) i) (sym same) ∙ e))) in
      let is : ◌≡◌ {A = Placed} (record { slot = n.slot; segment = n.segment }) (record { slot = j; segment = t }) = λ i. record { slot = sym same i; segment = one i } in
      subst (λ (x : Placed). Contains (placed ++ n ∷ []) x) is (Contains-append_right placed (n ∷ []) n (contains_here n [])))
      (λ (other : j ≡ n.slot → ⊥). Contains-append_left placed (n ∷ []) (record { slot = j; segment = t })
      (h.all j t (sym (slice_get-set_other slots n.slot j (Some n.segment) other) ∙ e)))
      (cases_eq j n.slot);
  rising = rises_join placed (n ∷ []) h.rising (all_from (IsBefore n) [] (λ p m. absurd (none_contained p m)), tt)
      (λ p q m k. ⊎_elim
      (λ (e : n ≡ q). subst (λ (x : Placed). IsBefore p x) e (inl (All-contains (λ p. seq_of p < seq_of n) placed p below m)))
      (λ (l : Contains [] q). absurd (none_contained q l))
      (contains_cases n [] q k));
}
  where
    now : slice_get (set slots n.slot (Some n.segment)) n.slot ≡ Some (Some n.segment)
    now = slice_get-set_same slots n.slot (Some n.segment) (slice_get_within slots n.slot None closed)

    only : (p : Placed) → Contains (n ∷ []) p → IsThere (set slots n.slot (Some n.segment)) p
    only p m = ⊎_elim
        (λ (e : n ≡ p). subst (IsThere (set slots n.slot (Some n.segment))) e now)
        (λ (l : Contains [] p). absurd (none_contained p l))
        (contains_cases n [] p m)

    elsewhere : All (λ p. p.slot ≢ n.slot) placed
    elsewhere = all_from (λ p. p.slot ≢ n.slot) placed (λ p m same.
        none-some p.segment (same_Some None (Some p.segment) (sym closed ∙ (ap (λ (i : ℕ). slice_get slots i) (sym same) ∙ there_at slots placed h p m))))

-- A segment without records is begun in it.
pub begin_in_sequence : (slots : List (Option Segment)) (placed : List Placed) (j seq first : ℕ) → AreInSequence slots placed → slice_get slots j ≡ Some None
    → All (λ p. seq_of p < seq) placed
    → AreInSequence (set slots j (Some (record { header = record { seq = seq; first = first; summary = None }; batches = [] }))) (placed ++ new_segment j seq first ∷ [])
begin_in_sequence slots placed j seq first h closed below = add_in_sequence slots placed (new_segment j seq first) h closed below

-- A slot that no segment of the sequence has is closed.
pub slot_closed : (slots : List (Option Segment)) (placed : List Placed) (j : ℕ) → AreInSequence slots placed → j < length slots → All (λ p. p.slot ≢ j) placed
    → slice_get slots j ≡ Some None
slot_closed slots placed j h inside none = go (slice_get slots j) refl
  where
    go : (o : Option (Option Segment)) → slice_get slots j ≡ o → o ≡ Some None
    go None e = let past : length slots ≤ j = past_end slots j e in absurd (omega (arith, past, inside))
      where
        past_end : (xs : List (Option Segment)) (i : ℕ) → slice_get xs i ≡ None → length xs ≤ i
        past_end [] i e = omega arith
        past_end (x ∷ xs) zero e = absurd (none-some x (sym e))
        past_end (x ∷ xs) (suc i) e = let k : length xs ≤ i = past_end xs i e in omega (arith, k)
    go (Some None) e = refl
    go (Some (Some s)) e = absurd (All-contains (λ p. p.slot ≢ j) placed (record { slot = j; segment = s }) none (h.all j s e) refl)

-- Slots have one sequence

never_both : (p q : Placed) → IsBefore p q → IsBefore q p → ⊥
never_both p q a b = omega (arith, a, b)

never_itself : (p q : Placed) → p ≡ q → IsBefore p q → ⊥
never_itself p q e b =
    let seqs : seq_of p ≡ seq_of q = ap (λ (x : Placed). seq_of x) e in
    let slots : p.slot ≡ q.slot = ap (λ (x : Placed). x.slot) e in
    omega (arith, b, seqs, slots)

-- rising lists of the same segments are one
same_rising : (xs ys : List Placed) → Rises xs → Rises ys → ((p : Placed) → Contains xs p → Contains ys p) → ((p : Placed) → Contains ys p → Contains xs p) → xs ≡ ys
same_rising [] [] h k f g = refl
same_rising [] (y ∷ ys) h k f g = absurd (none_contained y (g y (contains_here y ys)))
same_rising (x ∷ xs) [] h k f g = absurd (none_contained x (f x (contains_here x xs)))
same_rising (x ∷ xs) (y ∷ ys) (first, more) (first', more') f g =
    ap₂ (λ (z : Placed) (zs : List Placed). z ∷ zs) heads
    (same_rising xs ys more more'
    (λ p m. ⊎_elim
    (λ (e : y ≡ p). absurd (never_itself x p (heads ∙ e) (All-contains (IsBefore x) xs p first m)))
    (λ (l : Contains ys p). l)
    (contains_cases y ys p (f p (contains_there x xs p m))))
    (λ p m. ⊎_elim
    (λ (e : x ≡ p). absurd (never_itself y p (sym heads ∙ e) (All-contains (IsBefore y) ys p first' m)))
    (λ (l : Contains xs p). l)
    (contains_cases x xs p (g p (contains_there y ys p m)))))
  where
    heads : x ≡ y
    heads = ⊎_elim
        (λ (a : y ≡ x). sym a)
        (λ (a : Contains ys x). ⊎_elim
        (λ (b : x ≡ y). b)
        (λ (b : Contains xs y). absurd (never_both x y (All-contains (IsBefore x) xs y first b) (All-contains (IsBefore y) ys x first' a)))
        (contains_cases x xs y (g y (contains_here y ys))))
        (contains_cases y ys x (f x (contains_here x xs)))

pub one_sequence : (slots : List (Option Segment)) (xs ys : List Placed) → AreInSequence slots xs → AreInSequence slots ys → xs ≡ ys
one_sequence slots xs ys a b = same_rising xs ys a.rising b.rising
    (λ p m. b.all p.slot p.segment (there_at slots xs a p m))
    (λ p m. a.all p.slot p.segment (there_at slots ys b p m))
