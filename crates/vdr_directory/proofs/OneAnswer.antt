-- Opening a medium has one answer.
use Rattle.std.proofs.Common.{◌≡◌, ◌<◌, ◌≤◌, ◌+◌, ℕ, List, [], ◌∷◌, ◌++◌, map, drop, All, Contains, Option, Some, None, inl, inr, ⊎_elim, refl, sym, ap, ap₂, ◌∙◌, subst, arith}
use Rattle.std.proofs.lemmas.Bool.{cases_eq, cases_lt}
use Rattle.std.proofs.lemmas.List.Elements.{All-nil, All-cons, All-contains, All-head, All-tail, Contains-append_right}
use Rattle.vdr_terms.specs.Records.{Record}
use Rattle.vdr_entry.specs.declared.summary.Summary.{Summary}
use Rattle.vdr_segment.specs.Segments.{AreBatches}
use Rattle.vdr_segment.specs.Slots.{IsFront, place_of}
use Rattle.vdr_segment.proofs.Holding.{one_front}
use Rattle.vdr_index.specs.Surveys.{BreaksAt}
use Rattle.vdr_index.proofs.SpanLemmas.{one_break, never_both}
use Rattle.vdr_durability.proofs.Lists.{none_contained, contains_here, contains_there, contains_cases}
use Rattle.vdr_directory.specs.Sequence.{Placed}
use Rattle.vdr_directory.specs.declared.entry.Entry.{Entry}
use Rattle.vdr_directory.specs.Knowns.{AreInOrderBy, BreaksBy, known_of}
use Rattle.vdr_directory.specs.Entries.{Describe}
use Rattle.vdr_directory.specs.Fronts.{Finds}
use Rattle.vdr_directory.specs.Holds.{HoldsPlaced}
use Rattle.vdr_directory.specs.Opening.{AreBatchesRead, AreKnown, headed_of, front_bytes, slot_bytes, Headed, IsEarlier, RiseBySeq, AreHeaders, RefusesHeader, RefusesBatch, RefusesOrder, Refuses}
use Rattle.vdr_directory.proofs.Finding.{IsRead}
use Rattle.vdr_directory.proofs.Knowing.{describe_known, known_held, known_once}
use Rattle.vdr_directory.proofs.Breaking.{breaks_never, breaks_once}

-- The headers of a medium are one list

never_earlier : (x y : Headed) → IsEarlier x y → IsEarlier y x → ⊥
never_earlier x y a b = omega (arith, a, b)

earlier_itself : (x y : Headed) → x ≡ y → IsEarlier x y → ⊥
earlier_itself x y e h = let back : IsEarlier y x = subst (λ (p : Headed × Headed). IsEarlier p.0 p.1) (λ i. (e i, sym e i)) h in never_earlier x y h back

same_headed : (xs ys : List Headed) → RiseBySeq xs → RiseBySeq ys → ((x : Headed) → Contains xs x → Contains ys x) → ((x : Headed) → Contains ys x → Contains xs x) → xs ≡ ys
same_headed [] [] h k f g = refl
same_headed [] (y ∷ ys) h k f g = absurd (none_contained y (g y (contains_here y ys)))
same_headed (x ∷ xs) [] h k f g = absurd (none_contained x (f x (contains_here x xs)))
same_headed (x ∷ xs) (y ∷ ys) h k f g =
    ap₂ (λ (z : Headed) (zs : List Headed). z ∷ zs) heads
    (same_headed xs ys h.1 k.1
    (λ z m. ⊎_elim
    (λ (e : y ≡ z). absurd (earlier_itself x z (heads ∙ e) (All-contains (IsEarlier x) xs z h.0 m)))
    (λ (l : Contains ys z). l)
    (contains_cases y ys z (f z (contains_there x xs z m))))
    (λ z m. ⊎_elim
    (λ (e : x ≡ z). absurd (earlier_itself y z (sym heads ∙ e) (All-contains (IsEarlier y) ys z k.0 m)))
    (λ (l : Contains xs z). l)
    (contains_cases x xs z (g z (contains_there y ys z m)))))
  where
    heads : x ≡ y
    heads = ⊎_elim
        (λ (a : y ≡ x). sym a)
        (λ (a : Contains ys x). ⊎_elim
        (λ (b : x ≡ y). b)
        (λ (b : Contains xs y). absurd (never_earlier x y (All-contains (IsEarlier x) xs y h.0 b) (All-contains (IsEarlier y) ys x k.0 a)))
        (contains_cases x xs y (g y (contains_here y ys))))
        (contains_cases y ys x (f x (contains_here x xs)))

module _ (segment count : ℕ) (bytes : List ℕ) where
  -- what one list has the other has
  other_has : (xs ys : List Headed) → AreHeaders segment count bytes xs → AreHeaders segment count bytes ys → (x : Headed) → Contains xs x → Contains ys x
  other_has xs ys h k x m =
      let t = All-contains (λ x. (x.slot < count) × IsFront (front_bytes segment x.slot bytes) (Some x.header)) xs x h.there m in
      let f = k.fronts x.slot t.0 in
      f.2 x.header (one_front (front_bytes segment x.slot bytes) f.0 (Some x.header) f.1 t.1)

  one_headed : (xs ys : List Headed) → AreHeaders segment count bytes xs → AreHeaders segment count bytes ys → xs ≡ ys
  one_headed xs ys h k = same_headed xs ys h.rising k.rising (other_has xs ys h k) (other_has ys xs k h)

  -- The parts are one

  pub one_known : (ps qs : List Placed) → AreKnown segment count bytes ps → AreKnown segment count bytes qs → ps ≡ qs
  one_known ps qs h k = known_once segment bytes ps qs (one_headed (map headed_of ps) (map headed_of qs) h.headers k.headers) h.batches k.batches

  -- The first with a batch that is not legal

  abbrev IsLegal : Headed → Type 0
  IsLegal x = x.header.summary ≡ None → (batches : List (List Record)) × AreBatches (drop 64 (slot_bytes segment x.slot bytes)) batches

  first_broken : (b c : List Headed) (x y : Headed) (a d : List Headed) → b ++ x ∷ a ≡ c ++ y ∷ d → All IsLegal b → All IsLegal c → (IsLegal x → ⊥) → (IsLegal y → ⊥) → x ≡ y
  first_broken [] [] x y a d e hb hc nx ny = cc
  first_broken [] (z ∷ c) x y a d e hb hc nx ny = let same : z ≡ x = cc in absurd (nx (subst IsLegal same (All-head IsLegal z c hc)))
  first_broken (z ∷ b) [] x y a d e hb hc nx ny = let same : z ≡ y = cc in absurd (ny (subst IsLegal same (All-head IsLegal z b hb)))
  first_broken (z ∷ b) (w ∷ c) x y a d e hb hc nx ny = let rest : b ++ x ∷ a ≡ c ++ y ∷ d = cc in first_broken b c x y a d rest (All-tail IsLegal z b hb) (All-tail IsLegal w c hc) nx ny

  broken_illegal : (x : Headed) (at : ℕ) → x.header.summary ≡ None → BreaksAt (slot_bytes segment x.slot bytes) at → IsLegal x → ⊥
  broken_illegal x at bare b l = let k = l bare in never_both (slot_bytes segment x.slot bytes) k.0 at k.1 b

  -- A medium whose parts are legal

  -- has all headers
  no_header_refused : (ps : List Placed) (offset : ℕ) → AreKnown segment count bytes ps → RefusesHeader segment count bytes offset → ⊥
  no_header_refused ps offset h r = let f = h.headers.fronts r.slot r.within in r.broken f.0 f.1

  -- and all batches that are read
  read_legal : (p : Placed) → IsRead segment bytes p → IsLegal (headed_of p)
  read_legal p h none = (p.segment.batches, subst (λ (o : Option Summary). AreBatchesRead o (drop 64 (slot_bytes segment p.slot bytes)) p.segment.batches) none h)

  all_legal : (ps : List Placed) → All (IsRead segment bytes) ps → All IsLegal (map headed_of ps)
  all_legal [] h = All-nil IsLegal
  all_legal (p ∷ ps) h = All-cons IsLegal (headed_of p) (map headed_of ps) (read_legal p (All-head (IsRead segment bytes) p ps h)) (all_legal ps (All-tail (IsRead segment bytes) p ps h))

  no_batch_refused : (ps : List Placed) (offset : ℕ) → AreKnown segment count bytes ps → RefusesBatch segment count bytes offset → ⊥
  no_batch_refused ps offset h r =
      let same : r.headed ≡ map headed_of ps = one_headed r.headed (map headed_of ps) r.headers h.headers in
      let there : Contains (map headed_of ps) r.here =
      subst (λ (xs : List Headed). Contains xs r.here) (sym r.split ∙ same) (Contains-append_right r.before (r.here ∷ r.after) r.here (contains_here r.here r.after)) in
      broken_illegal r.here r.at r.bare r.broken (All-contains IsLegal (map headed_of ps) r.here (all_legal ps h.batches) there)

  no_order_refused : (ps : List Placed) (offset : ℕ) → AreKnown segment count bytes ps → AreInOrderBy ps → RefusesOrder segment count bytes offset → ⊥
  no_order_refused ps offset h order r = breaks_never None ps r.here order (subst (λ (xs : List Placed). BreaksBy None xs r.here) (one_known r.known ps r.are h) r.breaks)

  pub never_refused : (ps : List Placed) (offset : ℕ) → AreKnown segment count bytes ps → AreInOrderBy ps → Refuses segment count bytes offset → ⊥
  never_refused ps offset h order (inl r) = no_header_refused ps offset h r
  never_refused ps offset h order (inr (inl r)) = no_batch_refused ps offset h r
  never_refused ps offset h order (inr (inr r)) = no_order_refused ps offset h order r

  -- Two refusals

  one_header_refused : (m n : ℕ) → RefusesHeader segment count bytes m → RefusesHeader segment count bytes n → m ≡ n
  one_header_refused m n r s = r.at ∙ ap (λ (j : ℕ). place_of segment j) same ∙ sym s.at
    where
      same : r.slot ≡ s.slot
      same = ⊎_elim
          (λ (lt : r.slot < s.slot). let f = s.legal r.slot lt in absurd (r.broken f.0 f.1))
          (λ (le : s.slot ≤ r.slot). ⊎_elim
          (λ (e : r.slot ≡ s.slot). e)
          (λ (ne : r.slot ≡ s.slot → ⊥). let f = r.legal s.slot (omega (arith, le, ne)) in absurd (s.broken f.0 f.1))
          (cases_eq r.slot s.slot))
          (cases_lt r.slot s.slot)

  headers_first : (m n : ℕ) → RefusesHeader segment count bytes m → RefusesBatch segment count bytes n → ⊥
  headers_first m n r s = let f = s.headers.fronts r.slot r.within in r.broken f.0 f.1

  one_batch_refused : (m n : ℕ) → RefusesBatch segment count bytes m → RefusesBatch segment count bytes n → m ≡ n
  one_batch_refused m n r s =
      r.is ∙ ap (λ (j : ℕ). place_of segment j + r.at) slots
      ∙ ap (λ (k : ℕ). place_of segment s.here.slot + k) (one_break (slot_bytes segment s.here.slot bytes) r.at s.at (subst (λ (j : ℕ). BreaksAt (slot_bytes segment j bytes) r.at) slots r.broken) s.broken)
      ∙ sym s.is
    where
      here : r.here ≡ s.here
      here = first_broken r.before s.before r.here s.here r.after s.after (sym r.split ∙ one_headed r.headed s.headed r.headers s.headers ∙ s.split) r.legal s.legal (broken_illegal r.here r.at r.bare r.broken) (broken_illegal s.here s.at s.bare s.broken)

      slots : r.here.slot ≡ s.here.slot
      slots = ap (λ (x : Headed). x.slot) here

  one_order_refused : (m n : ℕ) → RefusesOrder segment count bytes m → RefusesOrder segment count bytes n → m ≡ n
  one_order_refused m n r s =
      r.at ∙ ap (λ (p : Placed). place_of segment p.slot) (breaks_once None s.known r.here s.here (subst (λ (ps : List Placed). BreaksBy None ps r.here) (one_known r.known s.known r.are s.are) r.breaks) s.breaks) ∙ sym s.at

  pub one_refusal : (m n : ℕ) → Refuses segment count bytes m → Refuses segment count bytes n → m ≡ n
  one_refusal m n (inl r) (inl s) = one_header_refused m n r s
  one_refusal m n (inl r) (inr (inl s)) = absurd (headers_first m n r s)
  one_refusal m n (inl r) (inr (inr s)) = absurd (no_header_refused s.known m s.are r)
  one_refusal m n (inr (inl r)) (inl s) = absurd (headers_first n m s r)
  one_refusal m n (inr (inl r)) (inr (inl s)) = one_batch_refused m n r s
  one_refusal m n (inr (inl r)) (inr (inr s)) = absurd (no_batch_refused s.known m s.are r)
  one_refusal m n (inr (inr r)) (inl s) = absurd (no_header_refused r.known n r.are s)
  one_refusal m n (inr (inr r)) (inr (inl s)) = absurd (no_batch_refused r.known n r.are s)
  one_refusal m n (inr (inr r)) (inr (inr s)) = one_order_refused m n r s

-- On a medium that holds segments the entries that tell of what is known tell of the segments.
pub found_legible : (segment count : ℕ) (bytes : List ℕ) (es : List Entry) (placed : List Placed) → 64 ≤ segment → HoldsPlaced segment count placed bytes → Finds segment count bytes es → Describe placed es
found_legible segment count bytes es placed long holds f =
    describe_known placed es (subst (λ (ps : List Placed). Describe ps es) (one_known segment count bytes f.known (map known_of placed) f.are (known_held segment count bytes placed long holds)) f.describe)
