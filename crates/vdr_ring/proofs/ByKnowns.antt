-- What an index knows of segments as opening knows them, and where each stands among those.
use Rattle.std.proofs.Common.{◌≡◌, ◌≢◌, ◌⊎◌, ◌<◌, ℕ, List, [], ◌∷◌, ◌++◌, length, get_or, All, Contains, Option, Some, None, inl, inr, ⊎_elim, refl, sym, ap, ◌∙◌, subst, arith, append-nil}
use Rattle.std.specs.Prelude.{Any, IfNone, IfSome}
use Rattle.std.proofs.lemmas.List.{nil_from_length}
use Rattle.std.proofs.lemmas.List.Elements.{All-contains, All-head, All-tail}
use Rattle.std.proofs.lemmas.Option.{none-some, get_or_from_slice_get}
use Rattle.vdr_terms.specs.Records.{Record, last}
use Rattle.vdr_durability.specs.Layout.{segment_records}
use Rattle.vdr_durability.proofs.Lists.{contains_cases, contains_here, contains_there, none_contained}
use Rattle.vdr_entry.specs.declared.summary.Summary.{Summary}
use Rattle.vdr_segment.specs.Batches.{IsBatch}
use Rattle.vdr_index.specs.declared.known.Known.{Known}
use Rattle.vdr_index.specs.Indexes.{IsNewest, Keeps}
use Rattle.vdr_index.proofs.Ranks.{keeps_at}
use Rattle.vdr_directory.specs.Sequence.{Placed, batches_in, batches_of, records_of, seq_of}
use Rattle.vdr_directory.specs.Indexed.{StandsFor}
use Rattle.vdr_directory.specs.Knowns.{AreInOrderBy, AreInPlaceBy, HasNoneBy, MayPrecedeBy, batches_read, count_by, known_count, summary_of}
use Rattle.vdr_directory.specs.Telling.{IsEarlierBy, IsIndexedBy, IsKnownAsBy, IsKnownBy, RiseBy}
use Rattle.vdr_directory.proofs.Extents.{count_bare, read_all}
use Rattle.vdr_directory.proofs.Known.{any_or_none}
use Rattle.vdr_directory.proofs.Runs.{last_behind_some, nil_from_last}
use Rattle.vdr_directory.proofs.TellingBy.{rise_by}
use Rattle.vdr_ring.specs.Lasts.{IsLastSlot}
use Rattle.vdr_ring.proofs.Staging.{no_batches}

-- The index

stands_count : (o : Option Summary) (p : Placed) (s : Summary) → StandsFor o p s → s.count ≡ count_by o (segment_records (batches_read o (batches_of p)))
stands_count None p s is = is.count
stands_count (Some t) p s is = ap (λ (x : Summary). x.count) is

pub count_kept : (p : Placed) (k : Known) → IsKnownBy p k → k.summary.count ≡ known_count p
count_kept p k is = stands_count (summary_of p) p k.summary is.summary

-- A segment is in the index, or has no records.
abbrev pub IsInIndexBy : List (Option Known) → Placed → Type 0
IsInIndexBy index p = (HasNoneBy p × (get_or index p.slot None ≡ None)) ⊎ ((k : Known) × Keeps index p.slot k × IsKnownBy p k)

module _ (count : ℕ) (known : List Placed) (index : List (Option Known)) (x : IsIndexedBy count known index) where
  -- the segment in a slot of which something is known
  pub placed_by : (slot : ℕ) (k : Known) → Keeps index slot k → (p : Placed) × Contains known p × (p.slot ≡ slot) × IsKnownBy p k
  placed_by slot k at =
      let is : get_or index slot None ≡ Some k = get_or_from_slice_get index slot (Some k) None at in
      ⊎_elim
      (λ (h : Any (λ p. p.slot ≡ slot) known).
      let m : Contains known h.1 = (h.0, h.2, h.3) in
      let there = All-contains (λ p. IsKnownAsBy p (get_or index p.slot None)) known h.1 x.kept m in
      (h.1, m, h.4, subst (IsKnownAsBy h.1) (ap (λ (j : ℕ). get_or index j None) h.4 ∙ is) there))
      (λ (h : All (λ p. p.slot ≢ slot) known). absurd (none-some k (sym (x.clear slot h) ∙ is)))
      (any_or_none known slot)

  pub in_index_by : (p : Placed) → Contains known p → IsInIndexBy index p
  in_index_by p m = go (get_or index p.slot None) refl (All-contains (λ p. IsKnownAsBy p (get_or index p.slot None)) known p x.kept m)
    where
      go : (o : Option Known) → get_or index p.slot None ≡ o → IsKnownAsBy p o → IsInIndexBy index p
      go None at none = inl (none, at)
      go (Some k) at is = inr (k, keeps_at index p.slot k at, is)

-- The order

pub some_before : (p q : Placed) (rest : List Placed) → MayPrecedeBy p (q ∷ rest) → HasNoneBy p → ⊥
some_before p q [] h none = h.0 none
some_before p q (x ∷ rest) h none = h none

-- One of two is the other, comes before it or behind it.
pub which_first : (known : List Placed) → RiseBy known → (p q : Placed) → Contains known p → Contains known q → (p ≡ q) ⊎ (IsEarlierBy q p ⊎ IsEarlierBy p q)
which_first [] rise p q m n = absurd (none_contained p m)
which_first (x ∷ xs) rise p q m n =
    ⊎_elim
    (λ (e : x ≡ p). ⊎_elim
    (λ (f : x ≡ q). inl (sym e ∙ f))
    (λ (l : Contains xs q). inr (inr (subst (λ (y : Placed). IsEarlierBy y q) e (All-contains (IsEarlierBy x) xs q rise.0 l))))
    (contains_cases x xs q n))
    (λ (k : Contains xs p). ⊎_elim
    (λ (f : x ≡ q). inr (inl (subst (λ (y : Placed). IsEarlierBy y p) f (All-contains (IsEarlierBy x) xs p rise.0 k))))
    (λ (l : Contains xs q). which_first xs rise.1 p q k l)
    (contains_cases x xs q n))
    (contains_cases x xs p m)

-- The last batch

abbrev AreLegal : List Placed → Type 0
AreLegal known = All (λ p. All IsBatch (batches_of p)) known

bare_none : (p : Placed) → summary_of p ≡ None → All IsBatch (batches_of p) → HasNoneBy p → batches_of p ≡ []
bare_none p bare legal none =
    let count : length (records_of p) ≡ 0 = sym (count_bare p bare ∙ ap length (read_all p bare)) ∙ none in
    no_batches (batches_of p) legal (nil_from_length (records_of p) count)

-- one without records has no summary
none_bare : (o : Option Placed) (p : Placed) (ps : List Placed) → AreInPlaceBy o (p ∷ ps) → HasNoneBy p → summary_of p ≡ None
none_bare o p [] h none = h.0.precedes
none_bare o p (q ∷ ps) h none = absurd (some_before p q ps h.0.precedes none)

-- nor has one behind which there are no records
newest_bare : (o : Option Placed) (p : Placed) (ps : List Placed) → AreInPlaceBy o (p ∷ ps) → ((q : Placed) → Contains ps q → HasNoneBy q) → summary_of p ≡ None
newest_bare o p [] h none = h.0.precedes
newest_bare o p (q ∷ []) h none = h.0.precedes.1 (none q (contains_here q []))
newest_bare o p (q ∷ x ∷ rest) h none = absurd (some_before q x rest h.1.0.precedes (none q (contains_here q (x ∷ rest))))

none_left : (o : Option Placed) (ps : List Placed) → AreInPlaceBy o ps → AreLegal ps → ((p : Placed) → Contains ps p → HasNoneBy p) → batches_in ps ≡ []
none_left o [] h legal none = refl
none_left o (p ∷ ps) h legal none =
    let mine = none p (contains_here p ps) in
    let here : batches_of p ≡ [] = bare_none p (none_bare o p ps h mine) (All-head (λ p. All IsBatch (batches_of p)) p ps legal) mine in
    ap (λ (bs : List (List Record)). bs ++ batches_in ps) here ∙ none_left (Some p) ps h.1 (All-tail (λ p. All IsBatch (batches_of p)) p ps legal) (λ q m. none q (contains_there p ps q m))

-- The segment has records, and all behind it have none.
pub record HasNewest (p : Placed) (ps : List Placed) : Type 0 where
  pub some : HasNoneBy p → ⊥
  pub none : (q : Placed) → Contains ps q → seq_of p < seq_of q → HasNoneBy q

-- Then it has no summary, and the last batch.
record HasLast (p : Placed) (ps : List Placed) : Type 0 where
  bare : summary_of p ≡ None
  is : last (batches_in ps) ≡ last (batches_of p)

some_batches : (p : Placed) → summary_of p ≡ None → (HasNoneBy p → ⊥) → batches_of p ≢ []
some_batches p bare some none =
    some (count_bare p bare ∙ ap length (read_all p bare) ∙ ap (λ (bs : List (List Record)). length (segment_records bs)) none)

has_last : (o : Option Placed) (ps : List Placed) → AreInPlaceBy o ps → AreLegal ps → (p : Placed) → Contains ps p → HasNewest p ps → HasLast p ps
has_last o [] h legal p m n = absurd (none_contained p m)
has_last o (x ∷ xs) h legal p m n =
    ⊎_elim
    (λ (e : x ≡ p).
    let none : (q : Placed) → Contains xs q → HasNoneBy q = λ q k. n.none q (contains_there x xs q k) (subst (λ (y : Placed). seq_of y < seq_of q) e (All-contains (IsEarlierBy x) xs q (rise_by o (x ∷ xs) h).0 k).0) in
    let left : batches_in xs ≡ [] = none_left (Some x) xs h.1 (All-tail (λ p. All IsBatch (batches_of p)) x xs legal) none in
    subst (λ (y : Placed). HasLast y (x ∷ xs)) e (record {
      bare = newest_bare o x xs h none;
      is = ap (λ (bs : List (List Record)). last (batches_of x ++ bs)) left ∙ ap last (append-nil (batches_of x));
    }))
    (λ (k : Contains xs p).
    let l = has_last (Some x) xs h.1 (All-tail (λ p. All IsBatch (batches_of p)) x xs legal) p k (record { some = n.some; none = λ q j. n.none q (contains_there x xs q j) }) in
    record {
      bare = l.bare;
      is = last_behind_some (batches_of x) (batches_in xs) (λ none. some_batches p l.bare n.some (nil_from_last (batches_of p) (sym l.is ∙ ap last none))) ∙ l.is;
    })
    (contains_cases x xs p m)

-- That of greatest sequence number in the index is the newest that has records.
pub newest_by : (count : ℕ) (known : List Placed) (index : List (Option Known)) → IsIndexedBy count known index → (slot : ℕ) → IsNewest index slot
    → (p : Placed) × Contains known p × (p.slot ≡ slot) × HasNewest p known
newest_by count known index x slot f =
    let p = placed_by count known index x slot f.known f.there in
    (p.0, p.1, p.2, record { some = p.3.some; none = λ q m lt. go p.0 p.3.seq q lt (in_index_by count known index x q m) })
  where
    go : (p : Placed) → f.known.seq ≡ seq_of p → (q : Placed) → seq_of p < seq_of q → IsInIndexBy index q → HasNoneBy q
    go p seq q lt (inl (none, at)) = none
    go p seq q lt (inr (l, at, is)) =
        let le = f.greatest q.slot l at in
        let there = is.seq in absurd (omega (arith, le, lt, seq, there))

module _ (count : ℕ) (known : List Placed) (index : List (Option Known)) (x : IsIndexedBy count known index) (order : AreInOrderBy known) (legal : AreLegal known) where
  last_slot_none : ((slot : ℕ) (k : Known) → Keeps index slot k → ⊥) → IsLastSlot known None
  last_slot_none empty = ap last (none_left None known order legal (λ p m. go p (in_index_by count known index x p m)))
    where
      go : (p : Placed) → IsInIndexBy index p → HasNoneBy p
      go p (inl (none, at)) = none
      go p (inr (k, at, is)) = absurd (empty p.slot k at)

  last_slot_some : (slot : ℕ) → IsNewest index slot → IsLastSlot known (Some slot)
  last_slot_some slot f =
      let p = newest_by count known index x slot f in
      let l = has_last None known order legal p.0 p.1 p.3 in
      (p.0, p.1, p.2, l.bare, l.is)

  pub last_slot_is : (r : Option ℕ) → IfSome r (IsNewest index) → IfNone r ((slot : ℕ) (k : Known) → Keeps index slot k → ⊥) → IsLastSlot known r
  last_slot_is None some none = last_slot_none none
  last_slot_is (Some slot) some none = last_slot_some slot some
