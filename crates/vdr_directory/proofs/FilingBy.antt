-- What a medium's index keeps of the segments that opening knows.
use Rattle.std.proofs.Common.{◌≡◌, ◌≢◌, ◌<◌, ◌≤◌, ◌+◌, ◌^◌, ℕ, List, [], ◌∷◌, ◌++◌, length, map, get_or, set, take, drop, All, Contains, Option, Some, None, inl, inr, ⊎_elim, refl, sym, ap, ◌∙◌, subst, arith, length-set, length-take}
use Rattle.std.specs.Prelude.{◌⊎◌, option_map, replicate}
use Rattle.std.proofs.lemmas.Bool.{cases_lt}
use Rattle.std.proofs.lemmas.List.{get_or-set_same, get_or-set_other, get_or_past, get_or-replicate, length-replicate, take_more, drop_more, take-append-drop, nil_from_length}
use Rattle.std.proofs.lemmas.List.Elements.{All-nil, All-cons, All-head, All-tail, All-push, All-contains, Contains-append_left, Contains-append_right}
use Rattle.std.proofs.lemmas.Option.{none-some, same_Some}
use Rattle.vdr_terms.specs.Records.{Record}
use Rattle.vdr_entry.specs.declared.summary.Summary.{Summary}
use Rattle.vdr_segment.specs.declared.header.Header.{Header}
use Rattle.vdr_segment.specs.Slots.{IsFront}
use Rattle.vdr_segment.proofs.Holding.{one_front}
use Rattle.vdr_index.specs.declared.extent.Survey.{Survey}
use Rattle.vdr_index.specs.Extents.{records_in}
use Rattle.vdr_index.specs.Summaries.{Summarises}
use Rattle.vdr_index.proofs.JoinLemmas.{one_summarised}
use Rattle.vdr_durability.proofs.Lists.{contains_here, contains_there, all_from}
use Rattle.vdr_index.specs.declared.known.Known.{Known}
use Rattle.vdr_directory.specs.declared.entry.Entry.{Entry}
use Rattle.vdr_directory.specs.Sequence.{Placed, batches_of, records_of}
use Rattle.vdr_directory.specs.Entries.{Describes, Describe}
use Rattle.vdr_directory.specs.Indexed.{StandsFor, summary_by, told_by}
use Rattle.vdr_directory.specs.Knowns.{summary_of, AreInOrderBy, AreInPlaceBy, HasNoneBy, MayPrecedeBy}
use Rattle.vdr_directory.specs.Opening.{AreBatchesRead, AreKnown, Headed, IsEarlier, RiseBySeq, front_bytes, headed_of, slot_bytes}
use Rattle.vdr_directory.specs.Telling.{IsIndexedBy, IsKnownAsBy}
use Rattle.vdr_directory.proofs.Extents.{IsBare, IsSummarized, bare_or_not, count_bare, read_all}
use Rattle.vdr_directory.proofs.Filing.{described_at, described_length, few_in_bytes, length_drop, nothing}
use Rattle.vdr_directory.proofs.Finding.{IsRead}

-- How many records were read of a segment

few_read : (segment : ℕ) (bytes : List ℕ) (p : Placed) → segment < 2 ^ 32 → IsRead segment bytes p → length (records_of p) < 2 ^ 32
few_read segment bytes p small h = go (summary_of p) h
  where
    go : (o : Option Summary) → AreBatchesRead o (drop 64 (slot_bytes segment p.slot bytes)) (batches_of p) → length (records_of p) < 2 ^ 32
    go None a =
        let k = few_in_bytes (drop 64 (slot_bytes segment p.slot bytes)) (batches_of p) a in
        let l = length_drop 64 (slot_bytes segment p.slot bytes) in
        let s : length (slot_bytes segment p.slot bytes) ≤ segment = omega (arith, length-take {A = ℕ}) in
        omega (arith, small, k, l, s)
    go (Some s) none = let e : length (records_of p) ≡ 0 = ap (λ (bs : List (List Record)). length (records_in bs)) none in omega (arith, e)

-- What an entry tells

known_as : (p : Placed) (e : Entry) → Describes p e → ((s : Summary) → summary_of p ≡ Some s → HasNoneBy p → ⊥) → length (records_of p) < 2 ^ 32 → IsKnownAsBy p (told_by e)
known_as p e d has few = go (bare_or_not p e d)
  where
    Told : Option Summary → Type 0
    Told o = IsKnownAsBy p (option_map (λ s. record { seq = e.seq; first = e.first; summary = s }) o)

    own : summary_of p ≡ None → (o : Option Summary) → Summarises (records_of p) o → Told o
    own none None is = count_bare p none ∙ ap length (read_all p none ∙ is)
    own none (Some s) is = record {
      seq = d.seq;
      first = d.first;
      some = λ empty.
          let long : length (records_of p) ≡ 0 = sym (ap length (read_all p none)) ∙ sym (count_bare p none) ∙ empty in
          none-some s (one_summarised (records_of p) None (Some s) (nil_from_length (records_of p) long) is);
      summary = subst (λ (header : Option Summary). StandsFor header p s) (sym none) (record { count = let k = is.count in omega (arith, k, few); summary = is });
    }

    go : IsBare p e ⊎ IsSummarized p e → IsKnownAsBy p (told_by e)
    go (inl b) = subst (λ (x : Option Summary × Option Survey). Told (summary_by x.0 x.1)) (λ i. (sym b.header i, sym b.is i)) (own b.none b.survey.summary b.surveys.summary)
    go (inr t) = subst (λ (o : Option Summary). Told (summary_by o e.survey)) (sym t.header) (record {
      seq = d.seq;
      first = d.first;
      some = has t.summary t.some;
      summary = subst (λ (header : Option Summary). StandsFor header p t.summary) (sym t.some) refl;
    })

-- In a legal order a segment that has a summary has records by it.
summarized_have : (o : Option Placed) (ps : List Placed) → AreInPlaceBy o ps → All (λ p. (s : Summary) → summary_of p ≡ Some s → HasNoneBy p → ⊥) ps
summarized_have o [] h = All-nil (λ (p : Placed). (s : Summary) → summary_of p ≡ Some s → HasNoneBy p → ⊥)
summarized_have o (p ∷ ps) h =
    All-cons (λ (p : Placed). (s : Summary) → summary_of p ≡ Some s → HasNoneBy p → ⊥) p ps (go ps h.0.precedes) (summarized_have (Some p) ps h.1)
  where
    go : (ps : List Placed) → MayPrecedeBy p ps → (s : Summary) → summary_of p ≡ Some s → HasNoneBy p → ⊥
    go [] none s is empty = none-some s (sym none ∙ is)
    go (q ∷ []) h s is empty = h.0 empty
    go (q ∷ x ∷ rest) h s is empty = h empty

headed_in : (before : List Placed) (p : Placed) (after : List Placed) → Contains (map headed_of (before ++ p ∷ after)) (headed_of p)
headed_in [] p after = contains_here (headed_of p) (map headed_of after)
headed_in (q ∷ before) p after = contains_there (headed_of q) (map headed_of (before ++ p ∷ after)) (headed_of p) (headed_in before p after)

-- Their slots differ: of one slot the header is one.

module _ (segment count : ℕ) (bytes : List ℕ) where
  abbrev IsThere : Headed → Type 0
  IsThere x = (x.slot < count) × IsFront (front_bytes segment x.slot bytes) (Some x.header)

  slots_differ : (x y : Headed) → IsThere x → IsThere y → IsEarlier x y → x.slot ≢ y.slot
  slots_differ x y here there earlier same =
      let front : IsFront (front_bytes segment y.slot bytes) (Some x.header) = subst (λ (j : ℕ). IsFront (front_bytes segment j bytes) (Some x.header)) same here.1 in
      let header : x.header ≡ y.header = same_Some x.header y.header (one_front (front_bytes segment y.slot bytes) (Some x.header) (Some y.header) front there.1) in
      let seq = ap (λ (h : Header). h.seq) header in
      go seq earlier
    where
      go : x.header.seq ≡ y.header.seq → IsEarlier x y → ⊥
      go seq (inl lt) = omega (arith, lt, seq)
      go seq (inr (e, lt)) = omega (arith, lt, same)

  apart_before : (before : List Placed) (p : Placed) (after : List Placed) → RiseBySeq (map headed_of (before ++ p ∷ after)) → All IsThere (map headed_of (before ++ p ∷ after)) → All (λ q. q.slot ≢ p.slot) before
  apart_before [] p after rise there = All-nil (λ (q : Placed). q.slot ≢ p.slot)
  apart_before (q ∷ before) p after rise there =
      let xs = map headed_of (before ++ p ∷ after) in
      let rest = All-tail IsThere (headed_of q) xs there in
      let mine = headed_in before p after in
      All-cons (λ (q : Placed). q.slot ≢ p.slot) q before
      (slots_differ (headed_of q) (headed_of p) (All-head IsThere (headed_of q) xs there) (All-contains IsThere xs (headed_of p) rest mine) (All-contains (IsEarlier (headed_of q)) xs (headed_of p) rise.0 mine))
      (apart_before before p after rise.1 rest)

-- the index as it grows

at_other : (index : List (Option Known)) (slot : ℕ) (o : Option Known) (ps : List Placed) → All (λ p. p.slot ≢ slot) ps → All (λ p. IsKnownAsBy p (get_or index p.slot None)) ps
    → All (λ p. IsKnownAsBy p (get_or (set index slot o) p.slot None)) ps
at_other index slot o ps apart kept = all_from (λ p. IsKnownAsBy p (get_or (set index slot o) p.slot None)) ps (λ p m.
    subst (IsKnownAsBy p) (sym (get_or-set_other index slot p.slot o None (All-contains (λ p. p.slot ≢ slot) ps p apart m)))
    (All-contains (λ p. IsKnownAsBy p (get_or index p.slot None)) ps p kept m))

pub indexed_none : (count : ℕ) (index : List (Option Known)) → index ≡ replicate count None → IsIndexedBy count [] index
indexed_none count index is = subst (IsIndexedBy count []) (sym is) (record {
  size = length-replicate {A = Option Known} count None;
  kept = λ i d lt. absurd (omega (arith, lt));
  clear = λ j none. ⊎_elim
      (λ (lt : j < count). get_or-replicate {A = Option Known} count j None None lt)
      (λ (past : count ≤ j). get_or_past (replicate count None) j None (let e = length-replicate {A = Option Known} count None in omega (arith, past, e)))
      (cases_lt j count);
})

indexed_next : (count : ℕ) (known : List Placed) (new : Placed) (index now : List (Option Known)) (o : Option Known) → new.slot < count → All (λ p. p.slot ≢ new.slot) known → IsKnownAsBy new o
    → now ≡ set index new.slot o → IsIndexedBy count known index → IsIndexedBy count (known ++ new ∷ []) now
indexed_next count known new index now o within apart told is h = subst (IsIndexedBy count (known ++ new ∷ [])) (sym is) (record {
  size = length-set index new.slot o ∙ h.size;
  kept = All-push (λ p. IsKnownAsBy p (get_or (set index new.slot o) p.slot None)) known new (at_other index new.slot o known apart h.kept)
      (subst (IsKnownAsBy new) (sym (get_or-set_same index new.slot o None (let s = h.size in omega (arith, s, within)))) told);
  clear = λ j other.
      get_or-set_other index new.slot j o None (λ e. All-contains (λ p. p.slot ≢ j) (known ++ new ∷ []) new other (Contains-append_right known (new ∷ []) new (contains_here new [])) (sym e))
      ∙ h.clear j (all_from (λ p. p.slot ≢ j) known (λ p m. All-contains (λ p. p.slot ≢ j) (known ++ new ∷ []) p other (Contains-append_left known (new ∷ []) p m)));
})

-- one more segment is told
pub indexed_more : (segment count : ℕ) (bytes : List ℕ) (known : List Placed) (es : List Entry) (i : ℕ) (index now : List (Option Known)) (d : Entry) → segment < 2 ^ 32 → AreKnown segment count bytes known → AreInOrderBy known
    → Describe known es → i < length es → now ≡ set index (get_or es i d).slot (told_by (get_or es i d)) → IsIndexedBy count (take i known) index → IsIndexedBy count (take (i + 1) known) now
indexed_more segment count bytes known es i index now d small are order describe lt is h =
    subst (λ (ps : List Placed). IsIndexedBy count ps now) (sym (take_more known i nothing within))
    (indexed_next count (take i known) at index now (told_by e) at_there.0 apart (known_as at e described (summarized_have None known order i nothing within) (few_read segment bytes at small (are.batches i nothing within))) (is ∙ ap (λ (n : ℕ). set index n (told_by e)) described.slot) h)
  where
    within : i < length known
    within = let k = described_length known es describe in omega (arith, k, lt)

    at : Placed
    at = get_or known i nothing

    e : Entry
    e = get_or es i d

    described : Describes at e
    described = described_at known es i nothing d describe lt

    split : known ≡ take i known ++ at ∷ drop (i + 1) known
    split = sym (take-append-drop i known) ∙ ap (λ (ps : List Placed). take i known ++ ps) (drop_more known i nothing within)

    at_there : IsThere segment count bytes (headed_of at)
    at_there = All-contains (IsThere segment count bytes) (map headed_of (take i known ++ at ∷ drop (i + 1) known)) (headed_of at)
        (subst (λ (ps : List Placed). All (IsThere segment count bytes) (map headed_of ps)) split are.headers.there) (headed_in (take i known) at (drop (i + 1) known))

    apart : All (λ p. p.slot ≢ at.slot) (take i known)
    apart = apart_before segment count bytes (take i known) at (drop (i + 1) known) (subst (λ (ps : List Placed). RiseBySeq (map headed_of ps)) split are.headers.rising)
        (subst (λ (ps : List Placed). All (IsThere segment count bytes) (map headed_of ps)) split are.headers.there)
