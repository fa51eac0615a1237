-- What a ring's index keeps of its segments, at each step of an append and as a medium is opened.
use Rattle.std.proofs.Common.{◌≡◌, ◌≢◌, ◌<◌, ◌≤◌, ◌+◌, ◌*◌, ◌^◌, ℕ, zero, suc, List, [], ◌∷◌, ◌++◌, length, get_or, set, take, drop, slice_get, All, Contains, Option, Some, None, inl, inr, ⊎_elim, refl, sym, ap, ◌∙◌, subst, arith, length-set, length-append, length-drop}
use Rattle.std.specs.Prelude.{◌⊎◌, option_map, replicate}
use Rattle.std.specs.List.{flat_map, sum_by}
use Rattle.std.proofs.lemmas.Bool.{cases_eq, cases_lt}
use Rattle.std.proofs.lemmas.List.{get_or-set_same, get_or-set_other, get_or_past, get_or-replicate, length-replicate, take_more, drop_more, take-append-drop}
use Rattle.std.proofs.lemmas.List.Sums.{sum_by-cons}
use Rattle.std.proofs.lemmas.List.Elements.{All-nil, All-cons, All-push, All-append, All-contains, Contains-append_left, Contains-append_right, Contains-append_cases}
use Rattle.std.proofs.lemmas.Option.{none-some, slice_get_within}
use Rattle.vdr_terms.specs.Records.{Record}
use Rattle.vdr_terms.specs.Sizes.{batch_size, record_size, records_size}
use Rattle.vdr_entry.specs.declared.summary.Summary.{Summary}
use Rattle.vdr_segment.specs.Batches.{batch_bytes}
use Rattle.vdr_segment.specs.Segments.{Segment, AreBatches}
use Rattle.vdr_segment.proofs.ChangeLemmas.{length-batches}
use Rattle.vdr_segment.specs.Slots.{place_of}
use Rattle.vdr_segment.proofs.Holding.{slot_of, slot_long}
use Rattle.vdr_outside.specs.Parts.{part}
use Rattle.vdr_index.specs.declared.extent.Survey.{Survey}
use Rattle.vdr_index.specs.Extents.{records_in}
use Rattle.vdr_index.specs.Summaries.{IsSummaryOf, Summarises}
use Rattle.vdr_index.proofs.JoinLemmas.{one_summarised}
use Rattle.vdr_durability.proofs.Lists.{contains_here, contains_there, contains_cases, all_from}
use Rattle.vdr_index.specs.declared.known.Known.{Known}
use Rattle.vdr_directory.specs.declared.entry.Entry.{Entry}
use Rattle.vdr_directory.specs.Sequence.{Placed, batches_of, records_of, AreInSequence}
use Rattle.vdr_directory.specs.Order.{AreInPlace, AreInOrder, HasNone, MayPrecede}
use Rattle.vdr_directory.specs.Entries.{Describes, Describe}
use Rattle.vdr_directory.specs.Holds.{HoldsPlaced}
use Rattle.vdr_directory.proofs.Placing.{distinct_slots}
use Rattle.vdr_directory.specs.Leaving.{IsExact}
use Rattle.vdr_directory.specs.Indexed.{IsKnownAs, IsIndexed, StandsFor, summary_by, told_by}
use Rattle.vdr_directory.proofs.Extents.{IsBare, IsSummarized, bare_or_not}

-- How many records a segment has

records_of_batch : (rs : List Record) → 44 * length rs ≤ records_size rs
records_of_batch [] = omega arith
records_of_batch (r ∷ rs) = let k = records_of_batch rs in let e = sum_by-cons record_size r rs in omega (arith, k, e)

records_of_batches : (bs : List (List Record)) → length (records_in bs) ≤ sum_by batch_size bs
records_of_batches [] = omega arith
records_of_batches (b ∷ bs) =
    let k = records_of_batches bs in
    let here = records_of_batch b in
    let long = length-append b (records_in bs) in
    let e = sum_by-cons batch_size b bs in omega (arith, k, here, long, e)

-- as many as have room in its bytes, at the most
pub few_in_bytes : (bytes : List ℕ) (bs : List (List Record)) → AreBatches bytes bs → length (records_in bs) ≤ length bytes
few_in_bytes bytes bs a =
    let k = records_of_batches bs in
    let l = length-batches bs in
    let s = ap length a.spelled in
    let e = length-append (flat_map batch_bytes bs) (a.gate ∷ a.rest) in omega (arith, k, l, s, e)

pub length_drop : (n : ℕ) (xs : List ℕ) → length (drop n xs) ≤ length xs
length_drop n xs = let e = length-drop n xs in omega (arith, e)

pub few_records : (segment count : ℕ) (placed : List Placed) (bytes : List ℕ) → segment < 2 ^ 32 → HoldsPlaced segment count placed bytes → All (λ p. length (records_of p) < 2 ^ 32) placed
few_records segment count placed bytes small h = all_from (λ p. length (records_of p) < 2 ^ 32) placed (λ p m.
    let at = All-contains (λ p. slice_get h.slots p.slot ≡ Some (Some p.segment)) placed p h.sequence.there m in
    let k = few_in_bytes (drop 64 (part bytes (place_of segment p.slot) segment)) (batches_of p) (slot_of segment p.slot h.slots (Some p.segment) bytes h.holds at).1.batches in
    let l = length_drop 64 (part bytes (place_of segment p.slot) segment) in
    let s = slot_long segment p.slot h.slots bytes h.holds (slice_get_within h.slots p.slot (Some p.segment) at) in
    omega (arith, small, k, l, s))

-- What an entry tells

pub known_as : (p : Placed) (e : Entry) → Describes p e → ((s : Summary) → p.segment.header.summary ≡ Some s → HasNone p → ⊥) → length (records_of p) < 2 ^ 32 → IsKnownAs p (told_by e)
known_as p e d has few = go (bare_or_not p e d)
  where
    Told : Option Summary → Type 0
    Told o = IsKnownAs p (option_map (λ s. record { seq = e.seq; first = e.first; summary = s }) o)

    exact : (s : Summary) → IsSummaryOf (records_of p) s → IsExact p s
    exact s is = record { count = let k = is.count in omega (arith, k, few); summary = is }

    own : p.segment.header.summary ≡ None → (o : Option Summary) → Summarises (records_of p) o → Told o
    own none None is = is
    own none (Some s) is = record {
      seq = d.seq;
      first = d.first;
      some = λ empty. none-some s (one_summarised (records_of p) None (Some s) empty is);
      summary = subst (λ (header : Option Summary). StandsFor header p s) (sym none) (exact s is);
    }

    go : IsBare p e ⊎ IsSummarized p e → IsKnownAs p (told_by e)
    go (inl b) = subst (λ (x : Option Summary × Option Survey). Told (summary_by x.0 x.1)) (λ i. (sym b.header i, sym b.is i)) (own b.none b.survey.summary b.surveys.summary)
    go (inr t) = subst (λ (o : Option Summary). Told (summary_by o e.survey)) (sym t.header) (record {
      seq = d.seq;
      first = d.first;
      some = has t.summary t.some;
      summary = subst (λ (header : Option Summary). StandsFor header p t.summary) (sym t.some) refl;
    })

-- In a legal order a segment that has a summary has records.
summarized_have : (o : Option Placed) (ps : List Placed) → AreInPlace o ps → All (λ p. (s : Summary) → p.segment.header.summary ≡ Some s → HasNone p → ⊥) ps
summarized_have o [] h = All-nil (λ (p : Placed). (s : Summary) → p.segment.header.summary ≡ Some s → HasNone p → ⊥)
summarized_have o (p ∷ ps) h =
    All-cons (λ (p : Placed). (s : Summary) → p.segment.header.summary ≡ Some s → HasNone p → ⊥) p ps (go ps h.0.precedes) (summarized_have (Some p) ps h.1)
  where
    go : (ps : List Placed) → MayPrecede p ps → (s : Summary) → p.segment.header.summary ≡ Some s → HasNone p → ⊥
    go [] none s is empty = none-some s (sym none ∙ is)
    go (q ∷ []) h s is empty = h.0 empty
    go (q ∷ x ∷ rest) h s is empty = h empty

-- Slots

at_other : (index : List (Option Known)) (slot : ℕ) (o : Option Known) (ps : List Placed) → All (λ p. p.slot ≢ slot) ps → All (λ p. IsKnownAs p (get_or index p.slot None)) ps
    → All (λ p. IsKnownAs p (get_or (set index slot o) p.slot None)) ps
at_other index slot o ps apart kept = all_from (λ p. IsKnownAs p (get_or (set index slot o) p.slot None)) ps (λ p m.
    subst (IsKnownAs p) (sym (get_or-set_other index slot p.slot o None (All-contains (λ p. p.slot ≢ slot) ps p apart m)))
    (All-contains (λ p. IsKnownAs p (get_or index p.slot None)) ps p kept m))

set_none : (index : List (Option Known)) (slot : ℕ) → get_or (set index slot None) slot None ≡ None
set_none index slot = ⊎_elim
    (λ (lt : slot < length index). get_or-set_same index slot None None lt)
    (λ (past : length index ≤ slot). get_or_past (set index slot None) slot None (let e = length-set index slot None in omega (arith, past, e)))
    (cases_lt slot (length index))

part_of : (before : List Placed) (v : Placed) (after : List Placed) (P : Placed → Type 0) → All P (before ++ v ∷ after) → All P (before ++ after)
part_of before v after P h = All-append P before after
    (all_from P before (λ p m. All-contains P (before ++ v ∷ after) p h (Contains-append_left before (v ∷ after) p m)))
    (all_from P after (λ p m. All-contains P (before ++ v ∷ after) p h (Contains-append_right before (v ∷ after) p (contains_there v after p m))))

-- a slot is closed
pub indexed_closed : (count : ℕ) (before : List Placed) (v : Placed) (after : List Placed) (index now : List (Option Known)) → All (λ p. p.slot ≢ v.slot) before × All (λ p. p.slot ≢ v.slot) after
    → now ≡ set index v.slot None → IsIndexed count (before ++ v ∷ after) index → IsIndexed count (before ++ after) now
indexed_closed count before v after index now apart is h = subst (IsIndexed count (before ++ after)) (sym is) (record {
  size = length-set index v.slot None ∙ h.size;
  kept = at_other index v.slot None (before ++ after) (All-append (λ p. p.slot ≢ v.slot) before after apart.0 apart.1)
      (part_of before v after (λ p. IsKnownAs p (get_or index p.slot None)) h.kept);
  clear = λ j none. ⊎_elim
      (λ (e : j ≡ v.slot). subst (λ (k : ℕ). get_or (set index v.slot None) k None ≡ None) (sym e) (set_none index v.slot))
      (λ (ne : j ≡ v.slot → ⊥). get_or-set_other index v.slot j None None ne
      ∙ h.clear j (all_from (λ p. p.slot ≢ j) (before ++ v ∷ after) (λ p m e. ⊎_elim
      (λ (k : Contains before p). All-contains (λ p. p.slot ≢ j) (before ++ after) p none (Contains-append_left before after p k) e)
      (λ (k : Contains (v ∷ after) p). ⊎_elim
      (λ (same : v ≡ p). ne (sym (ap (λ (p : Placed). p.slot) same ∙ e)))
      (λ (l : Contains after p). All-contains (λ p. p.slot ≢ j) (before ++ after) p none (Contains-append_right before after p l) e)
      (contains_cases v after p k))
      (Contains-append_cases before (v ∷ after) p m))))
      (cases_eq j v.slot);
})

-- a segment without records comes
pub indexed_begun : (count : ℕ) (placed : List Placed) (new : Placed) (index now : List (Option Known)) → All (λ p. p.slot ≢ new.slot) placed → HasNone new → now ≡ index
    → IsIndexed count placed index → IsIndexed count (placed ++ new ∷ []) now
indexed_begun count placed new index now apart none is h = subst (IsIndexed count (placed ++ new ∷ [])) (sym is) (record {
  size = h.size;
  kept = All-push (λ p. IsKnownAs p (get_or index p.slot None)) placed new h.kept (subst (IsKnownAs new) (sym (h.clear new.slot apart)) none);
  clear = λ j other. h.clear j (all_from (λ p. p.slot ≢ j) placed (λ p m. All-contains (λ p. p.slot ≢ j) (placed ++ new ∷ []) p other (Contains-append_left placed (new ∷ []) p m)));
})

-- this is known of one more
pub indexed_next : (count : ℕ) (placed : List Placed) (new : Placed) (index now : List (Option Known)) (o : Option Known) → new.slot < count → All (λ p. p.slot ≢ new.slot) placed → IsKnownAs new o
    → now ≡ set index new.slot o → IsIndexed count placed index → IsIndexed count (placed ++ new ∷ []) now
indexed_next count placed new index now o within apart known is h = subst (IsIndexed count (placed ++ new ∷ [])) (sym is) (record {
  size = length-set index new.slot o ∙ h.size;
  kept = All-push (λ p. IsKnownAs p (get_or (set index new.slot o) p.slot None)) placed new (at_other index new.slot o placed apart h.kept)
      (subst (IsKnownAs new) (sym (get_or-set_same index new.slot o None (let s = h.size in omega (arith, s, within)))) known);
  clear = λ j other.
      get_or-set_other index new.slot j o None (λ e. All-contains (λ p. p.slot ≢ j) (placed ++ new ∷ []) new other (Contains-append_right placed (new ∷ []) new (contains_here new [])) (sym e))
      ∙ h.clear j (all_from (λ p. p.slot ≢ j) placed (λ p m. All-contains (λ p. p.slot ≢ j) (placed ++ new ∷ []) p other (Contains-append_left placed (new ∷ []) p m)));
})

-- this is known of the newest
pub indexed_newest : (count : ℕ) (older : List Placed) (newest now : Placed) (index new : List (Option Known)) (o : Option Known) → now.slot ≡ newest.slot → newest.slot < count
    → All (λ p. p.slot ≢ newest.slot) older → IsKnownAs now o → new ≡ set index newest.slot o → IsIndexed count (older ++ newest ∷ []) index → IsIndexed count (older ++ now ∷ []) new
indexed_newest count older newest now index new o same within apart known is h = subst (IsIndexed count (older ++ now ∷ [])) (sym is) (record {
  size = length-set index newest.slot o ∙ h.size;
  kept = All-push (λ p. IsKnownAs p (get_or (set index newest.slot o) p.slot None)) older now
      (at_other index newest.slot o older apart
      (all_from (λ p. IsKnownAs p (get_or index p.slot None)) older (λ p m. All-contains (λ p. IsKnownAs p (get_or index p.slot None)) (older ++ newest ∷ []) p h.kept (Contains-append_left older (newest ∷ []) p m))))
      (subst (IsKnownAs now)
      (sym (ap (λ (j : ℕ). get_or (set index newest.slot o) j None) same ∙ get_or-set_same index newest.slot o None (let s = h.size in omega (arith, s, within)))) known);
  clear = λ j other.
      let ne : j ≢ newest.slot = λ e. All-contains (λ p. p.slot ≢ j) (older ++ now ∷ []) now other (Contains-append_right older (now ∷ []) now (contains_here now [])) (same ∙ sym e) in
      get_or-set_other index newest.slot j o None ne
      ∙ h.clear j (All-push (λ p. p.slot ≢ j) older newest
      (all_from (λ p. p.slot ≢ j) older (λ p m. All-contains (λ p. p.slot ≢ j) (older ++ now ∷ []) p other (Contains-append_left older (now ∷ []) p m))) (λ e. ne (sym e)));
})

-- As a medium is opened

pub described_length : (ps : List Placed) (es : List Entry) → Describe ps es → length ps ≡ length es
described_length [] [] h = refl
described_length [] (e ∷ es) h = absurd h
described_length (p ∷ ps) [] h = absurd h
described_length (p ∷ ps) (e ∷ es) h = let k = described_length ps es h.1 in omega (arith, k)

pub described_at : (ps : List Placed) (es : List Entry) (i : ℕ) (x : Placed) (d : Entry) → Describe ps es → i < length es → Describes (get_or ps i x) (get_or es i d)
described_at [] [] i x d h lt = absurd (omega (arith, lt))
described_at [] (e ∷ es) i x d h lt = absurd h
described_at (p ∷ ps) [] i x d h lt = absurd h
described_at (p ∷ ps) (e ∷ es) zero x d h lt = h.0
described_at (p ∷ ps) (e ∷ es) (suc i) x d h lt = described_at ps es i x d h.1 (omega (arith, lt))

pub indexed_none : (count : ℕ) (index : List (Option Known)) → index ≡ replicate count None → IsIndexed count [] index
indexed_none count index is = subst (IsIndexed count []) (sym is) (record {
  size = length-replicate {A = Option Known} count None;
  kept = λ i d lt. absurd (omega (arith, lt));
  clear = λ j none. ⊎_elim
      (λ (lt : j < count). get_or-replicate {A = Option Known} count j None None lt)
      (λ (past : count ≤ j). get_or_past (replicate count None) j None (let e = length-replicate {A = Option Known} count None in omega (arith, past, e)))
      (cases_lt j count);
})

-- no segment, to be read where there is none
pub nothing : Placed
nothing = record { slot = 0; segment = record { header = record { seq = 0; first = 0; summary = None }; batches = [] } }

-- one more segment is told
pub indexed_more : (count : ℕ) (slots : List (Option Segment)) (placed : List Placed) (es : List Entry) (i : ℕ) (index now : List (Option Known)) (d : Entry) → AreInSequence slots placed → length slots ≡ count
    → All (λ p. length (records_of p) < 2 ^ 32) placed → AreInOrder placed → Describe placed es → i < length es → now ≡ set index (get_or es i d).slot (told_by (get_or es i d)) → IsIndexed count (take i placed) index
    → IsIndexed count (take (i + 1) placed) now
indexed_more count slots placed es i index now d sequence every few order describe lt is h =
    subst (λ (ps : List Placed). IsIndexed count ps now) (sym (take_more placed i none within))
    (indexed_next count (take i placed) at index now (told_by e) there_within apart (known_as at e described (summarized_have None placed order i none within) (few i none within)) (is ∙ ap (λ (n : ℕ). set index n (told_by e)) described.slot) h)
  where
    none : Placed
    none = nothing

    within : i < length placed
    within = let k = described_length placed es describe in omega (arith, k, lt)

    at : Placed
    at = get_or placed i none

    e : Entry
    e = get_or es i d

    described : Describes at e
    described = described_at placed es i none d describe lt

    split : placed ≡ take i placed ++ at ∷ drop (i + 1) placed
    split = sym (take-append-drop i placed) ∙ ap (λ (ps : List Placed). take i placed ++ ps) (drop_more placed i none within)

    apart : All (λ p. p.slot ≢ at.slot) (take i placed)
    apart = (distinct_slots slots (take i placed) at (drop (i + 1) placed) (subst (AreInSequence slots) split sequence)).0

    there_within : at.slot < count
    there_within = let k = slice_get_within slots at.slot (Some at.segment) (sequence.there i none within) in omega (arith, k, every)

-- a slot of an entry is one of the index
pub slot_within : (es : List Entry) (n : ℕ) (index : List (Option Known)) (i : ℕ) (d : Entry) → All (λ e. e.slot < n) es → length index ≡ n → i < length es → (get_or es i d).slot < length index
slot_within es n index i d below size lt = let b = below i d lt in omega (arith, b, size)
