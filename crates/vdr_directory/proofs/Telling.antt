-- What a ring's directory tells of its segments, at each step of an append and as a medium is opened.
use Rattle.std.proofs.Common.{◌≡◌, ◌≢◌, ◌<◌, ◌+◌, ◌-◌, ◌^◌, ℕ, suc, min, List, [], ◌∷◌, ◌++◌, length, map, get_or, set, slice_get, All, Contains, Option, Some, None, option_map, inl, inr, ⊎_elim, refl, sym, ap, ◌∙◌, subst, arith}
use Rattle.std.specs.Prelude.{Any, IfNone, IfSome}
use Rattle.std.proofs.lemmas.Option.{none-some, same_Some, slice_get_within, get_or_from_slice_get}
use Rattle.std.proofs.lemmas.List.{length-map}
use Rattle.std.proofs.lemmas.List.Sums.{sum_by_push}
use Rattle.std.proofs.lemmas.List.Elements.{All-contains, Contains-append_right}
use Rattle.vdr_terms.specs.Records.{Record, last}
use Rattle.vdr_terms.specs.Sizes.{batch_size}
use Rattle.vdr_durability.proofs.Lists.{contains_here, last_behind, last_contained, all_from}
use Rattle.vdr_entry.specs.declared.summary.Summary.{Summary}
use Rattle.vdr_segment.specs.Segments.{Segment, end_of}
use Rattle.vdr_index.specs.Summaries.{IsSummaryOf, Summarises}
use Rattle.vdr_index.proofs.JoinLemmas.{one_summarised}
use Rattle.vdr_index.specs.declared.known.Known.{Known}
use Rattle.vdr_index.specs.Indexes.{IsFirstClear, Keeps}
use Rattle.vdr_directory.specs.declared.newest.Newest.{Newest}
use Rattle.vdr_directory.specs.Sequence.{Placed, seq_of, batches_of, records_of, AreInSequence}
use Rattle.vdr_directory.specs.Order.{HasNone, RunsOn, AreInOrder}
use Rattle.vdr_directory.specs.Directories.{DirectoryState, newest_of, slot_in, summary_at}
use Rattle.vdr_directory.specs.Holds.{Tells}
use Rattle.vdr_directory.specs.Closed.{IsFull, IsLeastClosed}
use Rattle.vdr_directory.specs.Growing.{new_segment, next_seq, with_batch_in}
use Rattle.vdr_directory.specs.Indexed.{IsKnownAs, StandsFor}
use Rattle.vdr_directory.proofs.Placing.{distinct_slots}
use Rattle.vdr_directory.proofs.Ordering.{NewestHasRecords, newest_runs_on, records_with_batch}
use Rattle.vdr_directory.proofs.Filing.{indexed_closed, indexed_begun, indexed_newest}
use Rattle.vdr_directory.proofs.Endings.{ending_in, ending_closed, ending_done, ending_push}
use Rattle.vdr_directory.proofs.Known.{IsInIndex, IsEarlier, any_or_none, empty_last, in_index, not_before_empty}
use Rattle.vdr_directory.proofs.Counting.{as_many, slots_distinct, slot_contained, slot_there}

-- The newest

from_last : (o : Option Placed) (n : Newest) → Some n ≡ option_map newest_of o → (p : Placed) × (o ≡ Some p) × (n ≡ newest_of p)
from_last None n is = absurd (none-some n (sym is))
from_last (Some p) n is = (p, refl, same_Some n (newest_of p) is)

module _ (count : ℕ) (placed : List Placed) (t : DirectoryState) (tells : Tells count placed t) where
  -- which it is
  pub newest_told : (n : Newest) → t.newest ≡ Some n → (p : Placed) × (last placed ≡ Some p) × (n ≡ newest_of p)
  newest_told n is = from_last (last placed) n (sym is ∙ tells.newest)

  pub newest_is : (p : Placed) → last placed ≡ Some p → t.newest ≡ Some (newest_of p)
  newest_is p is = tells.newest ∙ ap (option_map newest_of) is

  -- the number behind its
  pub next_seq_is : AreInOrder placed → (n : Newest) (m : ℕ) → t.newest ≡ Some n → m ≡ min (n.seq + 1) (2 ^ 64 - 1) → m ≡ next_seq (last placed)
  next_seq_is order n m is sum =
      let k = newest_told n is in
      let runs : RunsOn k.0 = newest_runs_on placed k.0 order k.1 in
      let same : n.seq ≡ seq_of k.0 = ap (λ (m : Newest). m.seq) k.2 in
      let low : seq_of k.0 < 2 ^ 63 = runs.low in
      let one : m ≡ suc (seq_of k.0) = omega (arith, same, low, sum) in
      one ∙ ap next_seq (sym k.1)

  -- a segment that is not in the index is the newest
  pub empty_told : AreInOrder placed → (p : Placed) → Contains placed p → HasNone p → t.newest ≡ Some (newest_of p)
  empty_told order p m none = newest_is p (empty_last None placed order p m none)

-- The closed slot of least index

module _ (count : ℕ) (placed : List Placed) (t : DirectoryState) (tells : Tells count placed t) where
  -- a slot that is the newest's has a segment
  newest_there : (j : ℕ) → slot_in t.newest ≡ Some j → (p : Placed) × Contains placed p × (p.slot ≡ j)
  newest_there j = go t.newest refl
    where
      go : (o : Option Newest) → t.newest ≡ o → slot_in o ≡ Some j → (p : Placed) × Contains placed p × (p.slot ≡ j)
      go None is at = absurd (none-some j at)
      go (Some n) is at =
          let k = newest_told count placed t tells n is in
          (k.0, last_contained placed k.0 k.1, sym (ap (λ (m : Newest). m.slot) k.2) ∙ same_Some n.slot j at)

  not_there : (j : ℕ) → All (λ p. p.slot ≢ j) placed → slot_in t.newest ≢ Some j
  not_there j none at = let k = newest_there j at in All-contains (λ p. p.slot ≢ j) placed k.0 none k.1 k.2

  pub least_closed : (slot : ℕ) → AreInOrder placed → IsFirstClear t.index (slot_in t.newest) slot → IsLeastClosed count placed slot
  least_closed slot order f = record {
    within = let w = f.within in let s = tells.index.size in omega (arith, w, s);
    closed = all_from (λ p. p.slot ≢ slot) placed (λ p m e. other p e (in_index count placed t.index tells.index p m) m);
    least = λ j below. ⊎_elim
        (λ (k : Any (λ p. p.slot ≡ j) placed). k)
        (λ (k : All (λ p. p.slot ≢ j) placed). absurd (f.least j below (not_there j k) (tells.index.clear j k)))
        (any_or_none placed j);
  }
    where
      other : (p : Placed) → p.slot ≡ slot → IsInIndex t.index p → Contains placed p → ⊥
      other p e (inr (k, at, is)) m = none-some k (sym f.clear ∙ get_or_from_slice_get t.index slot (Some k) None (subst (λ (j : ℕ). Keeps t.index j k) e at))
      other p e (inl (none, at)) m = f.other (ap slot_in (empty_told count placed t tells order p m none) ∙ ap (λ (j : ℕ). Some j) e)

  -- Where there is none, all slots are open.

  apart : AreInOrder placed → (p q : Placed) → Contains placed p → Contains placed q → IsEarlier p q → p.slot ≢ q.slot
  apart order p q m n e same = go (in_index count placed t.index tells.index p m) (in_index count placed t.index tells.index q n)
    where
      go : IsInIndex t.index p → IsInIndex t.index q → ⊥
      go (inl (none, at)) y = not_before_empty placed order q p n m e none
      go (inr (k, at, is)) (inl (none, at_q)) = none-some k (sym at_q ∙ ap (λ (j : ℕ). get_or t.index j None) (sym same) ∙ get_or_from_slice_get t.index p.slot (Some k) None at)
      go (inr (k, at, is)) (inr (l, at_q, is_q)) =
          let one : k ≡ l = same_Some k l (same_Some (Some k) (Some l) (sym at ∙ (ap (λ (j : ℕ). slice_get t.index j) same ∙ at_q))) in
          let seqs : seq_of p ≡ seq_of q = sym is.seq ∙ (ap (λ (x : Known). x.seq) one ∙ is_q.seq) in
          let lt = e.0 in omega (arith, lt, seqs)

  pub all_open : AreInOrder placed → IfSome t.newest (λ n. n.slot < length t.index) → ((j : ℕ) → j < length t.index → slot_in t.newest ≢ Some j → get_or t.index j None ≢ None) → IsFull count placed
  all_open order low none_clear =
      sym (length-map placed (λ (p : Placed). p.slot))
      ∙ as_many count (map (λ (p : Placed). p.slot) placed) (slots_distinct None placed order (λ p q m n e. apart order p q m n e))
      (λ j m. let k = slot_contained placed j m in below k.0 j k.1 k.2)
      (λ j lt. ⊎_elim
      (λ (k : Any (λ p. p.slot ≡ j) placed). slot_there placed j k)
      (λ (k : All (λ p. p.slot ≢ j) placed). absurd (none_clear j (let s = tells.index.size in omega (arith, lt, s)) (not_there j k) (tells.index.clear j k)))
      (any_or_none placed j))
    where
      within : (p : Placed) → Contains placed p → IsInIndex t.index p → p.slot < length t.index
      within p m (inr (k, at, is)) = slice_get_within t.index p.slot (Some k) at
      within p m (inl (none, at)) = subst (λ (o : Option Newest). IfSome o (λ n. n.slot < length t.index)) (empty_told count placed t tells order p m none) low

      below : (p : Placed) (j : ℕ) → Contains placed p → p.slot ≡ j → j < count
      below p j m is = let w = within p m (in_index count placed t.index tells.index p m) in let s = tells.index.size in omega (arith, w, s, is)

-- what is found of the index
pub closed_some : (t : DirectoryState) (but r : Option ℕ) → but ≡ slot_in t.newest → IfSome r (IsFirstClear t.index but)
    → IfSome r (λ slot. (placed : List Placed) → Tells (length t.index) placed t → AreInOrder placed → IsLeastClosed (length t.index) placed slot)
closed_some t but None e f = tt
closed_some t but (Some slot) e f = λ placed tells order. least_closed (length t.index) placed t tells slot order (subst (λ (o : Option ℕ). IsFirstClear t.index o slot) e f)

pub closed_none : (t : DirectoryState) (but r : Option ℕ) → but ≡ slot_in t.newest → IfSome t.newest (λ n. n.slot < length t.index) → IfNone r ((j : ℕ) → j < length t.index → but ≢ Some j → get_or t.index j None ≢ None)
    → IfNone r ((placed : List Placed) → Tells (length t.index) placed t → AreInOrder placed → IsFull (length t.index) placed)
closed_none t but None e low f = λ placed tells order. all_open (length t.index) placed t tells order low (λ j lt other. f j lt (λ at. other (sym e ∙ at)))
closed_none t but (Some slot) e low f = tt

-- The directory once a slot is closed, a segment begun, and a batch added

last_without : (before : List Placed) (v : Placed) (after : List Placed) → after ≢ [] → last (before ++ v ∷ after) ≡ last (before ++ after)
last_without before v [] some = absurd (some refl)
last_without before v (a ∷ rest) some = last_behind before v (a ∷ rest) ∙ sym (last_behind before a rest)

pub tells_closed : (count : ℕ) (slots : List (Option Segment)) (before : List Placed) (v : Placed) (after : List Placed) (t u : DirectoryState) → Tells count (before ++ v ∷ after) t → AreInSequence slots (before ++ v ∷ after)
    → after ≢ [] → NewestHasRecords (before ++ v ∷ after) → u ≡ record t { index = set t.index v.slot None } → Tells count (before ++ after) u
tells_closed count slots before v after t u tells sequence some newest is = subst (Tells count (before ++ after)) (sym is) (record {
  index = indexed_closed count before v after t.index (set t.index v.slot None) (distinct_slots slots before v after sequence) refl tells.index;
  newest = tells.newest ∙ ap (option_map newest_of) (last_without before v after some);
  ending = tells.ending ∙ sym (ending_closed before v after some newest);
})

pub tells_begun : (count : ℕ) (closed : List Placed) (slot seq first : ℕ) (t u : DirectoryState) → Tells count closed t → All (λ p. p.slot ≢ slot) closed
    → u ≡ record t { newest = Some (record { slot = slot; seq = seq; first = first; end = 64 }) } → Tells count (closed ++ new_segment slot seq first ∷ []) u
tells_begun count closed slot seq first t u tells apart is = subst (Tells count (closed ++ new_segment slot seq first ∷ [])) (sym is) (record {
  index = indexed_begun count closed (new_segment slot seq first) t.index t.index apart refl refl tells.index;
  newest = sym (ap (option_map newest_of) (last_behind closed (new_segment slot seq first) []));
  ending = tells.ending ∙ sym (ending_push closed (new_segment slot seq first));
})

-- what is known of a segment without a summary is that of its records
summarised : (p : Placed) (o : Option Known) → p.segment.header.summary ≡ None → IsKnownAs p o → Summarises (records_of p) (option_map (λ k. k.summary) o)
summarised p None bare none = none
summarised p (Some k) bare is = (subst (λ (o : Option Summary). StandsFor o p k.summary) bare is.summary).summary

pub tells_done : (count : ℕ) (slots : List (Option Segment)) (older : List Placed) (newest : Placed) (records : List Record) (t u : DirectoryState) (n : Newest) (size : ℕ) → AreInSequence slots (older ++ newest ∷ [])
    → length slots ≡ count → newest.segment.header.summary ≡ None → length (records_of (with_batch_in newest records)) < 2 ^ 32 → Tells count (older ++ newest ∷ []) t → t.newest ≡ Some n → size ≡ batch_size records → 0 < length records
    → ((before : List Record) → Summarises before (summary_at t.index n.slot) → (s : Summary) × IsSummaryOf (before ++ records) s × (u.index ≡ set t.index n.slot (Some (record { seq = n.seq; first = n.first; summary = s }))))
    → u.newest ≡ Some (record n { end = n.end + size }) → u.ending ≡ ending_in (records ∷ []) → Tells count (older ++ with_batch_in newest records ∷ []) u
tells_done count slots older newest records t u n size sequence every bare few tells is long some more now_newest now_ending = record {
  index = indexed_newest count older newest (with_batch_in newest records) t.index u.index (Some (record { seq = n.seq; first = n.first; summary = told.0 })) refl within (distinct_slots slots older newest [] sequence).0
      (record {
        seq = ap (λ (m : Newest). m.seq) same;
        first = ap (λ (m : Newest). m.first) same;
        some = λ none. none-some told.0 (one_summarised (records_of (with_batch_in newest records)) None (Some told.0) none summary);
        summary = subst (λ (o : Option Summary). StandsFor o (with_batch_in newest records) told.0) (sym bare) (record { count = let k = summary.count in omega (arith, k, few); summary = summary });
      })
      (told.2 ∙ ap (λ (j : ℕ). set t.index j (Some (record { seq = n.seq; first = n.first; summary = told.0 }))) (ap (λ (m : Newest). m.slot) same)) tells.index;
  newest = now_newest ∙ ap (λ (m : Newest). Some m) grown ∙ sym (ap (option_map newest_of) (last_behind older (with_batch_in newest records) []));
  ending = ending_done older newest records u.ending some now_ending;
}
  where
    same : n ≡ newest_of newest
    same = same_Some n (newest_of newest) (sym is ∙ newest_is count (older ++ newest ∷ []) t tells newest (last_behind older newest []))

    told : (s : Summary) × IsSummaryOf (records_of newest ++ records) s × (u.index ≡ set t.index n.slot (Some (record { seq = n.seq; first = n.first; summary = s })))
    told = more (records_of newest) (subst (λ (j : ℕ). Summarises (records_of newest) (summary_at t.index j)) (sym (ap (λ (m : Newest). m.slot) same))
        (summarised newest (get_or t.index newest.slot None) bare
        (All-contains (λ p. IsKnownAs p (get_or t.index p.slot None)) (older ++ newest ∷ []) newest tells.index.kept (Contains-append_right older (newest ∷ []) newest (contains_here newest [])))))

    summary : IsSummaryOf (records_of (with_batch_in newest records)) told.0
    summary = subst (λ (rs : List Record). IsSummaryOf rs told.0) (sym (records_with_batch newest records)) told.1

    within : newest.slot < count
    within =
        let k = slice_get_within slots newest.slot (Some newest.segment)
        (All-contains (λ p. slice_get slots p.slot ≡ Some (Some p.segment)) (older ++ newest ∷ []) newest sequence.there (Contains-append_right older (newest ∷ []) newest (contains_here newest []))) in
        omega (arith, k, every)

    ends : n.end + size ≡ end_of (with_batch_in newest records).segment
    ends =
        let a : n.end ≡ end_of newest.segment = ap (λ (m : Newest). m.end) same in
        let b = sum_by_push batch_size (batches_of newest) records in omega (arith, a, b, long)

    grown : ◌≡◌ {A = Newest} (record n { end = n.end + size }) (newest_of (with_batch_in newest records))
    grown = λ i. record { slot = (same i).slot; seq = (same i).seq; first = (same i).first; end = ends i }
