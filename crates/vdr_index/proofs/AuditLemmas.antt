-- Batches that agree with a summary, one more at a time, and that there is one answer.
use Rattle.std.proofs.Common.{◌≡◌, ◌≤◌, ◌<◌, ◌+◌, ◌-◌, ℕ, suc, List, [], ◌∷◌, ◌++◌, length, take, drop, All, Some, None, inl, inr, ⊎_elim, refl, sym, ap, ◌∙◌, subst, arith, add-zero}
use Rattle.std.specs.Prelude.{◌⊎◌, slice_get, sum_by}
use Rattle.std.specs.List.{flat_map}
use Rattle.std.proofs.lemmas.List.{length-append, append_assoc, append-nil, append_cancel_left, length-drop}
use Rattle.std.proofs.lemmas.List.Elements.{All-nil, All-cons, All-head, All-tail}
use Rattle.std.proofs.lemmas.Option.{none-some, same_Some}
use Rattle.vdr_terms.specs.Records.{Record, last, last_after}
use Rattle.vdr_terms.specs.Order.{RunOn}
use Rattle.vdr_terms.specs.Sizes.{batch_size}
use Rattle.vdr_terms.proofs.Running.{last_of_run, never_falls_front}
use Rattle.vdr_entry.specs.declared.summary.Summary.{Summary}
use Rattle.vdr_segment.specs.declared.step.Walk.TheVariants.{Batch, Broken}
use Rattle.vdr_segment.specs.Gates.{IsOpenAt}
use Rattle.vdr_segment.specs.Batches.{AreRecords, IsBatch, HasBatchAt, batch_bytes}
use Rattle.vdr_segment.specs.Segments.{AreBatches}
use Rattle.vdr_segment.specs.Walks.{Walks}
use Rattle.vdr_segment.proofs.GateLemmas.{open_byte, open_behind}
use Rattle.vdr_segment.proofs.WalkLemmas.{batch_at}
use Rattle.vdr_segment.proofs.BatchListLemmas.{one_batch, batch_open}
use Rattle.vdr_index.specs.declared.extent.Extent.{Extent}
use Rattle.vdr_index.specs.declared.extent.Survey.{Survey}
use Rattle.vdr_index.specs.Extents.{records_in, first_records, extent_between}
use Rattle.vdr_index.specs.Surveys.{Surveys}
use Rattle.vdr_index.specs.Audits.{IsCovered, AreWithin, Agree, Fails, DisagreesAt}
use Rattle.vdr_bytes.proofs.NumberLemmas.{drop-front}
use Rattle.vdr_segment.proofs.BatchLemmas.{length-batch_bytes}
use Rattle.vdr_index.specs.declared.stretch.Stretch.{Stretch}
use Rattle.vdr_index.specs.Stretches.{ComesTo}
use Rattle.vdr_index.proofs.SpanLemmas.{Front, front_none, front_closed, stands, longer}
use Rattle.vdr_index.proofs.SurveyLemmas.{records_in_more}
use Rattle.vdr_index.proofs.WalkLemmas.{Reached, survey_next, front_next}

-- How many records there are, by their extent

none_begin : (batches : List (List Record)) → first_records batches ≡ [] → records_in batches ≡ []
none_begin [] e = refl
none_begin ([] ∷ bs) e = none_begin bs e
none_begin ((r ∷ rs) ∷ bs) e = let none : ⊥ = cc in absurd none

nothing_between : (rs fs : List Record) → (fs ≡ [] → rs ≡ []) → extent_between (slice_get rs 0) (last rs) (last fs) ≡ None → rs ≡ []
nothing_between [] fs none e = refl
nothing_between (r ∷ rs) [] none e = none refl
nothing_between (r ∷ rs) (f ∷ fs) none e = absurd (none-some _ (sym e))

between : (first : ℕ) (x : Extent) (rs fs : List Record) → extent_between (slice_get rs 0) (last rs) (last fs) ≡ Some x → RunOn first rs → suc (x.last_place - first) ≡ length rs
between first x [] fs e runs = absurd (none-some x e)
between first x (r ∷ rs) [] e runs = absurd (none-some x e)
between first x (r ∷ rs) (f ∷ fs) e runs =
    let a : (last_after r rs).place ≡ x.last_place = ap (λ (x : Extent). x.last_place) (same_Some _ x e) in
    let b = last_of_run first r rs runs in
    omega (arith, a, b)

pub none_counted : (first : ℕ) (batches : List (List Record)) (s : Survey) → Surveys first batches s → s.extent ≡ None → length (records_in batches) ≡ 0
none_counted first batches s v none = ap length (nothing_between (records_in batches) (first_records batches) (none_begin batches) (sym v.extent ∙ none))

pub some_counted : (first : ℕ) (batches : List (List Record)) (s : Survey) (x : Extent) → Surveys first batches s → s.extent ≡ Some x → RunOn first (records_in batches)
    → suc (x.last_place - first) ≡ length (records_in batches)
some_counted first batches s x v is runs = between first x (records_in batches) (first_records batches) (sym v.extent ∙ is) runs

-- The first of some that agree do

run_on_front : (place : ℕ) (xs ys : List Record) → RunOn place (xs ++ ys) → RunOn place xs
run_on_front place [] ys h = tt
run_on_front place (x ∷ xs) ys h = (h.0, run_on_front (suc place) xs ys h.1)

all_front : (P : Record → Type 0) (xs ys : List Record) → All P (xs ++ ys) → All P xs
all_front P [] ys h = All-nil P
all_front P (x ∷ xs) ys h = All-cons P x xs (All-head P x (xs ++ ys) h) (all_front P xs ys (All-tail P x (xs ++ ys) h))

pub within_front : (first : ℕ) (s : Summary) (xs ys : List Record) → AreWithin first s (xs ++ ys) → AreWithin first s xs
within_front first s xs ys h = record {
  places = run_on_front first xs ys h.places;
  ticks = never_falls_front 0 xs ys h.ticks;
  count = let a = h.count in omega (arith, a, length-append xs ys);
  covered = all_front (IsCovered s) xs ys h.covered;
}

pub within_none : (first : ℕ) (s : Summary) → AreWithin first s []
within_none first s = record { places = tt; ticks = tt; count = omega arith; covered = All-nil (IsCovered s) }

-- One front

module _ (first : ℕ) (s : Summary) where
  -- no batch stands at the front of these bytes that agrees behind these records
  abbrev Ends : List Record → List ℕ → Type 0
  Ends records rest = (b : List Record) → HasBatchAt rest 0 b → AreWithin first s (records ++ b) → ⊥

  -- behind these records the bytes are these batches, which agree, and a rest where they end
  record Along (before : List Record) (bytes : List ℕ) (front : List (List Record)) (rest : List ℕ) : Type 0 where
    legal : All IsBatch front
    spelled : bytes ≡ flat_map batch_bytes front ++ rest
    some : 0 < length rest
    within : AreWithin first s (before ++ records_in front)
    ends : Ends (before ++ records_in front) rest

  regrouped : (before b : List Record) (bs : List (List Record)) → before ++ records_in (b ∷ bs) ≡ (before ++ b) ++ records_in bs
  regrouped before b bs = sym (append_assoc before b (records_in bs))

  first_stands : (before b : List Record) (bs : List (List Record)) (bytes rest : List ℕ) → Along before bytes (b ∷ bs) rest → HasBatchAt bytes 0 b
  first_stands before b bs bytes rest k =
      stands bytes (flat_map batch_bytes bs ++ rest) b (All-head IsBatch b bs k.legal) (k.spelled ∙ append_assoc (batch_bytes b) (flat_map batch_bytes bs) rest) (longer (flat_map batch_bytes bs) rest k.some)

  next_within : (before b : List Record) (bs : List (List Record)) (bytes rest : List ℕ) → Along before bytes (b ∷ bs) rest → AreWithin first s (before ++ b)
  next_within before b bs bytes rest k = within_front first s (before ++ b) (records_in bs) (subst (λ (rs : List Record). AreWithin first s rs) (regrouped before b bs) k.within)

  behind_first : (before b : List Record) (bs : List (List Record)) (bytes rest : List ℕ) → Along before bytes (b ∷ bs) rest → Along (before ++ b) (drop (batch_size b) bytes) bs rest
  behind_first before b bs bytes rest k = record {
    legal = All-tail IsBatch b bs k.legal;
    spelled = ap (λ (xs : List ℕ). drop (batch_size b) xs) (k.spelled ∙ append_assoc (batch_bytes b) (flat_map batch_bytes bs) rest)
        ∙ drop-front (batch_size b) (batch_bytes b) (flat_map batch_bytes bs ++ rest) (length-batch_bytes b);
    some = k.some;
    within = subst (λ (rs : List Record). AreWithin first s rs) (regrouped before b bs) k.within;
    ends = subst (λ (rs : List Record). Ends rs rest) (regrouped before b bs) k.ends;
  }

  -- where one ends, the other has no batch more
  no_more : (before q : List Record) (qs : List (List Record)) (bytes r t : List ℕ) → Along before bytes [] r → Along before bytes (q ∷ qs) t → ⊥
  no_more before q qs bytes r t j k =
      j.ends q (subst (λ (xs : List ℕ). HasBatchAt xs 0 q) j.spelled (first_stands before q qs bytes t k))
      (subst (λ (rs : List Record). AreWithin first s (rs ++ q)) (sym (append-nil before)) (next_within before q qs bytes t k))

  one_front : (before : List Record) (bytes r t : List ℕ) (ps qs : List (List Record)) → Along before bytes ps r → Along before bytes qs t → ps ≡ qs
  one_front before bytes r t [] [] j k = refl
  one_front before bytes r t [] (q ∷ qs) j k = absurd (no_more before q qs bytes r t j k)
  one_front before bytes r t (p ∷ ps) [] j k = absurd (no_more before p ps bytes t r k j)
  one_front before bytes r t (p ∷ ps) (q ∷ qs) j k =
      let same : p ≡ q = one_batch bytes 0 p q (first_stands before p ps bytes r j) (first_stands before q qs bytes t k) in
      let behind : Along (before ++ p) (drop (batch_size p) bytes) qs t =
      subst (λ (x : List Record). Along (before ++ x) (drop (batch_size x) bytes) qs t) (sym same) (behind_first before q qs bytes t k) in
      let rest : ps ≡ qs = one_front (before ++ p) (drop (batch_size p) bytes) r t ps qs (behind_first before p ps bytes r j) behind in
      ap (λ (x : List Record). x ∷ ps) same ∙ ap (λ (xs : List (List Record)). q ∷ xs) rest

  fails_ends : (segment : List ℕ) (at : ℕ) (records : List Record) → Fails segment at first s records → Ends records (drop at segment)
  fails_ends segment at records f b h w =
      let here : HasBatchAt segment at b = batch_at segment at b h in
      ⊎_elim
      (λ (broken : Walks segment at Broken). broken.1 b here)
      (λ (others : ((batch : List Record) × HasBatchAt segment at batch × (AreWithin first s (records ++ batch) → ⊥)) ⊎ ((IsOpenAt segment at → ⊥) × (length records < s.count))). ⊎_elim
      (λ (other : (batch : List Record) × HasBatchAt segment at batch × (AreWithin first s (records ++ batch) → ⊥)).
      other.2 (subst (λ (x : List Record). AreWithin first s (records ++ x)) (one_batch segment at b other.0 here other.1) w))
      (λ (few : (IsOpenAt segment at → ⊥) × (length records < s.count)). few.0 (batch_open segment at b here))
      others)
      f

  differing_along : (segment : List ℕ) (at : ℕ) → (d : DisagreesAt segment first s at) → Along [] (drop 64 segment) d.front (drop at segment)
  differing_along segment at d = record {
    legal = d.legal;
    spelled = d.spelled;
    some = let a = d.inside in omega (arith, length-drop at segment, a);
    within = d.within;
    ends = fails_ends segment at (records_in d.front) d.fails;
  }

  agreeing_along : (segment : List ℕ) (bs : List (List Record)) → (a : AreBatches (drop 64 segment) bs) → AreWithin first s (records_in bs) → Along [] (drop 64 segment) bs (a.gate ∷ a.rest)
  agreeing_along segment bs a w = record {
    legal = a.legal;
    spelled = a.spelled;
    some = omega arith;
    within = w;
    ends = λ b h _. a.closed (open_byte (a.gate ∷ a.rest) 0 (batch_open (a.gate ∷ a.rest) 0 b h));
  }

  pub one_difference : (segment : List ℕ) (m n : ℕ) → DisagreesAt segment first s m → DisagreesAt segment first s n → m ≡ n
  one_difference segment m n j k =
      j.behind ∙ ap (λ (bs : List (List Record)). 64 + sum_by batch_size bs)
      (one_front [] (drop 64 segment) (drop m segment) (drop n segment) j.front k.front (differing_along segment m j) (differing_along segment n k)) ∙ sym k.behind

  pub never_agrees : (segment : List ℕ) (bs : List (List Record)) (at : ℕ) → AreBatches (drop 64 segment) bs → Agree first s bs → DisagreesAt segment first s at → ⊥
  never_agrees segment bs at a g d =
      ⊎_elim
      (λ (broken : Walks segment at Broken). opened broken.0)
      (λ (others : ((batch : List Record) × HasBatchAt segment at batch × (AreWithin first s (records_in d.front ++ batch) → ⊥)) ⊎ ((IsOpenAt segment at → ⊥) × (length (records_in d.front) < s.count))). ⊎_elim
      (λ (other : (batch : List Record) × HasBatchAt segment at batch × (AreWithin first s (records_in d.front ++ batch) → ⊥)). opened (batch_open segment at other.0 other.1))
      (λ (few : (IsOpenAt segment at → ⊥) × (length (records_in d.front) < s.count)). lacking few.1)
      others)
      d.fails
    where
      same : bs ≡ d.front
      same = one_front [] (drop 64 segment) (a.gate ∷ a.rest) (drop at segment) bs d.front (agreeing_along segment bs a g.within) (differing_along segment at d)

      rest : a.gate ∷ a.rest ≡ drop at segment
      rest = append_cancel_left (flat_map batch_bytes bs) _ _ (sym a.spelled ∙ d.spelled ∙ ap (λ (xs : List (List Record)). flat_map batch_bytes xs ++ drop at segment) (sym same))

      opened : IsOpenAt segment at → ⊥
      opened stands =
          let there : IsOpenAt (drop at segment) 0 = open_behind segment at 0 (subst (λ (n : ℕ). IsOpenAt segment n) (sym (add-zero at)) stands) in
          a.closed (open_byte (a.gate ∷ a.rest) 0 (subst (λ (xs : List ℕ). IsOpenAt xs 0) (sym rest) there))

      lacking : length (records_in d.front) < s.count → ⊥
      lacking less = let count = g.count in let e = ap (λ (xs : List (List Record)). length (records_in xs)) same in omega (arith, less, count, e)

-- As the segment is walked over

-- The survey is that of the batches up to its end, which agree.
pub record Audited (segment : List ℕ) (first : ℕ) (s : Summary) (found : Survey) : Type 0 where
  pub batches : List (List Record)
  pub front : Front segment found.end batches
  pub survey : Surveys first batches found
  pub within : AreWithin first s (records_in batches)

pub reached : (segment : List ℕ) (first : ℕ) (s : Summary) (found : Survey) → Audited segment first s found → Reached segment first found
reached segment first s found a = record { batches = a.batches; front = a.front; survey = a.survey }

pub audited_none : (segment : List ℕ) (first : ℕ) (s : Summary) (found : Survey) → 65 ≤ length segment → Surveys first [] found → Audited segment first s found
audited_none segment first s found long v = record {
  batches = [];
  front = subst (λ (n : ℕ). Front segment n []) (sym v.end) (front_none segment long);
  survey = v;
  within = within_none first s;
}

differs : (segment : List ℕ) (first : ℕ) (s : Summary) (found : Survey) → (a : Audited segment first s found) → Fails segment found.end first s (records_in a.batches) → DisagreesAt segment first s found.end
differs segment first s found a f = record {
  front = a.batches;
  legal = a.front.legal;
  spelled = a.front.spelled;
  behind = a.front.behind;
  inside = a.front.inside;
  within = a.within;
  fails = f;
}

pub differs_broken : (segment : List ℕ) (first : ℕ) (s : Summary) (found : Survey) → Audited segment first s found → Walks segment found.end Broken → DisagreesAt segment first s found.end
differs_broken segment first s found a broken = differs segment first s found a (inl broken)

-- where its batches end
module _ (segment : List ℕ) (first : ℕ) (s : Summary) (found : Survey) (a : Audited segment first s found) (closed : IsOpenAt segment found.end → ⊥) where
  pub agrees : s.count ≤ length (records_in a.batches) → (batches : List (List Record)) × AreBatches (drop 64 segment) batches × Agree first s batches
  agrees enough =
      let most = a.within.count in (a.batches, front_closed segment found.end a.batches a.front closed, record { within = a.within; count = omega (arith, enough, most) })

  pub differs_few : (s.count ≤ length (records_in a.batches) → ⊥) → DisagreesAt segment first s found.end
  differs_few few = differs segment first s found a (inr (inr (closed, omega (arith, few))))

-- one batch more
module _ (segment : List ℕ) (first : ℕ) (s : Summary) (found next : Survey) (from to : ℕ) (t : Stretch) (a : Audited segment first s found) (w : Walks segment found.end (Batch from to))
    (c : (records : List Record) × AreRecords (take (to - from) (drop from segment)) records × ComesTo records t)
    (joined : (bs : List (List Record)) (rs : List Record) → Surveys first bs found → ComesTo rs t → to ≡ found.end + batch_size rs → Surveys first (bs ++ rs ∷ []) next) where
  survey_more : Surveys first (a.batches ++ w.0 ∷ []) next
  survey_more = survey_next segment first found next from to t (record { batches = a.batches; front = a.front; survey = a.survey }) w c joined

  front_more : Front segment to (a.batches ++ w.0 ∷ [])
  front_more = front_next segment first found next from to t (record { batches = a.batches; front = a.front; survey = a.survey }) w c joined

  -- that agrees
  pub audited_more : ((bs : List (List Record)) → Surveys first bs next → AreWithin first s (records_in bs)) → Audited segment first s next
  audited_more judged = record {
    batches = a.batches ++ w.0 ∷ [];
    front = subst (λ (n : ℕ). Front segment n (a.batches ++ w.0 ∷ [])) (front_more.behind ∙ sym survey_more.end) front_more;
    survey = survey_more;
    within = judged (a.batches ++ w.0 ∷ []) survey_more;
  }

  -- that does not
  pub differs_batch : ((bs : List (List Record)) → Surveys first bs next → AreWithin first s (records_in bs) → ⊥) → DisagreesAt segment first s found.end
  differs_batch judged =
      differs segment first s found a
      (inr (inl (w.0, w.1, λ within. judged (a.batches ++ w.0 ∷ []) survey_more (subst (λ (rs : List Record). AreWithin first s rs) (sym (records_in_more a.batches w.0)) within))))
