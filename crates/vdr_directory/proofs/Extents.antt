-- What an entry tells of a segment: by the summary of its header where it has one, else by the extent of its survey.
use Rattle.std.proofs.Common.{◌≡◌, ◌≤◌, ◌-◌, ℕ, suc, List, [], ◌∷◌, length, slice_get, Option, Some, None, inl, inr, refl, sym, ap, ◌∙◌, subst, arith}
use Rattle.std.specs.Prelude.{◌⊎◌, ◌↔◌, IsTrue, SomeIff, is_some}
use Rattle.std.proofs.Common.{leb}
use Rattle.std.proofs.lemmas.Bool.{leb-true, le-leb}
use Rattle.std.proofs.lemmas.Option.{none-some, same_Some}
use Rattle.vdr_terms.specs.Records.{Record, last, last_after}
use Rattle.vdr_durability.specs.Layout.{segment_records}
use Rattle.vdr_entry.specs.declared.summary.Summary.{Summary}
use Rattle.vdr_index.specs.declared.extent.Extent.{Extent}
use Rattle.vdr_index.specs.declared.extent.Survey.{Survey}
use Rattle.vdr_index.specs.Summaries.{IsSummaryOf, Summarises}
use Rattle.vdr_index.specs.Surveys.{Surveys}
use Rattle.vdr_index.specs.Extents.{records_in, first_records, extent_between}
use Rattle.vdr_directory.specs.declared.entry.Entry.{Entry}
use Rattle.vdr_directory.specs.Sequence.{Placed, first_of, batches_of}
use Rattle.vdr_directory.specs.Knowns.{summary_of, batches_read, records_read, known_count, next_known, begin_by, count_by, end_by, HasNoneBy, RunsOnBy, TicksRiseBy, SecondsRiseBy, FollowsBy}
use Rattle.vdr_directory.specs.Entries.{Describes, SurveysUnless}
use Rattle.vdr_directory.specs.Indexed.{extent_by, summary_by}
use Rattle.vdr_directory.proofs.Runs.{after_last}

-- The extent is that of these records, at least one.
pub record Reaches (rs : List Record) (x : Extent) : Type 0 where
  pub first : Record
  pub newest : Record
  pub begins : slice_get rs 0 ≡ Some first
  pub ends : last rs ≡ Some newest
  pub first_tick : x.first_tick ≡ first.tick
  pub last_place : x.last_place ≡ newest.place
  pub last_tick : x.last_tick ≡ newest.tick

abbrev pub TellsExtent : List Record → Option Extent → Type 0
TellsExtent rs None = rs ≡ []
TellsExtent rs (Some x) = Reaches rs x

none_begin : (batches : List (List Record)) → first_records batches ≡ [] → records_in batches ≡ []
none_begin [] e = refl
none_begin ([] ∷ bs) e = none_begin bs e
none_begin ((r ∷ rs) ∷ bs) e = let none : ⊥ = cc in absurd none

by_lists : (rs fs : List Record) → (fs ≡ [] → rs ≡ []) → TellsExtent rs (extent_between (slice_get rs 0) (last rs) (last fs))
by_lists [] fs none = refl
by_lists (r ∷ rs) [] none = let bad : r ∷ rs ≡ [] = none refl in let bad : ⊥ = cc in absurd bad
by_lists (r ∷ rs) (f ∷ fs) none = record { first = r; newest = last_after r rs; begins = refl; ends = refl; first_tick = refl; last_place = refl; last_tick = refl }

-- A segment without a summary, and one with one

pub record IsBare (p : Placed) (e : Entry) : Type 0 where
  pub none : summary_of p ≡ None
  pub header : e.summary ≡ None
  pub survey : Survey
  pub is : e.survey ≡ Some survey
  pub surveys : Surveys (first_of p) (batches_of p) survey

pub record IsSummarized (p : Placed) (e : Entry) : Type 0 where
  pub summary : Summary
  pub some : summary_of p ≡ Some summary
  pub header : e.summary ≡ Some summary
  pub is : e.survey ≡ None

pub bare_or_not : (p : Placed) (e : Entry) → Describes p e → IsBare p e ⊎ IsSummarized p e
bare_or_not p e d = go (summary_of p) e.survey refl refl d.survey
  where
    go : (o : Option Summary) (v : Option Survey) → summary_of p ≡ o → e.survey ≡ v → SurveysUnless o (first_of p) (batches_of p) v → IsBare p e ⊎ IsSummarized p e
    go None None o_is v_is h = absurd h
    go None (Some s) o_is v_is h = inl (record { none = o_is; header = d.summary ∙ o_is; survey = s; is = v_is; surveys = h })
    go (Some t) v o_is v_is h = inr (record { summary = t; some = o_is; header = d.summary ∙ o_is; is = v_is ∙ h })

pub read_all : (p : Placed) → summary_of p ≡ None → records_read p ≡ segment_records (batches_of p)
read_all p none = ap (λ (o : Option Summary). segment_records (batches_read o (batches_of p))) none

pub read_none : (p : Placed) (s : Summary) → summary_of p ≡ Some s → records_read p ≡ []
read_none p s is = ap (λ (o : Option Summary). segment_records (batches_read o (batches_of p))) is

pub count_bare : (p : Placed) → summary_of p ≡ None → known_count p ≡ length (records_read p)
count_bare p none = ap (λ (o : Option Summary). count_by o (records_read p)) none

pub count_summarized : (p : Placed) (s : Summary) → summary_of p ≡ Some s → known_count p ≡ s.count
count_summarized p s is = ap (λ (o : Option Summary). count_by o (records_read p)) is

pub tells_extent : (p : Placed) (e : Entry) → Describes p e → TellsExtent (records_read p) (extent_by e.survey)
tells_extent p e d = go (bare_or_not p e d)
  where
    go : IsBare p e ⊎ IsSummarized p e → TellsExtent (records_read p) (extent_by e.survey)
    go (inl b) =
        subst (λ (x : List Record × Option Extent). TellsExtent x.0 x.1) (λ i. (sym (read_all p b.none) i, (sym b.surveys.extent ∙ ap extent_by (sym b.is)) i))
        (by_lists (records_in (batches_of p)) (first_records (batches_of p)) (none_begin (batches_of p)))
    go (inr s) = subst (λ (x : List Record × Option Extent). TellsExtent x.0 x.1) (λ i. (sym (read_none p s.summary s.some) i, ap extent_by (sym s.is) i)) refl

-- Of entries

pub extent_none : (p : Placed) (e : Entry) → Describes p e → extent_by e.survey ≡ None → records_read p ≡ []
extent_none p e d is = subst (λ (o : Option Extent). TellsExtent (records_read p) o) is (tells_extent p e d)

pub extent_some : (p : Placed) (e : Entry) (x : Extent) → Describes p e → extent_by e.survey ≡ Some x → Reaches (records_read p) x
extent_some p e x d is = subst (λ (o : Option Extent). TellsExtent (records_read p) o) is (tells_extent p e d)

-- whether there are records
some_records : (rs : List Record) (o : Option Extent) → TellsExtent rs o → IsTrue (is_some o) ↔ (length rs ≡ 0 → ⊥)
some_records rs None none = (λ b. let bad : ⊥ = cc in absurd bad, λ some. absurd (some (ap length none)))
some_records [] (Some x) h = absurd (none-some h.first h.begins)
some_records (r ∷ rs) (Some x) h = (λ b e. let bad : ⊥ = omega (arith, e) in bad, λ some. refl)

pub has_some_bare : (p : Placed) (e : Entry) → Describes p e → e.summary ≡ None → IsTrue (is_some (extent_by e.survey)) ↔ (HasNoneBy p → ⊥)
has_some_bare p e d none =
    subst (λ (n : ℕ). IsTrue (is_some (extent_by e.survey)) ↔ (n ≡ 0 → ⊥)) (sym (count_bare p (sym d.summary ∙ none))) (some_records (records_read p) (extent_by e.survey) (tells_extent p e d))

-- by itself
-- the place of the last record
pub last_bare : (p : Placed) (e : Entry) (x : Extent) → Describes p e → RunsOnBy p → e.summary ≡ None → extent_by e.survey ≡ Some x → suc x.last_place ≡ next_known p
last_bare p e x d runs none is =
    let h : Reaches (records_read p) x = extent_some p e x d is in
    let last = after_last (first_of p) (records_read p) h.newest runs.whole.places h.ends in
    omega (arith, ap suc h.last_place, last, count_bare p (sym d.summary ∙ none))

pub none_bare : (p : Placed) (e : Entry) → Describes p e → e.summary ≡ None → extent_by e.survey ≡ None → HasNoneBy p
none_bare p e d none is = count_bare p (sym d.summary ∙ none) ∙ ap length (extent_none p e d is)

-- How many places are left out behind a segment

some_iff : {P Q : Type 0} (o : Option ℕ) (v w : ℕ) → (P → Q) → (Q → P) → v ≡ w → SomeIff o P v → SomeIff o Q w
some_iff None v w to from same h = λ q. h (from q)
some_iff (Some x) v w to from same h = (to h.0, h.1 ∙ same)

-- without records, and with some
pub between_none : (q p : Placed) (b e : Entry) (o : Option ℕ) → Describes q b → Describes p e → HasNoneBy q → SomeIff o (b.first ≤ e.first) (e.first - b.first)
    → SomeIff o (next_known q ≤ first_of p) (first_of p - next_known q)
between_none q p b e o dq dp none h =
    some_iff o (e.first - b.first) (first_of p - next_known q) (λ le. omega (arith, le, none, dq.first, dp.first)) (λ le. omega (arith, le, none, dq.first, dp.first)) (omega (arith, none, dq.first, dp.first)) h

pub between_some : (q p : Placed) (e : Entry) (last d : ℕ) (o : Option ℕ) → Describes p e → suc last ≡ next_known q
    → SomeIff (Some d) (last ≤ e.first) (e.first - last) → SomeIff o (1 ≤ d) (d - 1)
    → SomeIff o (next_known q ≤ first_of p) (first_of p - next_known q)
between_some q p e last d o dp next before h =
    some_iff o (d - 1) (first_of p - next_known q) (λ le. omega (arith, le, next, dp.first, before.0, before.1)) (λ le. omega (arith, le, next, dp.first, before.0, before.1)) (omega (arith, next, dp.first, before.1)) h

pub between_past : (q p : Placed) (e : Entry) (last : ℕ) (o : Option ℕ) → Describes p e → suc last ≡ next_known q
    → SomeIff {T = ℕ} None (last ≤ e.first) (e.first - last) → o ≡ None → SomeIff o (next_known q ≤ first_of p) (first_of p - next_known q)
between_past q p e last o dp next before none =
    subst (λ (o : Option ℕ). SomeIff o (next_known q ≤ first_of p) (first_of p - next_known q)) (sym none)
    (λ le. before (omega (arith, le, next, dp.first)))

-- ticks from one to the other
pub ticks_from_none : (q p : Placed) (b : Entry) → Describes q b → extent_by b.survey ≡ None → TicksRiseBy q p
ticks_from_none q p b dq is r s ends begins = absurd (none-some r (sym (ap (λ (l : List Record). last l) (extent_none q b dq is)) ∙ ends))

pub ticks_to_none : (q p : Placed) (e : Entry) → Describes p e → extent_by e.survey ≡ None → TicksRiseBy q p
ticks_to_none q p e dp is r s ends begins = absurd (none-some s (sym (ap (λ (l : List Record). slice_get l 0) (extent_none p e dp is)) ∙ begins))

-- seconds from one to the other
pub seconds_known : (p : Placed) (e : Entry) (s : Summary) → Describes p e → summary_by e.summary e.survey ≡ Some s
    → (begin_by (summary_of p) (records_read p) ≡ Some s.first_second) × (end_by (summary_of p) (records_read p) ≡ Some s.last_second)
seconds_known p e s d is = go (bare_or_not p e d)
  where
    Known : Option Summary → List Record → Type 0
    Known o rs = (begin_by o rs ≡ Some s.first_second) × (end_by o rs ≡ Some s.last_second)

    go : IsBare p e ⊎ IsSummarized p e → Known (summary_of p) (records_read p)
    go (inr t) =
        let same : t.summary ≡ s = same_Some t.summary s (ap (λ (o : Option Summary). summary_by o e.survey) (sym t.header) ∙ is) in
        subst (λ (o : Option Summary). Known o (records_read p)) (ap Some (sym same) ∙ sym t.some) (refl, refl)
    go (inl b) =
        let own : b.survey.summary ≡ Some s = (λ i. summary_by (sym b.header i) (sym b.is i)) ∙ is in
        let v : IsSummaryOf (records_in (batches_of p)) s = subst (λ (o : Option Summary). Summarises (records_in (batches_of p)) o) own b.surveys.summary in
        let known : Known None (records_in (batches_of p)) = (v.first_second, v.last_second) in
        subst (λ (x : Option Summary × List Record). Known x.0 x.1) (λ i. (sym b.none i, sym (read_all p b.none) i)) known

pub seconds_both : (q p : Placed) (b e : Entry) (x y : Summary) → Describes q b → Describes p e → summary_by b.summary b.survey ≡ Some x → summary_by e.summary e.survey ≡ Some y
    → IsTrue (leb x.last_second y.first_second) ↔ SecondsRiseBy q p
seconds_both q p b e x y dq dp left right =
    let h = seconds_known q b x dq left in
    let k = seconds_known p e y dp right in (
      λ le m n ends begins.
          let a : x.last_second ≡ m = same_Some x.last_second m (sym h.1 ∙ ends) in
          let c : y.first_second ≡ n = same_Some y.first_second n (sym k.0 ∙ begins) in
          let d = leb-true x.last_second y.first_second le in
          omega (arith, a, c, d),
      λ rise. le-leb x.last_second y.first_second (rise x.last_second y.first_second h.1 k.0),
    )

-- One behind another

pub follows_next : (q p : Placed) (b e : Entry) (skipped step : ℕ) → Describes q b → Describes p e → SomeIff (Some skipped) (next_known q ≤ first_of p) (first_of p - next_known q)
    → SomeIff (Some step) (b.seq ≤ e.seq) (e.seq - b.seq) → step ≡ 1 → skipped ≡ 0 → TicksRiseBy q p × SecondsRiseBy q p → FollowsBy q p
follows_next q p b e skipped step dq dp room seqs one none rise = record {
  seq = omega (arith, seqs.0, seqs.1, one, dq.seq, dp.seq);
  place = room.0;
  joined = λ next. omega (arith, room.0, room.1, none);
  ticks = rise.0;
  seconds = rise.1;
  begun = λ empty. omega (arith, seqs.0, seqs.1, one, dq.seq, dp.seq);
}

pub follows_joined : (q p : Placed) (b e : Entry) (skipped step : ℕ) → Describes q b → Describes p e → SomeIff (Some skipped) (next_known q ≤ first_of p) (first_of p - next_known q)
    → SomeIff (Some step) (b.seq ≤ e.seq) (e.seq - b.seq) → step ≡ 1 → FollowsBy q p → skipped ≡ 0
follows_joined q p b e skipped step dq dp room seqs one h =
    let at : first_of p ≡ next_known q = h.joined (omega (arith, seqs.0, seqs.1, one, dq.seq, dp.seq)) in omega (arith, at, room.1)

pub follows_later : (q p : Placed) (b e : Entry) (skipped step : ℕ) → Describes q b → Describes p e → SomeIff (Some skipped) (next_known q ≤ first_of p) (first_of p - next_known q)
    → SomeIff (Some step) (b.seq ≤ e.seq) (e.seq - b.seq) → 2 ≤ step → (HasNoneBy p → ⊥) → TicksRiseBy q p × SecondsRiseBy q p → FollowsBy q p
follows_later q p b e skipped step dq dp room seqs far some rise = record {
  seq = omega (arith, seqs.0, seqs.1, far, dq.seq, dp.seq);
  place = room.0;
  joined = λ next. absurd (omega (arith, next, seqs.0, seqs.1, far, dq.seq, dp.seq));
  ticks = rise.0;
  seconds = rise.1;
  begun = λ empty. absurd (some empty);
}
