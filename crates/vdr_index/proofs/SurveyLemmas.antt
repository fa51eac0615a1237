-- What batches come to, one more at a time.
use Rattle.std.proofs.Common.{◌≡◌, ◌+◌, ℕ, List, [], ◌∷◌, ◌++◌, take, refl, ap, ◌∙◌, sym, subst, arith, Bool, true, false, IsTrue, Option, Some, inl, inr}
use Rattle.std.specs.Prelude.{◌↔◌, ◌⊎◌, slice_get}
use Rattle.std.proofs.lemmas.Bool.{false≢true}
use Rattle.std.proofs.lemmas.Grind.{flat_map-append}
use Rattle.std.proofs.lemmas.List.{append-nil}
use Rattle.std.proofs.lemmas.List.Sums.{sum_by_push}
use Rattle.vdr_terms.specs.Records.{Record, last, last_after}
use Rattle.vdr_terms.specs.Sizes.{batch_size}
use Rattle.vdr_terms.proofs.Running.{last_join}
use Rattle.vdr_index.specs.declared.extent.Extent.{Extent}
use Rattle.vdr_index.specs.declared.extent.Survey.{Survey}
use Rattle.vdr_index.specs.declared.stretch.Mark.{Mark}
use Rattle.vdr_index.specs.declared.stretch.Stretch.{Stretch}
use Rattle.vdr_entry.specs.declared.summary.Summary.{Summary}
use Rattle.vdr_index.specs.Summaries.{IsSummaryOf, Summarises}
use Rattle.vdr_index.specs.Extents.{records_in, first_records, extent_between, extent_of}
use Rattle.vdr_index.specs.Stretches.{mark_of, AreInOrderFrom, GoesOn, grown, ComesTo}
use Rattle.vdr_index.specs.Surveys.{Surveys}
use Rattle.vdr_index.proofs.OrderLemmas.{order_join, order_split, order_from, order_own}
use Rattle.vdr_index.proofs.JoinLemmas.{one_summarised}

-- The records of batches, and the first of each

pub records_in_more : (batches : List (List Record)) (records : List Record) → records_in (batches ++ records ∷ []) ≡ records_in batches ++ records
records_in_more batches records =
    flat_map-append (λ (b : List Record). b) batches (records ∷ []) ∙ ap (λ (rs : List Record). records_in batches ++ rs) (append-nil records)

first_records_more : (batches : List (List Record)) (head : Record) (tail : List Record) → first_records (batches ++ (head ∷ tail) ∷ []) ≡ first_records batches ++ head ∷ []
first_records_more batches head tail = flat_map-append (λ (b : List Record). take 1 b) batches ((head ∷ tail) ∷ [])

-- batches have no records, or some, and then one of them has a first
record HasRecords (batches : List (List Record)) : Type 0 where
  first : Record
  others : List Record
  begins : Record
  later : List Record
  records_are : records_in batches ≡ first ∷ others
  firsts_are : first_records batches ≡ begins ∷ later

none_or_some : (batches : List (List Record)) → ((records_in batches ≡ []) × (first_records batches ≡ [])) ⊎ HasRecords batches
none_or_some [] = inl (refl, refl)
none_or_some ([] ∷ bs) = elim (none_or_some bs) [
  | inl e ↦ inl e
  | inr s ↦ inr (record { first = s.first; others = s.others; begins = s.begins; later = s.later; records_are = s.records_are; firsts_are = s.firsts_are })
]
none_or_some ((r ∷ rs) ∷ bs) = inr (record { first = r; others = rs ++ records_in bs; begins = r; later = first_records bs; records_are = refl; firsts_are = refl })

-- The extent of batches and one more

-- by the lists of records and of first records alone
abbrev extent_by : (records firsts : List Record) → Option Extent
extent_by records firsts = extent_between (slice_get records 0) (last records) (last firsts)

extent_joined : (x : Record) (xs : List Record) (y : Record) (ys : List Record) (head : Record) (tail : List Record)
    → extent_by ((x ∷ xs) ++ head ∷ tail) ((y ∷ ys) ++ head ∷ []) ≡ Some (grown (extent_by (x ∷ xs) (y ∷ ys)) (mark_of head) (mark_of (last_after head tail)))
extent_joined x xs y ys head tail =
    ap (λ (z : Record). extent_between (Some x) (Some z) (Some (last_after y (ys ++ head ∷ [])))) (last_join x xs head tail)
    ∙ ap (λ (z : Record). extent_between (Some x) (Some (last_after head tail)) (Some z)) (last_join y ys head [])

extent_more : (batches : List (List Record)) (head : Record) (tail : List Record)
    → extent_of (batches ++ (head ∷ tail) ∷ []) ≡ Some (grown (extent_of batches) (mark_of head) (mark_of (last_after head tail)))
extent_more batches head tail = parts ∙ elim (none_or_some batches) as (λ _. Joined (records_in batches) (first_records batches)) [
  | inl e ↦ subst (λ (p : List Record × List Record). Joined p.0 p.1) (λ i. (sym e.0 i, sym e.1 i)) refl
  | inr s ↦ subst (λ (p : List Record × List Record). Joined p.0 p.1) (λ i. (sym s.records_are i, sym s.firsts_are i)) (extent_joined s.first s.others s.begins s.later head tail)
]
  where
    Joined : (rs fs : List Record) → Type 0
    Joined rs fs = extent_by (rs ++ head ∷ tail) (fs ++ head ∷ []) ≡ Some (grown (extent_by rs fs) (mark_of head) (mark_of (last_after head tail)))

    parts : extent_of (batches ++ (head ∷ tail) ∷ []) ≡ extent_by (records_in batches ++ head ∷ tail) (first_records batches ++ head ∷ [])
    parts = ap (λ (rs : List Record). extent_by rs (first_records (batches ++ (head ∷ tail) ∷ []))) (records_in_more batches (head ∷ tail))
        ∙ ap (λ (fs : List Record). extent_by (records_in batches ++ head ∷ tail) fs) (first_records_more batches head tail)

-- Order

-- the order of records and of a batch behind them, of which the code's test tells
record Tells (first : ℕ) (rs fs : List Record) (head : Record) (tail : List Record) (before there all : Bool) : Type 0 where
  begun : IsTrue before ↔ AreInOrderFrom first 0 rs
  batch : IsTrue there ↔ AreInOrderFrom head.place head.tick (head ∷ tail)
  whole : IsTrue all ↔ (IsTrue before × GoesOn first (extent_by rs fs) (mark_of head) × IsTrue there)

order_begun : (first : ℕ) (head : Record) (tail : List Record) (before there all : Bool) → Tells first [] [] head tail before there all → IsTrue all ↔ AreInOrderFrom first 0 (head ∷ tail)
order_begun first head tail before there all t = (
  λ b. let w = t.whole.0 b in order_from first head tail w.1 (t.batch.0 w.2),
  λ o. let p = order_own first head tail o in t.whole.1 (t.begun.1 (tt, tt), p.0, t.batch.1 p.1),
)

order_joined : (first : ℕ) (x : Record) (xs : List Record) (y : Record) (ys : List Record) (head : Record) (tail : List Record) (before there all : Bool) → Tells first (x ∷ xs) (y ∷ ys) head tail before there all
    → IsTrue all ↔ AreInOrderFrom first 0 ((x ∷ xs) ++ head ∷ tail)
order_joined first x xs y ys head tail before there all t = (
  λ b. let w = t.whole.0 b in order_join first 0 x xs head tail (t.begun.0 w.0) w.1 (t.batch.0 w.2),
  λ o. let p = order_split first 0 x xs head tail o in t.whole.1 (t.begun.1 p.0, p.1, t.batch.1 p.2),
)

order_more : (first : ℕ) (batches : List (List Record)) (head : Record) (tail : List Record) (before there all : Bool) → Tells first (records_in batches) (first_records batches) head tail before there all
    → IsTrue all ↔ AreInOrderFrom first 0 (records_in batches ++ head ∷ tail)
order_more first batches head tail before there all = elim (none_or_some batches) as (λ _. Told (records_in batches) (first_records batches)) [
  | inl e ↦ subst (λ (p : List Record × List Record). Told p.0 p.1) (λ i. (sym e.0 i, sym e.1 i)) (order_begun first head tail before there all)
  | inr s ↦ subst (λ (p : List Record × List Record). Told p.0 p.1) (λ i. (sym s.records_are i, sym s.firsts_are i)) (order_joined first s.first s.others s.begins s.later head tail before there all)
]
  where
    Told : (rs fs : List Record) → Type 0
    Told rs fs = Tells first rs fs head tail before there all → IsTrue all ↔ AreInOrderFrom first 0 (rs ++ head ∷ tail)

-- A batch more

pub surveys_more : (first : ℕ) (batches : List (List Record)) (records : List Record) (s : Survey) (t : Stretch) (end : ℕ) (e : Extent) (b : Bool) (m : Summary) → Surveys first batches s → ComesTo records t → end ≡ s.end + batch_size records
    → e ≡ grown s.extent t.first t.last → (IsTrue b ↔ (IsTrue s.in_order × GoesOn first s.extent t.first × IsTrue t.in_order))
    → ((xs ys : List Record) → Summarises xs s.summary → IsSummaryOf ys t.summary → IsSummaryOf (xs ++ ys) m)
    → Surveys first (batches ++ records ∷ []) (record { end = end; extent = Some e; in_order = b; summary = Some m })
surveys_more first batches records s t end e b m v c end_is e_is tells gathers = subst (λ (rs : List Record). Surveys first (batches ++ rs ∷ []) (record { end = end; extent = Some e; in_order = b; summary = Some m })) (sym c.are) (record {
  end = omega (arith, end_is, v.end, ap batch_size c.are, sum_by_push batch_size batches (c.head ∷ c.tail));
  extent = ap (λ (x : Extent). Some x) (e_is ∙ ap (λ (o : Option Extent). grown o t.first t.last) v.extent ∙ ap (λ (m : Mark). grown (extent_of batches) m t.last) c.first
      ∙ ap (λ (m : Mark). grown (extent_of batches) (mark_of c.head) m) c.newest)
      ∙ sym (extent_more batches c.head c.tail);
  in_order = subst (λ (rs : List Record). IsTrue b ↔ AreInOrderFrom first 0 rs) (sym (records_in_more batches (c.head ∷ c.tail)))
      (order_more first batches c.head c.tail s.in_order t.in_order b (record {
        begun = v.in_order;
        batch = c.in_order;
        whole = subst (λ (m : Mark). IsTrue b ↔ (IsTrue s.in_order × GoesOn first (extent_of batches) m × IsTrue t.in_order)) c.first
            (subst (λ (o : Option Extent). IsTrue b ↔ (IsTrue s.in_order × GoesOn first o t.first × IsTrue t.in_order)) v.extent tells);
      }));
  summary = subst (λ (rs : List Record). IsSummaryOf rs m) (sym (records_in_more batches (c.head ∷ c.tail)))
      (gathers (records_in batches) (c.head ∷ c.tail) v.summary (subst (λ (rs : List Record). IsSummaryOf rs t.summary) c.are c.summary));
})

-- Batches have one survey

same_test : {P : Type 0} (a b : Bool) → IsTrue a ↔ P → IsTrue b ↔ P → a ≡ b
same_test true true p q = refl
same_test true false p q = absurd (false≢true (q.1 (p.0 refl)))
same_test false true p q = absurd (false≢true (p.1 (q.0 refl)))
same_test false false p q = refl

pub one_survey : (first : ℕ) (batches : List (List Record)) (s t : Survey) → Surveys first batches s → Surveys first batches t → s ≡ t
one_survey first batches s t v w = by_fields s t (v.end ∙ sym w.end) (v.extent ∙ sym w.extent) (same_test s.in_order t.in_order v.in_order w.in_order)
    (one_summarised (records_in batches) s.summary t.summary v.summary w.summary)
  where
    by_fields : (s t : Survey) → s.end ≡ t.end → s.extent ≡ t.extent → s.in_order ≡ t.in_order → s.summary ≡ t.summary → s ≡ t
    by_fields s t a b c d = λ i. record { end = a i; extent = b i; in_order = c i; summary = d i }
