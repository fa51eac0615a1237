-- A survey as it walks over a segment.
use Rattle.std.proofs.Common.{◌≡◌, ◌≤◌, ◌<◌, ◌+◌, ◌-◌, ℕ, List, [], ◌∷◌, ◌++◌, length, take, drop, ◌∙◌, sym, subst, arith}
use Rattle.std.proofs.lemmas.List.{length-take, length-drop}
use Rattle.vdr_terms.specs.Records.{Record}
use Rattle.vdr_terms.specs.Sizes.{batch_size}
use Rattle.vdr_segment.specs.declared.step.Walk.TheVariants.{Batch}
use Rattle.vdr_segment.specs.Batches.{AreRecords}
use Rattle.vdr_segment.specs.Walks.{Walks}
use Rattle.vdr_segment.proofs.BatchListLemmas.{one_records}
use Rattle.vdr_index.specs.declared.extent.Survey.{Survey}
use Rattle.vdr_index.specs.declared.stretch.Stretch.{Stretch}
use Rattle.vdr_index.specs.Stretches.{ComesTo}
use Rattle.vdr_index.specs.Surveys.{Surveys}
use Rattle.vdr_index.proofs.SpanLemmas.{Front, front_none, front_more, span_records, span_some}

-- The survey is that of the batches up to its end.
pub record Reached (segment : List ℕ) (first : ℕ) (s : Survey) : Type 0 where
  pub batches : List (List Record)
  pub front : Front segment s.end batches
  pub survey : Surveys first batches s

pub reached_none : (segment : List ℕ) (first : ℕ) (s : Survey) → 65 ≤ length segment → Surveys first [] s → Reached segment first s
reached_none segment first s long v = record {
  batches = [];
  front = subst (λ (n : ℕ). Front segment n []) (sym v.end) (front_none segment long);
  survey = v;
}

-- the span of a batch that was met
pub met_some : (segment : List ℕ) (at from to : ℕ) → Walks segment at (Batch from to) → 0 < length (take (to - from) (drop from segment))
met_some segment at from to w =
    omega (arith, length-take (to - from) (drop from segment), length-drop from segment, w.1.room, w.2, w.3, span_some segment at w.0 w.1)

pub met_records : (segment : List ℕ) (at from to : ℕ) → Walks segment at (Batch from to) → (records : List Record) × AreRecords (take (to - from) (drop from segment)) records
met_records segment at from to w = (w.0, span_records segment at from to w.0 w.1 w.2 w.3)

-- one batch more
module _ (segment : List ℕ) (first : ℕ) (s next : Survey) (from to : ℕ) (t : Stretch) (r : Reached segment first s) (w : Walks segment s.end (Batch from to))
    (c : (records : List Record) × AreRecords (take (to - from) (drop from segment)) records × ComesTo records t)
    (joined : (bs : List (List Record)) (rs : List Record) → Surveys first bs s → ComesTo rs t → to ≡ s.end + batch_size rs → Surveys first (bs ++ rs ∷ []) next) where
  pub survey_next : Surveys first (r.batches ++ w.0 ∷ []) next
  survey_next =
      let same : c.0 ≡ w.0 = one_records _ c.0 w.0 c.1 (span_records segment s.end from to w.0 w.1 w.2 w.3) in
      joined r.batches w.0 r.survey (subst (λ (rs : List Record). ComesTo rs t) same c.2) (omega (arith, w.2, w.3))

  pub front_next : Front segment to (r.batches ++ w.0 ∷ [])
  front_next = front_more segment s.end to r.batches w.0 r.front w.1 (omega (arith, w.2, w.3))

  pub end_next : to ≡ next.end
  end_next = front_next.behind ∙ sym survey_next.end

  pub reached_more : Reached segment first next
  reached_more = record { batches = r.batches ++ w.0 ∷ []; front = subst (λ (n : ℕ). Front segment n (r.batches ++ w.0 ∷ [])) end_next front_next; survey = survey_next }

  pub reached_further : length segment - next.end < length segment - s.end
  reached_further = omega (arith, end_next, w.2, w.3, r.front.inside)
