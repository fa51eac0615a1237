-- What a survey of a segment tells.
use Rattle.std.specs.Prelude.{◌≡◌, ◌+◌, ◌↔◌, ℕ, List, ◌++◌, drop, sum_by, IsTrue, All}
use Rattle.std.specs.List.{flat_map}
use Rattle.vdr_terms.specs.Records.{Record}
use Rattle.vdr_terms.specs.Order.{RunOn, NeverFalls}
use Rattle.vdr_terms.specs.Sizes.{batch_size}
use Rattle.vdr_segment.specs.Batches.{IsBatch, batch_bytes}
use Rattle.vdr_segment.specs.Walks.{Walks}
use Rattle.vdr_segment.specs.declared.step.Walk.TheVariants.{Broken}
use Rattle.vdr_index.specs.declared.extent.Survey.{Survey}
use Rattle.vdr_index.specs.Extents.{records_in, extent_of}
use Rattle.vdr_index.specs.Summaries.{Summarises}

-- The survey is that of these batches of a segment whose first place is `first`.
pub record Surveys (first : ℕ) (batches : List (List Record)) (survey : Survey) : Type 0 where
  pub end : survey.end ≡ 64 + sum_by batch_size batches
  pub extent : survey.extent ≡ extent_of batches
  pub in_order : IsTrue survey.in_order ↔ (RunOn first (records_in batches) × NeverFalls 0 (records_in batches))
  pub summary : Summarises (records_in batches) survey.summary

-- The first batch of a segment that is not legal is at this offset: legal batches stand before it, and there an open gate
-- and no batch.
pub record BreaksAt (segment : List ℕ) (at : ℕ) : Type 0 where
  pub front : List (List Record)
  pub legal : All IsBatch front
  pub spelled : drop 64 segment ≡ flat_map batch_bytes front ++ drop at segment
  pub behind : at ≡ 64 + sum_by batch_size front
  pub broken : Walks segment at Broken
