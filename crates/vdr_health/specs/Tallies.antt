-- What a run tallies of the items that were taken into it (this project's profile).
use Rattle.std.specs.Prelude.{◌≡◌, ◌+◌, ◌-◌, ◌^◌, ◌<◌, ℕ, ℤ, Bool, true, min, List, [], ◌∷◌, fold, slice_index_or, ◌==◌, if◌then◌else◌, Option, None, Some}
use Rattle.vdr_terms.specs.declared.counts.Counts.{Counts}
use Rattle.vdr_terms.specs.Records.{none_missed}
use Rattle.vdr_core.specs.RunStates.{RunState}
use Rattle.vdr_core.specs.Taken.{Captured}
use Rattle.vdr_health.specs.declared.tallied.GroupTally.{GroupTally}
use Rattle.vdr_health.specs.declared.tallied.RunTally.{RunTally}

-- So many more, except that a count stays at the greatest u64.
abbrev pub more : ℕ → ℕ → ℕ
more n by = min (n + by) (2 ^ 64 - 1)

-- Counts with further ones, cause by cause.
abbrev pub with_counts : Counts → Counts → Counts
with_counts counts further = record {
  full = more counts.full further.full;
  rate = more counts.rate further.rate;
  bad = more counts.bad further.bad;
  large = more counts.large further.large;
}

abbrev pub no_items : GroupTally
no_items = record { taken = 0; missed = none_missed }

-- With one more item: its port has given as many as its number says and that one, and missed what the item says besides.
abbrev pub with_item : GroupTally → Captured → GroupTally
with_item t c = record { taken = more c.number 1; missed = with_counts t.missed c.missed }

-- With one more item of any group.
abbrev pub with_item_of : (g : ℕ) → GroupTally → Captured → GroupTally
with_item_of g t c = if c.group == g then with_item t c else t

-- What is tallied of a group where these items were taken, the first one first.
abbrev pub tally_of : (g : ℕ) → List Captured → GroupTally
tally_of g items = fold (with_item_of g) no_items items

-- The stamp of the first item.
abbrev pub first_utc : List Captured → Option ℤ
first_utc [] = None
first_utc (c ∷ items) = Some c.utc

-- The tally is that of a run in which these items were taken, or of none where none was begun.
pub record Tallies (begun : Bool) (popped : List Captured) (tally : RunTally) : Type 0 where
  pub open_is : tally.is_open ≡ begun
  pub groups : (g : ℕ) → g < 16 → slice_index_or tally.groups g no_items ≡ tally_of g popped
  pub since : tally.since ≡ first_utc popped

-- The tally is that of the run that is open, if one is.
pub record KnowsRun (run : RunState) (tally : RunTally) : Type 0 where
  pub open_is : tally.is_open ≡ run.is_open
  pub tallies : run.is_open ≡ true → Tallies true run.popped tally
