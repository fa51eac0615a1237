-- The runs of the machine: each began where the one before it ended, and has its shape, its sums and its full counts.
use Rattle.std.specs.Prelude.{ℕ, ◌+◌, ◌≡◌, ⊤, Bool, true, false, List, [], ◌∷◌, ◌++◌, length, flat_map, All, Option}
use Rattle.vdr_terms.specs.declared.counts.Counts.{Counts}
use Rattle.vdr_terms.specs.Records.{last}
use Rattle.vdr_terms.specs.Order.{NeverFalls}
use Rattle.vdr_core.specs.Runs.{Stamp, last_tick}
use Rattle.vdr_core.specs.Taken.{Captured, of_group}
use Rattle.vdr_core.specs.Histories.{Continues, records_of_act, stamp_of}
use Rattle.vdr_core.specs.Sums.{Sums}
use Rattle.vdr_core.specs.Shapes.{NoEmptyGap, IsOpenRun, IsClosedRun}
use Rattle.vdr_core.specs.FullCounts.{FullCounts}
use Rattle.vdr_core.specs.Machine.{Plan, Ended, State, start_at}
use Rattle.vdr_core.specs.Law.{IsRun}

-- The next place after these runs.
abbrev pub place_after : ℕ → List Ended → ℕ
place_after place [] = place
place_after place (run ∷ runs) = place_after (place + length run.records) runs

-- The stamp of the last record after these runs.
abbrev pub stamp_after : Option Stamp → List Ended → Option Stamp
stamp_after stamp [] = stamp
stamp_after stamp (run ∷ runs) = stamp_after (stamp_of (last run.records) stamp) runs

-- Each run began at the next place, after the record before it.
abbrev pub RunsFollow : Plan → ℕ → Option Stamp → List Ended → Type 0
RunsFollow plan place stamp [] = ⊤
RunsFollow plan place stamp (run ∷ runs) =
    (run.start ≡ start_at plan place stamp) × RunsFollow plan (place + length run.records) (stamp_of (last run.records) stamp) runs

-- From the opening on each run began where the one before it ended, and so does the next.
pub record RunsAreConsecutive (plan : Plan) (opening : ℕ) (stamp : Option Stamp) (w : State) : Type 0 where
  pub follow : RunsFollow plan opening stamp w.ended
  pub place : w.place ≡ place_after opening w.ended
  pub last : w.last ≡ stamp_after stamp w.ended

-- A run that was cut off has the records of the items that were committed.
abbrev pub RunHasShape : Bool → Ended → Type 0
RunHasShape true run = IsClosedRun run.start run.popped run.records
RunHasShape false run = (committed lost : List Captured) × (run.popped ≡ committed ++ lost) × IsOpenRun run.start committed run.records

-- What holds of each run that has ended.
pub record HasEnded (run : Ended) : Type 0 where
  pub is_run : IsRun run.start run.given run.records
  pub has_shape : RunHasShape run.closed run
  pub no_empty_gap : NoEmptyGap run.records

abbrev pub AllHaveEnded : State → Type 0
AllHaveEnded w = All HasEnded w.ended

abbrev pub RunAddsUp : Bool → Ended → Type 0
RunAddsUp true run = (g : ℕ) → Sums g (run.given g) (length (of_group g run.popped)) (run.full_steps g) run.records
RunAddsUp false run = ⊤

abbrev pub AllRunsAddUp : State → Type 0
AllRunsAddUp w = All (λ run. RunAddsUp run.closed run) w.ended

abbrev pub RunCountsFull : ℕ → Bool → Ended → Type 0
RunCountsFull capacity true run = (g : ℕ) → (rest : Counts) × FullCounts capacity (run.full_steps g) g (of_group g run.popped) rest (run.given g) run.records
RunCountsFull capacity false run = ⊤

abbrev pub AllRunsCountFull : Plan → State → Type 0
AllRunsCountFull plan w = All (λ run. RunCountsFull plan.capacity run.closed run) w.ended

-- The records since the opening, over all runs: their places run on with none skipped, they have their bits, and their ticks don't fall.
pub record HistoryRunsOn (plan : Plan) (opening : ℕ) (stamp : Option Stamp) (w : State) : Type 0 where
  pub places : Continues plan.channels opening (flat_map records_of_act w.history)
  pub ticks : NeverFalls (last_tick stamp) (flat_map records_of_act w.history)
  pub no_empty_gap : NoEmptyGap (flat_map records_of_act w.history)
