use Rattle.std.proofs.Common.{◌<◌, ℕ, suc, List}
use Rattle.vdr_core.specs.Histories.{live}
use Rattle.vdr_directory.specs.Knowns.{AreInOrderBy}
use Rattle.vdr_directory.specs.Telling.{TellsBy}
use Rattle.vdr_directory.specs.Sequence.{Placed}
use Rattle.vdr_opening.specs.Parts.{IsThere}
use Rattle.vdr_opening.proofs.places.first_without_places.Given as goal

abbrev pub invariant-loop-slot : goal.invariant-loop-slot
invariant-loop-slot l = (known : List Placed) → TellsBy l.long_term.slots known l.long_term.directory → AreInOrderBy known → (k : ℕ) → k < l.slot → IsThere known (live l.table (suc k))
