use Rattle.std.proofs.Common.{◌≡◌, ◌<◌, ◌^◌, ℕ, List, take}
use Rattle.vdr_directory.specs.Sequence.{Placed}
use Rattle.vdr_directory.specs.Order.{AreInOrder}
use Rattle.vdr_directory.specs.Entries.{Describe}
use Rattle.vdr_directory.specs.Directories.{count_of}
use Rattle.vdr_directory.specs.Holds.{HoldsPlaced}
use Rattle.vdr_directory.specs.Indexed.{IsIndexed}
use Rattle.vdr_directory.specs.Knowns.{AreInOrderBy}
use Rattle.vdr_directory.specs.Opening.{AreKnown}
use Rattle.vdr_directory.specs.Telling.{IsIndexedBy}
use Rattle.vdr_directory.proofs.directory.Directory.of_all.Given as goal

abbrev pub invariant-loop-entry : goal.invariant-loop-entry
invariant-loop-entry l = record {
  size : count_of l.directory ≡ l.slots;
  told : (segment : ℕ) (placed : List Placed) (bytes : List ℕ) → segment < 2 ^ 32 → HoldsPlaced segment l.slots placed bytes → AreInOrder placed → Describe placed l.opened
      → IsIndexed l.slots (take l.entry-index placed) l.directory.index;
  known : (segment : ℕ) (known : List Placed) (bytes : List ℕ) → segment < 2 ^ 32 → AreKnown segment l.slots bytes known → AreInOrderBy known → Describe known l.opened
      → IsIndexedBy l.slots (take l.entry-index known) l.directory.index;
}
