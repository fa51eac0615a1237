-- Media after writes and syncs, as a disk.
use Rattle.std.specs.Prelude.{◌≤◌, ◌+◌, ℕ, List, length, map, ⊤}
use Rattle.vdr_outside.specs.Disk.{Disk, Image}
use Rattle.vdr_memory.specs.Steps.{Step, reads_after, Left, LeftSince, LeftUntil}
use Rattle.vdr_memory.specs.Laws.{as_read, counts_until, earlier, now_since, only_now, reads_sized, since_sized, until_later, until_or_since}

-- The clock counts the steps, and after them the calls that left no trace.
abbrev pub disk_at : Image → List Step → ℕ → Disk ⊤ ⊤
disk_at start steps lost = record {
  sizes = map length start;
  reads = reads_after start steps;
  now = Left start steps;
  clock = length steps + lost;
  since = λ t i. (t ≤ length steps + lost) × LeftSince start t steps i;
  until = λ t i. LeftUntil start t steps i;
  told = λ i left. tt;
  shown = λ told. (tt, as_read start steps);
  sized = λ t i left. since_sized start steps t i left.1;
  sized_as_read = λ told. reads_sized start steps;
  counts_now = λ t i le left. (le, now_since start steps t i left);
  only_now = only_now start steps lost;
  earlier = earlier start steps lost;
  counts_until = counts_until start steps lost;
  later = until_later start steps;
  until_or_since = until_or_since start steps lost;
}
