use Rattle.std.proofs.Common.{◌≤◌, length, take, All}
use Rattle.vdr_terms.specs.Datagrams.{largest}
use Rattle.vdr_core.specs.Taken.{Captured}
use Rattle.vdr_recorder.proofs.run.note_lengths.Given as goal

abbrev pub invariant-loop-item : goal.invariant-loop-item
invariant-loop-item l = All (λ (c : Captured). length c.bytes ≤ largest) (take l.item-index l.items)
