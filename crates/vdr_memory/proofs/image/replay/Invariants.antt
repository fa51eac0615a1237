use Rattle.std.proofs.Common.{◌≡◌, drop, take}
use Rattle.vdr_memory.specs.Contents.{contents}
use Rattle.vdr_memory.proofs.Replaying.{Replays}
use Rattle.vdr_memory.proofs.Traces.{length_of_all}
use Rattle.vdr_memory.proofs.image.replay.Given as goal

abbrev pub invariant-loop-index : goal.invariant-loop-index
invariant-loop-index l = record {
  left : l.left ≡ drop (length_of_all (take l.index l.calls)) l.bytes;
  replays : Replays l.calls l.bytes l.synced l.choices l.rest (contents l.initial.image) l.index (contents l.image);
}
