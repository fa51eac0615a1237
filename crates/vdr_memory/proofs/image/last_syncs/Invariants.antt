use Rattle.std.proofs.Common.{◌≡◌, length}
use Rattle.vdr_memory.specs.Images.{IsLast}
use Rattle.vdr_memory.proofs.image.last_syncs.Given as goal

abbrev pub invariant-loop-index : goal.invariant-loop-index
invariant-loop-index l = record { names : length l.last ≡ 256; last : IsLast l.calls l.index l.last }
