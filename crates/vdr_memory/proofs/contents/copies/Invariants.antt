use Rattle.std.proofs.Common.{◌≡◌, take}
use Rattle.vdr_memory.specs.Contents.{contents}
use Rattle.vdr_memory.proofs.contents.copies.Given as goal

abbrev pub invariant-loop-medium : goal.invariant-loop-medium
invariant-loop-medium l = contents l.all.items ≡ contents (take l.medium-index l.media)
