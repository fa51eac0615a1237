-- The contents of media in memory.
use Rattle.std.specs.Prelude.{ℕ, List, map, Vec}
use Rattle.std.specs.declared.alloc.Global.{Global}
use Rattle.vdr_outside.specs.Disk.{Image}

-- The bytes of each medium.
abbrev pub contents : List (Vec ℕ Global) → Image
contents media = map (λ v. v.items) media
