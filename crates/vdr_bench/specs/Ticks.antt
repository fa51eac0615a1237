-- The events of a counter.
use Rattle.std.specs.Prelude.{Bool, true, false}
use Rattle.vdr_bench.specs.declared.counter.Tick.{Tick}
use Rattle.vdr_bench.specs.declared.counter.Tick.TheVariants.{Counted, Read}

-- it counted a turn
abbrev pub is_counted : Tick → Bool
is_counted Counted = true
is_counted Read = false
