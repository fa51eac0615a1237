use Rattle.std.proofs.Common.{◌≡◌, take}
use Rattle.vdr_durability.specs.Shown.{pins_of}
use Rattle.vdr_vault.proofs.pins.pins_in.Given as goal

abbrev pub invariant-loop-slot : goal.invariant-loop-slot
invariant-loop-slot l = l.pins ≡ pins_of (take l.slot l.table)
