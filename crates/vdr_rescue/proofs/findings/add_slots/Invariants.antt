use Rattle.std.proofs.Common.{◌≡◌, ◌++◌, map, take}
use Rattle.vdr_segment.specs.Slots.{place_of}
use Rattle.vdr_rescue.proofs.findings.add_slots.Given as goal

abbrev pub invariant-loop-slot : goal.invariant-loop-slot
invariant-loop-slot l = l.offsets.items ≡ l.fn.offsets.items ++ map (λ slot. place_of l.area.segment slot) (take l.slot-index l.slots)
