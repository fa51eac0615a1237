use Rattle.std.proofs.Common.{◌≡◌, ◌+◌, ◌*◌, ◌<◌, ◌≤◌, ℕ, List, arith}
use Rattle.std.proofs.Math.Nat.{mul-le-mul_right}
use Rattle.vdr_outside.specs.Disk.{InRange}
use Rattle.vdr_segment.specs.declared.area.Area.{Area}
use Rattle.vdr_segment.specs.Areas.{HasRoom}
use Rattle.vdr_segment.specs.Slots.{place_of}
use Rattle.vdr_segment.proofs.Fronts.{front_torn, front_written}
use Rattle.vdr_media.proofs.Behind.{behind_write}
use Rattle.vdr_remake.proofs.copying.put_slot.Goals as goal

slot_range : (area : Area) (sizes : List ℕ) (slot at n : ℕ) → HasRoom area sizes → slot < area.slots → at ≡ place_of area.segment slot → n ≡ area.segment → InRange sizes area.medium at n
slot_range area sizes slot at n room lt place whole =
    let le : (slot + 1) * area.segment ≤ area.slots * area.segment = mul-le-mul_right area.segment (omega (arith, lt)) in
    (room.there, omega (arith, le, room.room, place, whole))

pub returns-in_err-write-clause-writes : goal.returns-in_err-write-clause-writes
returns-in_err-write-clause-writes g c =
    behind_write c.write.result _ _ _ _ _ (slot_range c.args.area _ c.args.slot _ _ c.requires.room c.requires.within c.place_of.ensures c.requires.whole) (omega (arith, c.place_of.ensures)) c.write.ensures.time c.write.ensures.images c.write.ensures.reads c.write.ensures.torn c.write.ensures.sizes

pub returns-clause-writes : goal.returns-clause-writes
returns-clause-writes g c =
    behind_write c.write.result _ _ _ _ _ (slot_range c.args.area _ c.args.slot _ _ c.requires.room c.requires.within c.place_of.ensures c.requires.whole) (omega (arith, c.place_of.ensures)) c.write.ensures.time c.write.ensures.images c.write.ensures.reads c.write.ensures.torn c.write.ensures.sizes

pub returns-in_err-write-clause-front : goal.returns-in_err-write-clause-front
returns-in_err-write-clause-front g c told = front_torn _ _ _ _ _ (omega (arith, c.place_of.ensures)) (c.in_err-write.ensures.torn told)

pub returns-clause-front : goal.returns-clause-front
returns-clause-front g c told = front_written _ _ _ _ _ (omega (arith, c.place_of.ensures)) (c.in_ok-write.ensures.reads told)
