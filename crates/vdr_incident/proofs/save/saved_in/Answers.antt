use Rattle.std.proofs.Common.{arith}
use Rattle.vdr_segment.proofs.GateLemmas.{open_by_byte}
use Rattle.vdr_incident.proofs.Slot.{no_slot}
use Rattle.vdr_incident.proofs.save.saved_in.Goals as goal

pub returns-in-None-clause-none : goal.returns-in-None-clause-none
returns-in-None-clause-none c saved is =
    no_slot c.args.bytes.now saved (open_by_byte c.args.bytes.now 0 (omega (arith, c.told-bytes)) c.if-bytes-ne-OPEN_GATE.false) c.in-None.ensures.none is
