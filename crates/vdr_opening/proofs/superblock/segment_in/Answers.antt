use Rattle.std.proofs.Common.{◌∙◌, arith}
use Rattle.vdr_opening.proofs.Fronts.{said_by, gate_byte, says, says_none}
use Rattle.vdr_opening.proofs.superblock.segment_in.Goals as goal
use Rattle.vdr_opening.proofs.superblock.segment_in.Goals.{then-bytes-via-then-bytes, then-bytes-via-else-bytes+then-segment-lt-SEGMENT_LOW, then-bytes-via-else-bytes+else-segment-lt-SEGMENT_LOW+then-segment-gt-SEGMENT_HIGH}

pub returns-then-bytes-clause-none : goal.returns-then-bytes-clause-none
returns-then-bytes-clause-none c segment s =
    let is = said_by _ _ _ _ _ c.u32_at-segment.ensures s in
    elim c.then-bytes.branch [
      | then-bytes-via-then-bytes w ↦ w.if-bytes.true (gate_byte _ s.gate)
      | then-bytes-via-else-bytes+then-segment-lt-SEGMENT_LOW w ↦ omega (arith, w.if-segment-lt-SEGMENT_LOW.true, is, s.segment_low)
      | then-bytes-via-else-bytes+else-segment-lt-SEGMENT_LOW+then-segment-gt-SEGMENT_HIGH w ↦ omega (arith, w.if-segment-gt-SEGMENT_HIGH.true, is, s.segment_high)
    ]

pub returns-then-ne-clause-none : goal.returns-then-ne-clause-none
returns-then-ne-clause-none c =
    says_none _ _ _ _ _ _ _ c.slot_count.ensures.count (c.as_slice.ensures ∙ c.superblock_bytes-legal.ensures) c.ne.ensures c.u32_at-segment.ensures c.if-ne.true

pub returns-clause-some : goal.returns-clause-some
returns-clause-some c =
    says _ _ _ _ _ _ _ c.slot_count.ensures.count (c.as_slice.ensures ∙ c.superblock_bytes-legal.ensures) c.ne.ensures c.requires c.if-bytes.false (omega (arith, c.if-segment-lt-SEGMENT_LOW.false))
    (omega (arith, c.if-segment-gt-SEGMENT_HIGH.false)) c.if-ne.false
