use Rattle.std.proofs.Common.{refl, ◌∙◌}
use Rattle.vdr_opening.proofs.Fronts.{gate_byte, says}
use Rattle.vdr_rescue.proofs.AloneLemmas.{not_said}
use Rattle.vdr_rescue.proofs.JudgeLemmas.{clash}
use Rattle.vdr_rescue.proofs.alone.is_superblock.Goals as goal

pub returns-then-bytes : goal.returns-then-bytes
returns-then-bytes c = (λ e. absurd (clash e), λ s. absurd (c.if-bytes.true (gate_byte _ s.gate)))

pub returns-then-ne : goal.returns-then-ne
returns-then-ne c = (
  λ e. absurd (clash e),
  λ s. absurd (not_said _ _ _ _ _ _ _ c.slot_count.ensures.count (c.as_slice.ensures ∙ c.superblock_bytes-legal.ensures) c.ne.ensures c.if-ne.true s),
)

pub returns : goal.returns
returns c = (
  λ e. says _ _ _ _ _ _ _ c.slot_count.ensures.count (c.as_slice.ensures ∙ c.superblock_bytes-legal.ensures) c.ne.ensures c.requires.size c.if-bytes.false c.requires.low c.requires.high c.if-ne.false,
  λ s. refl,
)
