use Rattle.std.proofs.Common.{arith, eq-eqb}
use Rattle.std.proofs.lemmas.Bool.{eqb-true}
use Rattle.vdr_directory.proofs.Extents.{follows_next, follows_joined, follows_later}
use Rattle.vdr_directory.proofs.order.follows.Goals as goal

pub returns-then-skipped-eq0 : goal.returns-then-skipped-eq0
returns-then-skipped-eq0 c q p dq dp runs = (
  λ b. follows_next q p _ _ _ _ dq dp (c.in-Some.ensures q p dq dp runs) c.in-Some-checked_sub.ensures c.in-1.is c.if-skipped-eq0.true ((c.times_rise.ensures q p dq dp).0 b),
  λ h. (c.times_rise.ensures q p dq dp).1 (h.ticks, h.seconds),
)

pub returns-else-skipped-eq0 : goal.returns-else-skipped-eq0
returns-else-skipped-eq0 c q p dq dp runs = (
  λ b. absurd (c.if-skipped-eq0.false (eqb-true c.in-Some.skipped 0 b)),
  λ h. eq-eqb c.in-Some.skipped 0 (follows_joined q p _ _ _ _ dq dp (c.in-Some.ensures q p dq dp runs) c.in-Some-checked_sub.ensures c.in-1.is h),
)

pub returns-then-has_records : goal.returns-then-has_records
returns-then-has_records c q p dq dp runs = (
  λ b. follows_later q p _ _ _ _ dq dp (c.in-Some.ensures q p dq dp runs) c.in-Some-checked_sub.ensures (omega arith) ((c.has_records.ensures p dp).0 c.if-has_records.true) ((c.times_rise-then-has_records.ensures q p dq dp).0 b),
  λ h. (c.times_rise-then-has_records.ensures q p dq dp).1 (h.ticks, h.seconds),
)
