use Rattle.std.proofs.Common.{rules}
use Rattle.vdr_index.proofs.agreeing.covers.Goals as goal

pub returns-then-own-summary-2 : goal.returns-then-own-summary-2
returns-then-own-summary-2 c = (
  λ b. record { first = search rules; ends = search rules; least = search rules; greatest = search rules; bits = c.are_among.ensures.0 b },
  λ h. c.are_among.ensures.1 h.bits,
)
