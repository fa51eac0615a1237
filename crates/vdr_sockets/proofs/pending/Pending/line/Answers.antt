use Rattle.vdr_sockets.proofs.Hearing.{passes_line, passes_long}
use Rattle.vdr_sockets.proofs.pending.Pending.line.Goals as goal

pub returns-then-fits-clause-heard : goal.returns-then-fits-clause-heard
returns-then-fits-clause-heard c = passes_line c.give-fits.new.into.items c.give-fits.ensures.short

pub returns-else-fits-clause-heard : goal.returns-else-fits-clause-heard
returns-else-fits-clause-heard c = passes_long c.give-fits.new.into.items (c.give-fits.ensures.none c.if-fits.false)
