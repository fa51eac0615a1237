use Rattle.std.proofs.Common.{inl}
use Rattle.vdr_rescue.proofs.JudgeLemmas.{bare_off, bare_whole}
use Rattle.vdr_rescue.proofs.judging.bare_fault.Goals as goal

pub returns-then-found-clause-judges : goal.returns-then-found-clause-judges
returns-then-found-clause-judges c = bare_whole c.args.bytes.now c.args.first c.in-Ok.ensures.legal.0 c.in-Ok.found c.in-Ok.ensures.legal.1 c.in-Ok.ensures.legal.2 c.if-found.true

pub returns-else-found-clause-judges : goal.returns-else-found-clause-judges
returns-else-found-clause-judges c = bare_off c.args.bytes.now c.args.first c.in-Ok.ensures.legal.0 c.in-Ok.found c.in-Ok.ensures.legal.1 c.in-Ok.ensures.legal.2 c.if-found.false

pub returns-in-Err-clause-judges : goal.returns-in-Err-clause-judges
returns-in-Err-clause-judges c = inl c.in-Err.ensures.broken
