use Rattle.std.proofs.Common.{ℕ, List, None, sym, subst, arith}
use Rattle.vdr_segment.specs.Headers.{IsHeader, new_header}
use Rattle.vdr_segment.proofs.HeaderLemmas.{header_put, new_is_header}
use Rattle.vdr_segment.proofs.header.write_header.Goals as goal

pub returns-clause-bytes : goal.returns-clause-bytes
returns-clause-bytes c = header_put c.args.seq c.args.first _ c.put_u64s.ensures

pub returns-clause-header : goal.returns-clause-header
unfolding new_header
returns-clause-header c =
    subst (λ (xs : List ℕ). IsHeader xs (record { seq = c.args.seq; first = c.args.first; summary = None })) (sym (header_put c.args.seq c.args.first _ c.put_u64s.ensures))
    (new_is_header 0 c.args.seq c.args.first (omega (arith, c.ranges.seq)) (omega (arith, c.ranges.first)))
