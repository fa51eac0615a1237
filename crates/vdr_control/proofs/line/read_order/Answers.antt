use Rattle.std.proofs.Common.{rules}
use Rattle.vdr_control.proofs.LineLemmas.{none_so, no_order}
use Rattle.vdr_control.proofs.line.read_order.Goals as goal

pub returns-clause-none : goal.returns-clause-none
returns-clause-none c =
    none_so c.read_tell_line.result
    (no_order c.args.line.now (search rules) (search rules) (search rules) c.in_default.ensures.none c.in_default-read_release_line.ensures.none c.in_default-read_evidence_line.ensures.none
    c.in_default-read_play_line.ensures.none c.in_default-read_export_line.ensures.none) c.read_tell_line.ensures.none
