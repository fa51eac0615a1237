use Rattle.std.proofs.Common.{take, arith}
use Rattle.vdr_outside.proofs.Known.{front-more}
use Rattle.vdr_rescue.specs.Findings.{findings_text}
use Rattle.vdr_rescue.proofs.LineLemmas.{text_split}
use Rattle.vdr_rescue.proofs.found.print_findings.Goals as goal

pub returns-in_err-print_line-clause-front : goal.returns-in_err-print_line-clause-front
returns-in_err-print_line-clause-front g c =
    let i = c.loop-finding.finding-index in
    front-more _ _ _ (findings_text (take i c.args.findings.now)) _ _ (findings_text c.args.findings.now) (text_split c.args.findings.now i _ (omega (arith, c.loop-finding-test.true)))
    c.loop-finding.invariant.printed c.in_err-print_line.ensures.front
