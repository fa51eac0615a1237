use Rattle.std.proofs.Common.{inr, refl, subst, List}
use Rattle.vdr_outside.specs.Writes.{AppendsFront}
use Rattle.vdr_rescue.specs.Findings.{findings_text}
use Rattle.vdr_rescue.specs.declared.findings.Finding.{Finding}
use Rattle.vdr_readout.proofs.rescuing.tell.Goals as goal

pub returns-clause-told : goal.returns-clause-told
returns-clause-told g c =
    let front = subst (λ (findings : List Finding). AppendsFront (g.O.Sink.taken c.args.out.now) (g.O.Sink.taken c.print_findings.new.out) (findings_text findings)) c.as_slice.ensures.value c.in-Err.ensures.front in
    inr (c.in-Ok.findings.items, c.in-Ok.ensures, inr (refl, c.in-Err.ensures.cause.failed, front))
