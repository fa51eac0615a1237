use Rattle.std.proofs.Common.{sym, subst}
use Rattle.vdr_datagram.specs.declared.line.LineVerdict.{LineVerdict}
use Rattle.vdr_datagram.specs.Views.{verdict_of}
use Rattle.vdr_outside.specs.Writes.{AppendsFront}
use Rattle.vdr_play.specs.Verdicts.{indented, verdict_words}
use Rattle.vdr_play.proofs.verdicts.print_verdict.Goals as goal

pub returns-in-Good-clause-front : goal.returns-in-Good-clause-front
returns-in-Good-clause-front g c =
    subst (λ (v : LineVerdict). AppendsFront (g.O.Sink.taken c.args.out.now) (g.O.Sink.taken c.print_good.new.out) (indented (verdict_words (verdict_of v)))) (sym c.in-Good.is) c.print_good.ensures.front
