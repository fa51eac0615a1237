use Rattle.std.proofs.Common.{◌+◌, ◌∙◌, ℕ, List, [], map, length, drop, sym, ap, subst, arith}
use Rattle.std.proofs.lemmas.List.{append-nil}
use Rattle.std.proofs.lemmas.Iterator.Consumers.{YieldsList-from_first, YieldsList-so_far, YieldsList-turn, YieldsList-end}
use Rattle.std.proofs.KnownBytes.{Appends-trans}
use Rattle.std.specs.Io.KnownBytes.{Appends}
use Rattle.vdr_datagram.specs.Verdicts.{LineSpan, line_spans}
use Rattle.vdr_datagram.specs.Views.{lines_left, span_of}
use Rattle.vdr_outside.proofs.Known.{front-more}
use Rattle.vdr_play.specs.Texts.{verdict_text}
use Rattle.vdr_play.proofs.VerdictLemmas.{texts, texts-at, texts-more}
use Rattle.vdr_play.proofs.verdicts.print_lines.Goals as goal

pub returns-in_err-print_verdict-clause-front : goal.returns-in_err-print_verdict-clause-front
returns-in_err-print_verdict-clause-front g c =
    let all : List LineSpan = line_spans c.args.payload.now in
    let road = YieldsList-from_first span_of lines_left all (ap lines_left c.into_iter-line-iterator.ensures.into_iter_gives ∙ c.lines-line-items.ensures) in
    let so_far = YieldsList-so_far road c.loop-line.yielded _ c.loop-line.yielded_by in
    let turn = YieldsList-turn road c.loop-line.yielded _ c.loop-line.yielded_by c.next.result c.next.new.self c.in-Some.line c.in-Some.is c.next.ensures.steps in
    let rest : List ℕ = texts (drop (length c.loop-line.yielded + 1) all) in
    front-more _ _ _ (texts (map span_of c.loop-line.yielded)) (verdict_text (span_of c.in-Some.line)) rest (texts all) (texts-at all c.loop-line.yielded c.in-Some.line so_far turn) c.loop-line.invariant.written c.in_err-print_verdict.ensures.front

pub returns-clause-front : goal.returns-clause-front
returns-clause-front g c =
    let all : List LineSpan = line_spans c.args.payload.now in
    let done : List ℕ = texts (map span_of c.loop-line.yielded) in
    let road = YieldsList-from_first span_of lines_left all (ap lines_left c.into_iter-line-iterator.ensures.into_iter_gives ∙ c.lines-line-items.ensures) in
    let end = YieldsList-end road c.loop-line.yielded _ c.loop-line.yielded_by c.next.result c.next.new.self c.in-None.is c.next.ensures.steps in
    (done, [], ap texts (sym end.0) ∙ sym (append-nil done), c.loop-line.invariant.written)

pub loop-line-preserved : goal.loop-line-preserved
loop-line-preserved g c =
    let before = c.loop-line.invariant in
    let printed = c.in_ok-print_verdict.ensures in
    let cause = c.print_verdict.ensures.cause.later in
    record {
      written = subst (λ (xs : List ℕ). Appends (g.O.Sink.taken c.args.out.now) (g.O.Sink.taken c.print_verdict.new.out) xs) (sym (texts-more c.loop-line.yielded c.in-Some.line)) (Appends-trans _ _ _ _ _ before.written printed.all);
      later = omega (arith, before.later, cause);
    }
