use Rattle.std.proofs.Common.{◌≡◌, ◌+◌, ◌∙◌, ℕ, List, arith, refl, subst}
use Rattle.std.specs.Io.KnownBytes.{Appends}
use Rattle.std.proofs.lemmas.Result.{on_ok_weaker}
use Rattle.vdr_outside.specs.Writes.{AppendsFront}
use Rattle.vdr_tool.specs.Summaries.{lines_below}
use Rattle.vdr_tool.proofs.Summing.{lines_more, summary_all, summary_front, summary_last}
use Rattle.vdr_tool.proofs.summary.SummaryPrintable.print.Goals as goal

pub loop-group-preserved : goal.loop-group-preserved
loop-group-preserved g c = record {
  printed = lines_more c.loop-group.group (c.loop-group.group + 1) c.args.self.now.groups _ _ _ refl c.loop-group.invariant.printed c.in_ok-print_group.ensures.all;
  later = omega (arith, c.loop-group.invariant.later, c.print_group.ensures.cause.later);
}

pub returns-in_err-print_group-clause-front : goal.returns-in_err-print_group-clause-front
returns-in_err-print_group-clause-front g c =
    summary_front c.loop-group.group c.args.self.now.records c.args.self.now.groups _ _ _ (omega (arith, c.loop-group-test.true)) c.loop-group.invariant.printed c.in_err-print_group.ensures.front

pub returns-clause-all : goal.returns-clause-all
returns-clause-all g c =
    let end : c.loop-group.group ≡ 16 = omega (arith, c.loop-group-test.false, c.loop-group.auto.group-end) in
    let groups = c.args.self.now.groups in
    let before = subst (λ (n : ℕ). Appends (g.O.Sink.taken c.args.out.now) (g.O.Sink.taken c.loop-group.out) (lines_below n groups)) end c.loop-group.invariant.printed in
    on_ok_weaker c.write_all.result
    (λ last. summary_all c.args.self.now.records groups _ _ _ before (subst (λ (line : List ℕ). Appends (g.O.Sink.taken c.loop-group.out) (g.O.Sink.taken c.write_all.new.sink) line) (c.as_slice.ensures.value ∙ c.line_of_records.ensures) last))
    c.write_all.ensures.all

pub returns-clause-front : goal.returns-clause-front
returns-clause-front g c =
    let end : c.loop-group.group ≡ 16 = omega (arith, c.loop-group-test.false, c.loop-group.auto.group-end) in
    let groups = c.args.self.now.groups in
    let before = subst (λ (n : ℕ). Appends (g.O.Sink.taken c.args.out.now) (g.O.Sink.taken c.loop-group.out) (lines_below n groups)) end c.loop-group.invariant.printed in
    summary_last c.args.self.now.records groups _ _ _ before
    (subst (λ (line : List ℕ). AppendsFront (g.O.Sink.taken c.loop-group.out) (g.O.Sink.taken c.write_all.new.sink) line) (c.as_slice.ensures.value ∙ c.line_of_records.ensures) c.write_all.ensures.front)
