use Rattle.std.proofs.Common.{rules}
use Rattle.vdr_review.proofs.Printing.{print_more, print_front}
use Rattle.vdr_review.proofs.window.Window.print.Goals as goal

pub loop-kept-preserved : goal.loop-kept-preserved
loop-kept-preserved g c = record {
  printed = print_more _ _ _ _ _ c.args.last c.args.self.now _ _ c.in-Some.kept.now c.loop-kept.invariant.printed c.in-Some.ensures.steps c.in_ok-print_shown.ensures.all c.in_ok-print_shown.ensures.seen;
  later = search rules;
}

pub returns-in_err-print_shown-clause-front : goal.returns-in_err-print_shown-clause-front
returns-in_err-print_shown-clause-front g c =
    print_front _ _ _ _ c.args.last c.args.self.now _ _ c.in-Some.kept.now c.loop-kept.invariant.printed c.in-Some.ensures.steps c.in_err-print_shown.ensures.front
