use Rattle.vdr_compare.specs.Differences.{lines_of, said, same_line}
use Rattle.vdr_compare.proofs.Going.{first_front, last_front}
use Rattle.vdr_compare.proofs.Telling.{text_behind}
use Rattle.vdr_compare.proofs.tally.Tally.finish.Goals as goal

pub returns-in_err-print_waiting-clause-front : goal.returns-in_err-print_waiting-clause-front
returns-in_err-print_waiting-clause-front g c = first_front _ _ (lines_of (said c.args.self.waiting)) (same_line c.args.self.same) _ (text_behind c.args.self) c.print_waiting.ensures.front

pub returns-clause-front : goal.returns-clause-front
returns-clause-front g c =
    last_front _ _ _ (lines_of (said c.args.self.waiting)) (same_line c.args.self.same) _ (text_behind c.args.self) c.in_ok-print_waiting.ensures.all c.print_same.ensures.front
