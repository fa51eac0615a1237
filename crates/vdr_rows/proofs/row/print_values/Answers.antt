use Rattle.std.proofs.Common.{Option, option_map}
use Rattle.vdr_outside.proofs.Known.{front-more, pieces-at}
use Rattle.vdr_rows.specs.declared.said.Said.{Said}
use Rattle.vdr_rows.specs.Parts.{given_text}
use Rattle.vdr_rows.specs.Views.{heading_said, said_of}
use Rattle.vdr_rows.proofs.row.print_values.Goals as goal

pub returns-in_err-print_given-clause-front : goal.returns-in_err-print_given-clause-front
returns-in_err-print_given-clause-front g c =
    front-more _ _ _ _ _ _ _ (pieces-at (λ (s : Option Said). given_text (heading_said c.args.heading.now) (option_map said_of s)) c.args.values.now c.loop-said.said-index _ c.loop-said-test.true) c.loop-said.invariant.written c.in_err-print_given.ensures.front
