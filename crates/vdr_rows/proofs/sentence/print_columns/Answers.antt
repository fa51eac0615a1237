use Rattle.vdr_outside.proofs.Known.{front-more, pieces-at}
use Rattle.vdr_values.specs.declared.column.Column.{Column}
use Rattle.vdr_rows.specs.Parts.{given_text}
use Rattle.vdr_rows.specs.Values.{said_by}
use Rattle.vdr_rows.specs.Views.{heading_said}
use Rattle.vdr_rows.proofs.sentence.print_columns.Goals as goal

pub returns-in_err-print_column-clause-front : goal.returns-in_err-print_column-clause-front
returns-in_err-print_column-clause-front g c =
    front-more _ _ _ _ _ _ _ (pieces-at (λ (x : Column). given_text (heading_said c.args.heading.now) (said_by c.args.reading.now.values x)) c.args.columns.now c.loop-column.column-index _ c.loop-column-test.true) c.loop-column.invariant.written c.in_err-print_column.ensures.front
