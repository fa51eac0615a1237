use Rattle.std.proofs.Common.{◌∙◌, List, ℕ, ap, flat_map, sym, subst}
use Rattle.std.specs.Prelude.{OnOk}
use Rattle.std.specs.Io.KnownBytes.{Appends}
use Rattle.vdr_outside.specs.Writes.{AppendsFront}
use Rattle.vdr_values.specs.declared.column.Column.{Column}
use Rattle.vdr_values.specs.Readings.{Reading}
use Rattle.vdr_rows.specs.Parts.{given_text}
use Rattle.vdr_rows.specs.Values.{said_by}
use Rattle.vdr_rows.specs.Views.{heading_said}
use Rattle.vdr_rows.proofs.RowLemmas.{given_rows}
use Rattle.vdr_rows.proofs.sentence.print_reading.Goals as goal

pub returns-clause-all : goal.returns-clause-all
returns-clause-all g c =
    let h = heading_said c.args.heading.now in
    let r : Reading = c.args.reading.now in
    subst (λ (t : List ℕ). OnOk c.print_columns.result (Appends (g.O.Sink.taken c.args.out.now) (g.O.Sink.taken c.print_columns.new.out) t))
    (ap (λ (columns : List Column). flat_map (λ (x : Column). given_text h (said_by r.values x)) columns) c.columns.ensures ∙ sym (given_rows h (said_by r.values) r.row.columns))
    c.print_columns.ensures.all

pub returns-clause-front : goal.returns-clause-front
returns-clause-front g c =
    let h = heading_said c.args.heading.now in
    let r : Reading = c.args.reading.now in
    subst (λ (t : List ℕ). AppendsFront (g.O.Sink.taken c.args.out.now) (g.O.Sink.taken c.print_columns.new.out) t)
    (ap (λ (columns : List Column). flat_map (λ (x : Column). given_text h (said_by r.values x)) columns) c.columns.ensures ∙ sym (given_rows h (said_by r.values) r.row.columns))
    c.print_columns.ensures.front
