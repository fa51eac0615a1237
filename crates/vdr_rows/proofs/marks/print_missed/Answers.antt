use Rattle.std.proofs.Common.{[], List, ℕ, subst}
use Rattle.std.specs.Prelude.{OnOk}
use Rattle.std.specs.Io.KnownBytes.{Appends}
use Rattle.vdr_outside.specs.Writes.{AppendsFront}
use Rattle.vdr_rows.specs.Texts.{heading_of}
use Rattle.vdr_rows.proofs.RowLemmas.{four_given}
use Rattle.vdr_rows.proofs.marks.print_missed.Goals as goal

pub returns-clause-all : goal.returns-clause-all
returns-clause-all g c =
    subst (λ (t : List ℕ). OnOk c.print_values.result (Appends (g.O.Sink.taken c.args.out.now) (g.O.Sink.taken c.print_values.new.out) t))
    (four_given _ (heading_of c.args.item.now [] []) _ _ _ _ _ _ _ _ c.new-heading.ensures c.missed.ensures c.missed-2.ensures c.missed-3.ensures c.missed-4.ensures)
    c.print_values.ensures.all

pub returns-clause-front : goal.returns-clause-front
returns-clause-front g c =
    subst (λ (t : List ℕ). AppendsFront (g.O.Sink.taken c.args.out.now) (g.O.Sink.taken c.print_values.new.out) t)
    (four_given _ (heading_of c.args.item.now [] []) _ _ _ _ _ _ _ _ c.new-heading.ensures c.missed.ensures c.missed-2.ensures c.missed-3.ensures c.missed-4.ensures)
    c.print_values.ensures.front
