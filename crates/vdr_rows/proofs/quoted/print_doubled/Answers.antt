use Rattle.std.proofs.Common.{◌≡◌, ◌∙◌, ◌==◌, List, ℕ, false, sym, subst}
use Rattle.std.specs.Prelude.{OnOk}
use Rattle.std.specs.List.{list_any}
use Rattle.std.specs.Io.KnownBytes.{Appends}
use Rattle.vdr_outside.specs.Writes.{AppendsFront}
use Rattle.vdr_rows.proofs.RowLemmas.{plain_doubled}
use Rattle.vdr_rows.proofs.quoted.print_doubled.Goals as goal

pub returns-clause-all : goal.returns-clause-all
returns-clause-all g c =
    let none : list_any (λ b. b == 34) c.args.text.now ≡ false = sym c.has_quote.ensures ∙ c.if-has_quote.false in
    subst (λ (t : List ℕ). OnOk c.write_all.result (Appends (g.O.Sink.taken c.args.out.now) (g.O.Sink.taken c.write_all.new.sink) t)) (sym (plain_doubled c.args.text.now none)) c.write_all.ensures.all

pub returns-clause-front : goal.returns-clause-front
returns-clause-front g c =
    let none : list_any (λ b. b == 34) c.args.text.now ≡ false = sym c.has_quote.ensures ∙ c.if-has_quote.false in
    subst (λ (t : List ℕ). AppendsFront (g.O.Sink.taken c.args.out.now) (g.O.Sink.taken c.write_all.new.sink) t) (sym (plain_doubled c.args.text.now none)) c.write_all.ensures.front
