use Rattle.std.proofs.Common.{◌∙◌, ℕ, List, subst}
use Rattle.std.specs.Prelude.{OnOk}
use Rattle.std.specs.Io.KnownBytes.{Appends}
use Rattle.vdr_outside.specs.Writes.{AppendsFront}
use Rattle.vdr_command.proofs.Lines.{refusal_is}
use Rattle.vdr_command.proofs.refusal.print_refusal.Goals as goal

pub returns-clause-all : goal.returns-clause-all
returns-clause-all g c =
    let is = refusal_is c.args.bad.now c.as_slice.result.now c.key_of.result.now c.number_of.result c.number_of.ensures (c.as_slice.ensures.value ∙ c.front_of.ensures) c.key_of.ensures in
    subst (λ (line : List ℕ). OnOk c.print_line.result (Appends (g.O.Sink.taken c.args.out.now) (g.O.Sink.taken c.print_line.new.out) line)) is c.print_line.ensures.all

pub returns-clause-front : goal.returns-clause-front
returns-clause-front g c =
    let is = refusal_is c.args.bad.now c.as_slice.result.now c.key_of.result.now c.number_of.result c.number_of.ensures (c.as_slice.ensures.value ∙ c.front_of.ensures) c.key_of.ensures in
    subst (λ (line : List ℕ). AppendsFront (g.O.Sink.taken c.args.out.now) (g.O.Sink.taken c.print_line.new.out) line) is c.print_line.ensures.front
