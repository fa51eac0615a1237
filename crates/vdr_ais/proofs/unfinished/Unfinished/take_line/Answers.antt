use Rattle.std.proofs.Common.{◌∙◌, ◌++◌, Option, option_map, ap, sym, subst}
use Rattle.std.specs.Prelude.{option_and_then, option_to_list}
use Rattle.vdr_ais.specs.Lines.{Line}
use Rattle.vdr_ais.specs.Messages.{message_behind}
use Rattle.vdr_ais.specs.Pending.{HasRead}
use Rattle.vdr_ais.specs.Views.{line_said}
use Rattle.vdr_ais.proofs.Looking.{ends_so, read_more}
use Rattle.vdr_ais.proofs.unfinished.Unfinished.take_line.Goals as goal

pub join-requires : goal.join-requires
join-requires c = c.requires (line_said c.in-Some.line) (sym c.line_in.ensures ∙ ap (option_map line_said) c.in-Some.is)

pub returns-in-Some-clause-read : goal.returns-in-Some-clause-read
returns-in-Some-clause-read c = λ back h.
    let line = line_said c.in-Some.line in
    let carried = sym c.line_in.ensures ∙ ap (option_map line_said) c.in-Some.is in
    subst (λ (o : Option Line). HasRead (option_to_list o ++ back) c.join.new.self) (sym carried) (read_more back line c.args.self.now c.join.new.self h c.join.ensures.next)

pub returns-in-Some-clause-ended : goal.returns-in-Some-clause-ended
returns-in-Some-clause-ended c = λ back h.
    let line = line_said c.in-Some.line in
    let carried = sym c.line_in.ensures ∙ ap (option_map line_said) c.in-Some.is in
    c.join.ensures.ended ∙ sym (ends_so back line c.args.self.now h) ∙ ap (λ (o : Option Line). option_and_then (message_behind back) o) (sym carried)

pub returns-in-None-clause-read : goal.returns-in-None-clause-read
returns-in-None-clause-read c = λ back h.
    let none = sym c.line_in.ensures ∙ ap (option_map line_said) c.in-None.is in
    subst (λ (o : Option Line). HasRead (option_to_list o ++ back) c.args.self.now) (sym none) h

pub returns-in-None-clause-ended : goal.returns-in-None-clause-ended
returns-in-None-clause-ended c = λ back h.
    let none = sym c.line_in.ensures ∙ ap (option_map line_said) c.in-None.is in
    ap (λ (o : Option Line). option_and_then (message_behind back) o) (sym none)
