use Rattle.std.proofs.Common.{◌≡◌, ◌∙◌, ◌∷◌, ◌++◌, IfOk, Option, option_map, ap, sym, subst}
use Rattle.std.specs.Prelude.{option_and_then, option_to_list}
use Rattle.std.proofs.lemmas.Result.{on_ok_weaker}
use Rattle.vdr_ais.specs.Lines.{Line}
use Rattle.vdr_ais.specs.Messages.{message_behind}
use Rattle.vdr_ais.specs.Pending.{AreEntries, HasRead}
use Rattle.vdr_ais.specs.Views.{line_said, message_of}
use Rattle.vdr_ais.proofs.Begun.{read_all, read_begun}
use Rattle.vdr_ais.proofs.unfinished.Unfinished.try_take_line.Goals as goal

pub returns-in-Some-clause-read : goal.returns-in-Some-clause-read
returns-in-Some-clause-read c = λ back h.
    let line = line_said c.in-Some.line in
    let carried = sym c.line_in.ensures ∙ ap (option_map line_said) c.in-Some.is in
    let old = subst AreEntries c.self.view_is c.self.invariant in
    on_ok_weaker c.take.result
    (λ read. subst (λ (o : Option Line). HasRead (option_to_list o ++ back) c.take.new.self) (sym carried) (read_all (line ∷ back) c.take.new.self c.take.ensures.entries read))
    (c.take.ensures.read back (read_begun back c.args.self.now old h))

pub returns-in-Some-clause-ended : goal.returns-in-Some-clause-ended
returns-in-Some-clause-ended c = λ back h.
    let carried = sym c.line_in.ensures ∙ ap (option_map line_said) c.in-Some.is in
    let old = subst AreEntries c.self.view_is c.self.invariant in
    subst (λ (o : Option Line). IfOk c.take.result (λ message. option_map message_of message ≡ option_and_then (message_behind back) o)) (sym carried)
    (c.take.ensures.joined back (read_begun back c.args.self.now old h))

pub returns-in-None-clause-read : goal.returns-in-None-clause-read
returns-in-None-clause-read c = λ back h.
    let none = sym c.line_in.ensures ∙ ap (option_map line_said) c.in-None.is in
    subst (λ (o : Option Line). HasRead (option_to_list o ++ back) c.args.self.now) (sym none) h

pub returns-in-None-clause-ended : goal.returns-in-None-clause-ended
returns-in-None-clause-ended c = λ back h.
    let none = sym c.line_in.ensures ∙ ap (option_map line_said) c.in-None.is in
    ap (λ (o : Option Line). option_and_then (message_behind back) o) (sym none)
