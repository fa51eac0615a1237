use Rattle.std.proofs.Common.{◌≡◌, IfOk, Some, Option, option_and_then, option_map, rules, sym, subst}
use Rattle.vdr_ais.specs.Lines.{Line, line_as}
use Rattle.vdr_ais.specs.Messages.{message_behind}
use Rattle.vdr_ais.specs.Pending.{Entries, HasRead}
use Rattle.vdr_ais.specs.Views.{line_said, message_of}
use Rattle.vdr_ais.proofs.joiner.Joiner.line.Goals as goal

pub returns-clause-joined : goal.returns-clause-joined
returns-clause-joined c = λ back h.
    let is : line_as c.args.group c.args.source.now c.args.formatter.now c.args.reading.now ≡ Some (line_said c.in-Some.line) = search rules in
    let read = subst (λ (es : Entries). HasRead back es) (sym c.self.view_is) h in
    subst (λ (o : Option Line). IfOk c.take.result (λ message. option_map message_of message ≡ option_and_then (message_behind back) o)) (sym is) (c.take.ensures.joined back read)
