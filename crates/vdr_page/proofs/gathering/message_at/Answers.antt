use Rattle.std.proofs.Common.{◌≡◌, ◌++◌, Option, None, refl, subst, sym}
use Rattle.std.specs.Prelude.{option_and_then, option_to_list}
use Rattle.vdr_datagram.specs.Views.{verdict_of}
use Rattle.vdr_ais.specs.Bits.{Message}
use Rattle.vdr_ais.specs.Lines.{Line, line_in}
use Rattle.vdr_ais.specs.Messages.{message_behind}
use Rattle.vdr_ais.specs.Pending.{HasRead}
use Rattle.vdr_page.proofs.gathering.message_at.Goals as goal

pub returns-then-not-may_carry_part-clause-read : goal.returns-then-not-may_carry_part-clause-read
returns-then-not-may_carry_part-clause-read c = λ back h.
    let no : line_in c.args.group (verdict_of c.args.verdict.now) ≡ None = c.may_carry_part.ensures c.args.group c.if-not-may_carry_part.true in
    subst (λ (o : Option Line). HasRead (option_to_list o ++ back) c.args.unfinished.now) (sym no) h

pub returns-then-not-may_carry_part-clause-ended : goal.returns-then-not-may_carry_part-clause-ended
returns-then-not-may_carry_part-clause-ended c = λ back h.
    let no : line_in c.args.group (verdict_of c.args.verdict.now) ≡ None = c.may_carry_part.ensures c.args.group c.if-not-may_carry_part.true in
    subst (λ (o : Option Line). ◌≡◌ {A = Option Message} None (option_and_then (message_behind back) o)) (sym no) refl
