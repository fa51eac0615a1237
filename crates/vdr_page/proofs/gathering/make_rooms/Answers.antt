use Rattle.std.proofs.Common.{All, List, arith, subst, sym}
use Rattle.vdr_ais.specs.Lines.{Line}
use Rattle.vdr_ais.specs.Pending.{HasPlace}
use Rattle.vdr_page.proofs.gathering.make_rooms.Goals as goal

pub returns-then-not-may_carry_parts-clause-rooms : goal.returns-then-not-may_carry_parts-clause-rooms
returns-then-not-may_carry_parts-clause-rooms c =
    subst (λ (lines : List Line). All (λ line. HasPlace c.args.unfinished.now line.key) lines) (sym (c.may_carry_parts.ensures c.args.group c.if-not-may_carry_parts.true)) (λ k d within. absurd (omega (arith, within)))
