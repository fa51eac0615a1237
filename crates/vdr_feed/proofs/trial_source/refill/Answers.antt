use Rattle.std.proofs.Common.{arith}
use Rattle.vdr_feed.proofs.Left.{next_of}
use Rattle.vdr_feed.proofs.trial_source.refill.Goals as goal

pub returns-clause-left : goal.returns-clause-left
returns-clause-left c =
    let s = c.args.s.now in
    rw (c.spell.ensures.piece, c.spell.ensures.state)
    (next_of s.given s.piece.items s.count s.state s.index (omega (arith, c.if-s-len.false, c.len.ensures.value)) (omega (arith, c.if-s.false, c.requires.index)))
