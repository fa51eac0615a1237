use Rattle.std.proofs.Common.{Bor, List, ℕ}
use Rattle.vdr_outside.proofs.Known.{front-more, pieces-at}
use Rattle.vdr_rows.proofs.pieces.print_pieces.Goals as goal

pub returns-in_err-write_all-clause-front : goal.returns-in_err-write_all-clause-front
returns-in_err-write_all-clause-front g c =
    front-more _ _ _ _ _ _ _ (pieces-at (λ (piece : Bor (List ℕ)). piece.now) c.args.pieces.now c.loop-piece.piece-index _ c.loop-piece-test.true) c.loop-piece.invariant.written c.in_err-write_all.ensures.front
