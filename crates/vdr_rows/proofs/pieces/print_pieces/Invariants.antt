use Rattle.std.proofs.Common.{◌≤◌, Bor, List, ℕ, flat_map, take}
use Rattle.std.specs.Io.KnownBytes.{Appends}
use Rattle.vdr_rows.proofs.pieces.print_pieces.Given as goal

abbrev pub invariant-loop-piece : goal.invariant-loop-piece
invariant-loop-piece g l = record {
  written : Appends (g.O.Sink.taken l.initial.out) (g.O.Sink.taken l.out) (flat_map (λ (piece : Bor (List ℕ)). piece.now) (take l.piece-index l.pieces));
  later : g.O.Sink.faults l.initial.out ≤ g.O.Sink.faults l.out;
}
