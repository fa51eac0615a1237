use Rattle.std.proofs.Common.{◌≤◌}
use Rattle.vdr_export.proofs.Lines.{IsOnWay}
use Rattle.vdr_export.proofs.listing.Listing.write.Given as goal

abbrev pub invariant-loop-block : goal.invariant-loop-block
invariant-loop-block g l = record {
  way : IsOnWay (g.O.Sink.taken l.fn.out) (g.O.Sink.taken l.out) l.fn.self l.block-iterator;
  later : g.O.Sink.faults l.fn.out ≤ g.O.Sink.faults l.out;
}
