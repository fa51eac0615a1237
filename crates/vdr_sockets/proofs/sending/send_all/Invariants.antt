use Rattle.std.proofs.Common.{length, ◌≤◌, take}
use Rattle.std.specs.Io.KnownBytes.{Appends}
use Rattle.vdr_sockets.proofs.sending.send_all.Given as goal

abbrev pub invariant-loop : goal.invariant-loop
invariant-loop g l = record {
  within : l.done ≤ length l.bytes;
  written : Appends (g.P.Peer.sent l.initial.peer) (g.P.Peer.sent l.peer) (take l.done l.bytes);
}
