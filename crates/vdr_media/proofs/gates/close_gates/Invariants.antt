use Rattle.std.proofs.Common.{◌≡◌, ◌+◌, ◌*◌}
use Rattle.vdr_outside.specs.Causes.{NoneFalls}
use Rattle.vdr_outside.specs.Disk.{content}
use Rattle.vdr_media.specs.Writing.{WritesBehindGate, ClosesGates}
use Rattle.vdr_media.proofs.gates.close_gates.Given as goal

abbrev pub invariant-loop : goal.invariant-loop
invariant-loop g l = record {
  place : l.at ≡ l.from + l.counter * l.step;
  writes : WritesBehindGate l.m (g.M.Media.disk l.fn.media) (g.M.Media.disk l.media);
  closed : g.M.Media.tells → ClosesGates l.from l.step l.counter (content (g.M.Media.disk l.fn.media).reads l.m) (content (g.M.Media.disk l.media).reads l.m);
  counts : g.M.Media.bytes_read l.media ≡ g.M.Media.bytes_read l.fn.media;
  cause : NoneFalls (g.M.Media.faults l.fn.media) (g.M.Media.faults l.media);
}
