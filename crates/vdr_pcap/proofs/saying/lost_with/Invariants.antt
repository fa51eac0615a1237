use Rattle.std.proofs.Common.{◌≡◌, drop}
use Rattle.vdr_pcap.specs.Packets.{lost_with}
use Rattle.vdr_pcap.proofs.saying.lost_with.Given as goal

abbrev pub invariant-loop-interface : goal.invariant-loop-interface
invariant-loop-interface l = lost_with l.lost l.interfaces ≡ lost_with l.total (drop l.interface-index l.interfaces)
