use Rattle.std.proofs.Common.{◌≡◌, ◌≤◌, take}
use Rattle.vdr_pcap.specs.Packets.{longest_front}
use Rattle.vdr_pcap.proofs.BlockLemmas.{kept_rest}
use Rattle.vdr_pcap.proofs.FillingLemmas.{took}
use Rattle.vdr_pcap.proofs.blocks.read_kept.Goals as goal

pub returns-clause-read : goal.returns-clause-read
returns-clause-read g c =
    let t = took _ _ c.args.size (λ bytes n. (n ≤ 2048) × (take n c.read_front.new.front ≡ take longest_front bytes)) c.in_ok-kept.field-0 c.in-Some.kept c.in_ok-kept.ensures.read c.in-Some.is in
    (t.0, t.1, t.2, kept_rest c.args.big t.0 _ c.in-Some.kept t.3.0 t.3.1)
