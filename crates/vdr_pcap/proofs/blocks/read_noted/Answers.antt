use Rattle.std.proofs.Common.{◌≡◌}
use Rattle.vdr_pcap.specs.Options.{none_noted, options_from}
use Rattle.vdr_pcap.proofs.BlockLemmas.{noted_rest}
use Rattle.vdr_pcap.proofs.FillingLemmas.{took}
use Rattle.vdr_pcap.proofs.blocks.read_noted.Goals as goal

pub returns-clause-read : goal.returns-clause-read
returns-clause-read g c =
    let t = took _ _ c.args.size (λ bytes noted. noted ≡ options_from c.args.big c.args.kind none_noted 0 bytes) c.in_ok-noted.field-0 c.in-Some.noted c.in_ok-noted.ensures.read c.in-Some.is in
    (t.0, t.1, t.2, noted_rest c.args.big c.args.kind t.0 _ c.in-Some.noted c.requires t.3)
