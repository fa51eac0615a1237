use Rattle.std.proofs.Common.{sym, ◌∙◌}
use Rattle.vdr_pcap.proofs.BlockLemmas.{other_rest}
use Rattle.vdr_pcap.proofs.FillingLemmas.{passed}
use Rattle.vdr_pcap.proofs.blocks.read_rest.Goals as goal

pub returns-clause-read : goal.returns-clause-read
returns-clause-read g c =
    let p = passed _ _ c.args.size c.in_ok-pass.field-0 c.in_ok-pass.ensures.read c.if-not-branch.false in
    (p.0, p.1, p.2, other_rest c.args.big c.args.kind p.0 _ (sym c.has_options.ensures ∙ c.if-has_options.false) c.if-kind-eq-PACKET.false)
