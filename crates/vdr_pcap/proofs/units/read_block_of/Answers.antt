use Rattle.std.proofs.Common.{arith, ◌≡◌, ◌≤◌, ◌+◌, ◌-◌, false, sym, ◌∙◌}
use Rattle.vdr_pcap.specs.Blocks.{block_of, block_with, fixed_size, is_bad_length}
use Rattle.vdr_pcap.specs.Seen.{standing_of}
use Rattle.vdr_pcap.proofs.FillingLemmas.{if_ok}
use Rattle.vdr_pcap.proofs.UnitLemmas.{block_of_good, fixed_fits, least_fits, same_tells}
use Rattle.vdr_pcap.proofs.units.read_block_of.Goals as goal

pub returns-clause-read : goal.returns-clause-read
returns-clause-read g c =
    let good : is_bad_length c.args.kind c.args.len ≡ false = sym c.is_bad_length.ensures ∙ c.if-is_bad_length.false in
    let room : fixed_size c.args.kind + (c.args.before + 4) ≤ c.args.len = fixed_fits c.args.kind c.args.before c.args.len c.requires (least_fits c.args.kind c.args.len good) in
    let total : c.args.before + (c.args.len - (c.args.before + 4)) + 4 ≡ c.args.len = omega (arith, room) in
    if_ok c.read_block_with.result _ _
    (λ unit t. same_tells _ _ (block_of c.args.big c.args.kind c.args.len c.args.before (standing_of c.args.said.now)) (block_with c.args.big c.args.kind c.args.len (c.args.len - (c.args.before + 4)) (standing_of c.args.said.now))
    c.args.before unit _ _ (λ bytes. block_of_good c.args.big c.args.kind c.args.len c.args.before (standing_of c.args.said.now) bytes good) (t c.args.before total))
    c.read_block_with.ensures.read
