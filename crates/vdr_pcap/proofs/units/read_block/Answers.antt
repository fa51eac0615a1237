use Rattle.std.proofs.Common.{arith, ◌≡◌, ℕ, length, sym, ap, ◌∙◌}
use Rattle.vdr_pcap.specs.Blocks.{parsed_block, typed}
use Rattle.vdr_pcap.specs.Seen.{standing_of}
use Rattle.vdr_pcap.proofs.Telling.{behind}
use Rattle.vdr_pcap.proofs.UnitLemmas.{block_at, full}
use Rattle.vdr_pcap.proofs.units.read_block.Goals as goal

pub returns-clause-read : goal.returns-clause-read
returns-clause-read g c =
    let four : length c.fill.new.into ≡ 4 = c.fill.auto.into in
    behind _ _ _ (parsed_block c.args.big (standing_of c.args.said.now)) (typed c.args.big c.u32_in.result (standing_of c.args.said.now)) 0 4 c.fill.new.into c.in_ok-read_typed.field-0 _ _
    (full _ _ c.in_ok-got.got 4 c.fill.new.into c.in_ok-got.ensures.bytes c.fill.auto.into c.if-got-lt4.false) (omega (arith, four))
    (λ rest. block_at c.args.big (standing_of c.args.said.now) c.fill.new.into rest c.fill.auto.into ∙ ap (λ (k : ℕ). typed c.args.big k (standing_of c.args.said.now) rest) (sym c.u32_in.ensures))
    c.in_ok-read_typed.ensures.read
