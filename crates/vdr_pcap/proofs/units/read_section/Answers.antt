use Rattle.std.proofs.Common.{arith, ◌≡◌, ℕ, Bool, false, Option, None, Some, length, sym, ap, ◌∙◌}
use Rattle.vdr_pcap.specs.Blocks.{block_of, order_of, section, section_in, section_type}
use Rattle.vdr_pcap.specs.Numbers.{u32_in}
use Rattle.vdr_pcap.specs.Packets.{Refuses}
use Rattle.vdr_pcap.specs.Seen.{standing_of}
use Rattle.vdr_pcap.proofs.FillingLemmas.{filled, if_ok}
use Rattle.vdr_pcap.proofs.Telling.{behind, known}
use Rattle.vdr_pcap.proofs.UnitLemmas.{section_at}
use Rattle.vdr_pcap.proofs.units.read_section.Goals as goal

pub returns-in_default-clause-read : goal.returns-in_default-clause-read
returns-in_default-clause-read g c =
    let order : order_of (u32_in false 0 c.read_all.new.into) ≡ None = ap order_of (sym c.u32_in.ensures) ∙ (sym c.order_of.ensures ∙ c.in_default.is) in
    known _ _ c.read_all.new.into (λ bytes. section (standing_of c.args.said.now) c.args.size.now bytes ≡ Refuses 3) (filled _ _ c.read_all.new.into c.in_ok-read_all.field-0 c.in_ok-read_all.ensures.read c.if-not-branch.false)
    (λ rest is. section_at (standing_of c.args.said.now) c.args.size.now c.read_all.new.into rest c.read_all.auto.into
    ∙ ap (λ (o : Option Bool). section_in o (standing_of c.args.said.now) c.args.size.now rest) order)

pub returns-clause-read : goal.returns-clause-read
returns-clause-read g c =
    let order : order_of (u32_in false 0 c.read_all.new.into) ≡ Some c.in-Some.big = ap order_of (sym c.u32_in.ensures) ∙ (sym c.order_of.ensures ∙ c.in-Some.is) in
    let four : length c.read_all.new.into ≡ 4 = c.read_all.auto.into in
    if_ok c.read_block_of.result _ _
    (λ unit t. behind _ _ _ (section (standing_of c.args.said.now) c.args.size.now) (block_of c.in-Some.big section_type c.u32_in-2.result 12 (standing_of c.args.said.now)) 8 12 c.read_all.new.into unit _ _
    (filled _ _ c.read_all.new.into c.in_ok-read_all.field-0 c.in_ok-read_all.ensures.read c.if-not-branch.false) (omega (arith, four))
    (λ rest. section_at (standing_of c.args.said.now) c.args.size.now c.read_all.new.into rest c.read_all.auto.into
    ∙ (ap (λ (o : Option Bool). section_in o (standing_of c.args.said.now) c.args.size.now rest) order
    ∙ ap (λ (n : ℕ). block_of c.in-Some.big section_type n 12 (standing_of c.args.said.now) rest) (sym c.u32_in-2.ensures))) t)
    c.read_block_of.ensures.read
