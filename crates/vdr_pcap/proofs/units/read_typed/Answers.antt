use Rattle.std.proofs.Common.{arith, ◌≡◌, ℕ, Bool, cond, length, sym, ap, ◌∙◌}
use Rattle.std.proofs.lemmas.Bool.{eq-eqb, ne_eqb}
use Rattle.vdr_pcap.specs.Blocks.{block_of, section, section_type, typed}
use Rattle.vdr_pcap.specs.Numbers.{u32_in}
use Rattle.vdr_pcap.specs.Seen.{standing_of}
use Rattle.vdr_pcap.proofs.FillingLemmas.{filled, if_ok}
use Rattle.vdr_pcap.proofs.Telling.{behind}
use Rattle.vdr_pcap.proofs.UnitLemmas.{typed_at}
use Rattle.vdr_pcap.proofs.units.read_typed.Goals as goal

pub returns-then-kind-eq-SECTION-clause-read : goal.returns-then-kind-eq-SECTION-clause-read
returns-then-kind-eq-SECTION-clause-read g c =
    let four : length c.read_all.new.into ≡ 4 = c.read_all.auto.into in
    if_ok c.read_section.result _ _
    (λ unit t. behind _ _ _ (typed c.args.big c.args.kind (standing_of c.args.said.now)) (section (standing_of c.args.said.now) c.read_all.new.into) 4 8 c.read_all.new.into unit _ _
    (filled _ _ c.read_all.new.into c.in_ok-read_all.field-0 c.in_ok-read_all.ensures.read c.if-not-branch.false) (omega (arith, four))
    (λ rest. typed_at c.args.big c.args.kind (standing_of c.args.said.now) c.read_all.new.into rest c.read_all.auto.into
    ∙ ap (λ (b : Bool). cond b (section (standing_of c.args.said.now) c.read_all.new.into rest) (block_of c.args.big c.args.kind (u32_in c.args.big 0 c.read_all.new.into) 8 (standing_of c.args.said.now) rest))
    (eq-eqb c.args.kind section_type c.if-kind-eq-SECTION.true)) t)
    c.read_section.ensures.read

pub returns-clause-read : goal.returns-clause-read
returns-clause-read g c =
    let four : length c.read_all.new.into ≡ 4 = c.read_all.auto.into in
    if_ok c.read_block_of.result _ _
    (λ unit t. behind _ _ _ (typed c.args.big c.args.kind (standing_of c.args.said.now)) (block_of c.args.big c.args.kind c.u32_in.result 8 (standing_of c.args.said.now)) 4 8 c.read_all.new.into unit _ _
    (filled _ _ c.read_all.new.into c.in_ok-read_all.field-0 c.in_ok-read_all.ensures.read c.if-not-branch.false) (omega (arith, four))
    (λ rest. typed_at c.args.big c.args.kind (standing_of c.args.said.now) c.read_all.new.into rest c.read_all.auto.into
    ∙ (ap (λ (b : Bool). cond b (section (standing_of c.args.said.now) c.read_all.new.into rest) (block_of c.args.big c.args.kind (u32_in c.args.big 0 c.read_all.new.into) 8 (standing_of c.args.said.now) rest))
    (ne_eqb c.args.kind section_type c.if-kind-eq-SECTION.false)
    ∙ ap (λ (n : ℕ). block_of c.args.big c.args.kind n 8 (standing_of c.args.said.now) rest) (sym c.u32_in.ensures))) t)
    c.read_block_of.ensures.read
