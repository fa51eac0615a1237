use Rattle.std.proofs.Common.{arith, rules, ◌≡◌, ℕ, false, true, length, sym, ap, ◌∙◌}
use Rattle.vdr_pcap.specs.Blocks.{beginning, file_of, pcap_header, section_type, typed}
use Rattle.vdr_pcap.specs.Packets.{Refuses}
use Rattle.vdr_pcap.specs.Seen.{standing_of}
use Rattle.vdr_pcap.proofs.FillingLemmas.{filled, if_ok}
use Rattle.vdr_pcap.proofs.Telling.{behind, known}
use Rattle.vdr_pcap.proofs.UnitLemmas.{beginning_at, file_other}
use Rattle.vdr_pcap.proofs.units.read_beginning.Goals as goal

pub returns-in-168627466-clause-read : goal.returns-in-168627466-clause-read
returns-in-168627466-clause-read g c =
    let four : length c.read_all.new.into ≡ 4 = c.read_all.auto.into in
    if_ok c.read_typed.result _ _
    (λ unit t. behind _ _ _ (beginning (standing_of c.args.said.now)) (typed false section_type (standing_of c.args.said.now)) 0 4 c.read_all.new.into unit _ _
    (filled _ _ c.read_all.new.into c.in_ok-read_all.field-0 c.in_ok-read_all.ensures.read c.if-not-branch.false) (omega (arith, four))
    (λ rest. beginning_at (standing_of c.args.said.now) c.read_all.new.into rest c.read_all.auto.into ∙ ap (λ (m : ℕ). file_of m (standing_of c.args.said.now) rest) (sym c.u32_in.ensures ∙ c.in-168627466.is)) t)
    c.read_typed.ensures.read

pub returns-in-2712847316-clause-read : goal.returns-in-2712847316-clause-read
returns-in-2712847316-clause-read g c =
    let four : length c.read_all.new.into ≡ 4 = c.read_all.auto.into in
    if_ok c.read_pcap_header.result _ _
    (λ unit t. behind _ _ _ (beginning (standing_of c.args.said.now)) (pcap_header false false (standing_of c.args.said.now)) 0 4 c.read_all.new.into unit _ _
    (filled _ _ c.read_all.new.into c.in_ok-read_all.field-0 c.in_ok-read_all.ensures.read c.if-not-branch.false) (omega (arith, four))
    (λ rest. beginning_at (standing_of c.args.said.now) c.read_all.new.into rest c.read_all.auto.into ∙ ap (λ (m : ℕ). file_of m (standing_of c.args.said.now) rest) (sym c.u32_in.ensures ∙ c.in-2712847316.is)) t)
    c.read_pcap_header.ensures.read

pub returns-in-3569595041-clause-read : goal.returns-in-3569595041-clause-read
returns-in-3569595041-clause-read g c =
    let four : length c.read_all.new.into ≡ 4 = c.read_all.auto.into in
    if_ok c.read_pcap_header-in-3569595041.result _ _
    (λ unit t. behind _ _ _ (beginning (standing_of c.args.said.now)) (pcap_header true false (standing_of c.args.said.now)) 0 4 c.read_all.new.into unit _ _
    (filled _ _ c.read_all.new.into c.in_ok-read_all.field-0 c.in_ok-read_all.ensures.read c.if-not-branch.false) (omega (arith, four))
    (λ rest. beginning_at (standing_of c.args.said.now) c.read_all.new.into rest c.read_all.auto.into ∙ ap (λ (m : ℕ). file_of m (standing_of c.args.said.now) rest) (sym c.u32_in.ensures ∙ c.in-3569595041.is)) t)
    c.read_pcap_header-in-3569595041.ensures.read

pub returns-in-2712812621-clause-read : goal.returns-in-2712812621-clause-read
returns-in-2712812621-clause-read g c =
    let four : length c.read_all.new.into ≡ 4 = c.read_all.auto.into in
    if_ok c.read_pcap_header-in-2712812621.result _ _
    (λ unit t. behind _ _ _ (beginning (standing_of c.args.said.now)) (pcap_header false true (standing_of c.args.said.now)) 0 4 c.read_all.new.into unit _ _
    (filled _ _ c.read_all.new.into c.in_ok-read_all.field-0 c.in_ok-read_all.ensures.read c.if-not-branch.false) (omega (arith, four))
    (λ rest. beginning_at (standing_of c.args.said.now) c.read_all.new.into rest c.read_all.auto.into ∙ ap (λ (m : ℕ). file_of m (standing_of c.args.said.now) rest) (sym c.u32_in.ensures ∙ c.in-2712812621.is)) t)
    c.read_pcap_header-in-2712812621.ensures.read

pub returns-in-1295823521-clause-read : goal.returns-in-1295823521-clause-read
returns-in-1295823521-clause-read g c =
    let four : length c.read_all.new.into ≡ 4 = c.read_all.auto.into in
    if_ok c.read_pcap_header-in-1295823521.result _ _
    (λ unit t. behind _ _ _ (beginning (standing_of c.args.said.now)) (pcap_header true true (standing_of c.args.said.now)) 0 4 c.read_all.new.into unit _ _
    (filled _ _ c.read_all.new.into c.in_ok-read_all.field-0 c.in_ok-read_all.ensures.read c.if-not-branch.false) (omega (arith, four))
    (λ rest. beginning_at (standing_of c.args.said.now) c.read_all.new.into rest c.read_all.auto.into ∙ ap (λ (m : ℕ). file_of m (standing_of c.args.said.now) rest) (sym c.u32_in.ensures ∙ c.in-1295823521.is)) t)
    c.read_pcap_header-in-1295823521.ensures.read

pub returns-in_default-clause-read : goal.returns-in_default-clause-read
returns-in_default-clause-read g c =
    known _ _ c.read_all.new.into (λ bytes. beginning (standing_of c.args.said.now) bytes ≡ Refuses 1) (filled _ _ c.read_all.new.into c.in_ok-read_all.field-0 c.in_ok-read_all.ensures.read c.if-not-branch.false)
    (λ rest is. beginning_at (standing_of c.args.said.now) c.read_all.new.into rest c.read_all.auto.into
    ∙ (ap (λ (m : ℕ). file_of m (standing_of c.args.said.now) rest) (sym c.u32_in.ensures)
    ∙ file_other c.u32_in.result (standing_of c.args.said.now) rest (search rules) (search rules) (search rules) (search rules) (search rules)))
