use Rattle.std.proofs.Common.{arith, ◌≡◌, ◌+◌, ℕ, length, sym, subst, ◌∙◌}
use Rattle.vdr_pcap.specs.Blocks.{pcap_header}
use Rattle.vdr_pcap.specs.Seen.{HasSize, standing_of}
use Rattle.vdr_pcap.proofs.FillingLemmas.{filled}
use Rattle.vdr_pcap.proofs.Telling.{read_whole}
use Rattle.vdr_pcap.proofs.UnitLemmas.{header_is}
use Rattle.vdr_pcap.proofs.units.read_pcap_header.Goals as goal

pub returns-clause-read : goal.returns-clause-read
returns-clause-read g c =
    let long : length c.read_all.new.into ≡ 20 = c.read_all.auto.into in
    let all : 24 ≡ 4 + length c.read_all.new.into = omega (arith, long) in
    read_whole _ _ (pcap_header c.args.big c.args.nano (standing_of c.args.said.now)) 4 c.read_all.new.into c.say_header.result (standing_of c.say_header.new.said) c.args.front.now
    (filled _ _ c.read_all.new.into c.in_ok-read_all.field-0 c.in_ok-read_all.ensures.read c.if-not-branch.false)
    (subst (λ (n : ℕ). HasSize c.say_header.result n) all c.say_header.ensures.size)
    (λ rest. header_is c.args.big c.args.nano (standing_of c.args.said.now) c.read_all.new.into rest c.read_all.auto.into ∙ sym (c.say_header.ensures.is c.args.front.now))
