use Rattle.std.proofs.Common.{rules, arith, ◌≡◌, ◌≤◌, ◌+◌, ◌++◌, ℕ, List, [], length, take, sym, ap, ◌∙◌, append-nil}
use Rattle.std.proofs.KnownBytes.{Consumes-trans}
use Rattle.std.proofs.lemmas.List.{length-append}
use Rattle.vdr_pcap.specs.Blocks.{packet_in}
use Rattle.vdr_pcap.specs.Numbers.{u32_in}
use Rattle.vdr_pcap.specs.Packets.{longest_front}
use Rattle.vdr_pcap.specs.Seen.{standing_of}
use Rattle.vdr_pcap.specs.Stamps.{stamp_of_fraction}
use Rattle.vdr_pcap.proofs.FillingLemmas.{took}
use Rattle.vdr_pcap.proofs.UnitLemmas.{full, packet_at_head, packet_whole}
use Rattle.vdr_pcap.proofs.units.read_packet.Goals as goal

pub returns-clause-read : goal.returns-clause-read
returns-clause-read g c =
    let long : length c.fill.new.into ≡ 16 = c.fill.auto.into in
    let captured : c.u32_in-captured.result ≡ u32_in c.args.big 8 c.fill.new.into = c.u32_in-captured.ensures in
    let wide : c.from.result ≡ c.u32_in-captured.result = search rules in
    let few : c.u32_in-captured.result ≤ 262_144 = c.if-captured-gt262144.false in
    let v = took _ _ c.u32_in-captured.result (λ bytes n. (n ≤ 2048) × (take n c.read_front.new.front ≡ take longest_front bytes)) c.in_ok-kept.field-0 c.in-Some.kept c.in_ok-kept.ensures.read c.in-Some.is in
    let many : length v.0 ≡ c.u32_in-captured.result = v.1 in (
      c.fill.new.into ++ v.0,
      omega (arith, length-append c.fill.new.into v.0, long, many, wide),
      Consumes-trans _ _ _ c.fill.new.into v.0 (full _ _ c.in_ok-got.got 16 c.fill.new.into c.in_ok-got.ensures.bytes c.fill.auto.into c.if-got-lt16.false) v.2,
      packet_at_head c.args.big c.args.nano c.args.link (standing_of c.args.said.now) c.fill.new.into v.0 c.fill.auto.into
          ∙ (ap (λ (b : List ℕ). packet_in c.args.big c.args.nano c.args.link (standing_of c.args.said.now) c.fill.new.into b) (sym (append-nil v.0))
          ∙ packet_whole c.args.big c.args.nano c.args.link (standing_of c.args.said.now) c.fill.new.into v.0 [] c.read_front.new.front c.in-Some.kept (16 + c.from.result) c.stamp_of_fraction-stamp.result
          (omega (arith, captured, few)) (v.1 ∙ captured) v.3.1
          (c.stamp_of_fraction-stamp.ensures.is ∙ (λ i. stamp_of_fraction c.args.nano (c.u32_in.ensures i) (c.u32_in-2.ensures i)))
          (omega (arith, wide, captured))),
    )
