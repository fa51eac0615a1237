use Rattle.std.proofs.Common.{◌≡◌, ◌+◌, ◌-◌, ℕ, refl, take, drop, ap, sym, ◌∙◌, arith}
use Rattle.std.specs.Prelude.{min}
use Rattle.vdr_pcap.specs.Stamps.{stamp_of_fraction}
use Rattle.vdr_pcap.proofs.WithinLemmas.{front_is}
use Rattle.vdr_pcap.proofs.fronts.packet_front.Goals as goal

pub returns-clause-found : goal.returns-clause-found
returns-clause-found c = λ s form.
    let kept : 16 + c.min-kept.result - 16 ≡ min c.u32_in-captured.result 2048 = omega (arith, c.min-kept.ensures) in
    front_is c.args.big c.args.nano c.args.link s c.args.bytes.now _ c.u32_in-captured.result form (sym c.is_whole.ensures ∙ c.if-not-is_whole.false) c.u32_in-captured.ensures refl refl
    (c.stamp_of_fraction.ensures.is ∙ (λ i. stamp_of_fraction c.args.nano (c.u32_in.ensures i) (c.u32_in-2.ensures i)))
    (ap (λ (n : ℕ). take n (drop 16 c.args.bytes.now)) kept)
