use Rattle.std.proofs.Common.{rules, arith, ◌≡◌, ◌<◌, ◌≤◌, ◌^◌, ℕ, sym, subst}
use Rattle.vdr_pcap.proofs.Powers.{pow_le, pow_positive}
use Rattle.vdr_pcap.proofs.stamps.power_of_ten.Goals as goal

pub pow-requires : goal.pow-requires
pow-requires c =
    let e : c.from.result ≡ c.args.exponent = search rules in
    let small : c.from.result ≤ 22 = omega (arith, e, c.requires) in
    let h : 10 ^ c.from.result ≤ 10 ^ 22 = pow_le c.from.result 22 small in
    omega (arith, h)

pub returns-clause-positive : goal.returns-clause-positive
returns-clause-positive c = subst (λ (n : ℕ). 0 < n) (sym c.pow.ensures) (pow_positive c.from.result)
