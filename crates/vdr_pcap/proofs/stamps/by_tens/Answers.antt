use Rattle.std.proofs.Common.{arith, ◌≡◌, ◌<◌, ◌≤◌, ◌/◌, ◌^◌, ℕ, sym}
use Rattle.std.proofs.Math.Nat.{div-eq_of_lt}
use Rattle.vdr_pcap.proofs.Powers.{pow_le}
use Rattle.vdr_pcap.proofs.stamps.by_tens.Goals as goal

none_left : (total exponent : ℕ) → total < 10 ^ 23 → 22 < exponent → 0 ≡ total / 10 ^ exponent
none_left total exponent few more =
    let h : 10 ^ 23 ≤ 10 ^ exponent = pow_le 23 exponent (omega (arith, more)) in
    let less : total < 10 ^ exponent = omega (arith, few, h) in
    sym (div-eq_of_lt less)

pub returns-then-exponent-gt22-clause-value : goal.returns-then-exponent-gt22-clause-value
returns-then-exponent-gt22-clause-value c = none_left c.args.total c.args.exponent c.requires c.if-exponent-gt22.true
