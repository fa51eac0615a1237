-- What stamps are as numbers.
use Rattle.std.proofs.Common.{◌≡◌, ◌<◌, ◌^◌, ℤ, ap, sym, ◌∙◌, arith, to_z, of_z, w64, FitsSigned}
use Rattle.std.specs.Prelude.{unsigned_abs}
use Rattle.std.proofs.lemmas.Int.{ints, to_z_pos}
use Rattle.vdr_terms.specs.Stamps.{IsStamp}

-- A stamp is the number of its bits.
pub stamp_kept : (utc : ℤ) → IsStamp utc → to_z w64 (of_z w64 utc) ≡ utc
stamp_kept utc stamp =
    let small : unsigned_abs utc < 2 ^ 63 = omega (arith, stamp.in_time) in
    ap (λ (z : ℤ). to_z w64 (of_z w64 z)) stamp.whole ∙ to_z_pos w64 (unsigned_abs utc) small ∙ sym stamp.whole

-- It is a number of 64 bits.
pub stamp_fits : (utc : ℤ) → IsStamp utc → FitsSigned w64 utc
stamp_fits utc s = omega (arith, ints, s.whole, s.in_time)
