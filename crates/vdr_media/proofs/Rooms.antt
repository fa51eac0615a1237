-- What fits on a medium that has the slots that its configuration needs.
use Rattle.std.proofs.Common.{◌≡◌, ⊎_elim, ℕ, ◌+◌, ◌-◌, ◌*◌, ◌/◌, ◌%◌, ◌<◌, ◌≤◌, List, length, Ok, Err, sym, ◌∙◌, arith}
use Rattle.std.proofs.Math.Nat.{mul-le-mul_right}
use Rattle.std.proofs.lemmas.Bool.{cases_lt, cond-true, lt-ltb}
use Rattle.std.proofs.lemmas.Nat.{div-add-mod'}
use Rattle.vdr_terms.specs.Needs.{Sizes, Fits}
use Rattle.vdr_config.specs.declared.bad.ConfigBad.TheVariants.{TooLong}
use Rattle.vdr_config.specs.Configuration.{Configuration}
use Rattle.vdr_config.specs.Grammar.{configuration}
use Rattle.vdr_terms.specs.Slots.{slot_count}

pub too_long : (text : List ℕ) → 16380 < length text → configuration text ≡ Err TooLong
unfolding configuration
too_long text long = cond-true _ (Err TooLong) _ (lt-ltb 16380 (length text) long)

-- the text of a configuration has its place
pub text_fits : (text : List ℕ) (c : Configuration) → configuration text ≡ Ok c → length text ≤ 16380
text_fits text c is = ⊎_elim
    (λ (long : 16380 < length text). let clash : Ok c ≡ Err TooLong = sym is ∙ too_long text long in let none : ⊥ = cc in absurd none)
    (λ (short : length text ≤ 16380). short)
    (cases_lt 16380 (length text))

-- the slots stand within the medium
pub slots_fit : (segment size : ℕ) → 1 ≤ segment → 1 ≤ slot_count segment size → 32768 + slot_count segment size * segment ≤ size
slots_fit segment size sized some =
    let whole : (size - 32768) / segment * segment + (size - 32768) % segment ≡ size - 32768 = div-add-mod' (size - 32768) segment in
    let all : slot_count segment size * segment ≤ (size - 32768) / segment * segment = mul-le-mul_right segment (omega arith) in
    let one : 1 * segment ≤ (size - 32768) / segment * segment = mul-le-mul_right segment (omega (arith, some)) in
    omega (arith, whole, all, one, sized)

-- a medium that fits has some slot
pub some_slot : (sizes : Sizes) (m size : ℕ) → Fits sizes m size → 1 ≤ slot_count sizes.segment size
some_slot sizes m size fits = omega (arith, fits)
