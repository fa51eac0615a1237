-- The pins of a table, slot by slot.
use Rattle.std.proofs.Common.{◌≡◌, ◌≤◌, ◌+◌, ℕ, zero, suc, List, [], ◌∷◌, ◌++◌, length, take, Option, Some, None, refl, sym, ap, ◌∙◌, subst, arith}
use Rattle.vdr_core.specs.Histories.{Incident, live}
use Rattle.vdr_durability.specs.Retention.{Pin}
use Rattle.vdr_durability.specs.Shown.{pins_of}

-- What a slot pins.
abbrev pub pin_in : Option Incident → List Pin
pin_in None = []
pin_in (Some i) = record { a = i.a; b = i.b } ∷ []

pub pins_step : (table : List (Option Incident)) (k : ℕ) → pins_of (take (suc k) table) ≡ pins_of (take k table) ++ pin_in (live table (suc k))
pins_step [] zero = refl
pins_step [] (suc k) = refl
pins_step (None ∷ table) zero = refl
pins_step (Some i ∷ table) zero = refl
pins_step (None ∷ table) (suc k) = pins_step table k
pins_step (Some i ∷ table) (suc k) = ap (λ (pins : List Pin). record { a = i.a; b = i.b } ∷ pins) (pins_step table k)

pub few_pins : (table : List (Option Incident)) (k : ℕ) → length (pins_of (take k table)) ≤ k
few_pins [] zero = omega arith
few_pins [] (suc k) = omega arith
few_pins (x ∷ table) zero = omega arith
few_pins (None ∷ table) (suc k) = let a = few_pins table k in omega (arith, a)
few_pins (Some i ∷ table) (suc k) = let a = few_pins table k in omega (arith, a)

-- With one slot more.
pub pins_with : (table : List (Option Incident)) (k : ℕ) (pins new : List Pin) (found : Option Incident) → pins ≡ pins_of (take k table) → found ≡ live table (k + 1) → new ≡ pins ++ pin_in found
    → new ≡ pins_of (take (k + 1) table)
pins_with table k pins new found so_far is more =
    let next : k + 1 ≡ suc k = omega arith in
    subst (λ (n : ℕ). found ≡ live table n → new ≡ pins_of (take n table)) (sym next)
    (λ is. more ∙ ap (λ (ps : List Pin). ps ++ pin_in found) so_far ∙ ap (λ (o : Option Incident). pins_of (take k table) ++ pin_in o) is ∙ sym (pins_step table k)) is
