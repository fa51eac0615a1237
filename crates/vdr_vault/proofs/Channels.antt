-- A channel that was found is one of those that there are.
use Rattle.std.proofs.Common.{◌≡◌, ◌≤◌, ◌<◌, ◌∷◌, ℕ, Bool, true, false, List, [], Option, Some, None, length, refl, arith}
use Rattle.std.specs.Prelude.{if◌then◌else◌, nat_le, position}
use Rattle.std.proofs.lemmas.Bool.{false_from_ne_true, leb-true}
use Rattle.std.proofs.lemmas.List.Quantifiers.{position-Some}
use Rattle.vdr_config.specs.Configuration.{Selector}
use Rattle.vdr_visit.specs.Refusals.{lacks_channel}

pub has_number : (count : ℕ) (number : Option ℕ) → ((k : ℕ) → number ≡ Some k → k < count) → lacks_channel count number ≡ false
has_number count None within = refl
has_number count (Some k) within = false_from_ne_true (nat_le count k) (λ past. let few = within k refl in let low : count ≤ k = leb-true count k past in let none : ⊥ = omega (arith, few, low) in none)

pub position_within : (test : Selector → Bool) (channels : List Selector) (k : ℕ) → position test channels ≡ Some k → k < length channels
position_within test [] k e = let none : ⊥ = cc in absurd none
position_within test (c ∷ channels) k e = (position-Some test (c ∷ channels) k c e).0

pub number_if : (b : Bool) (found : Option ℕ) (k : ℕ) → (if b then None else found) ≡ Some k → found ≡ Some k
number_if true found k e = let none : ⊥ = cc in absurd none
number_if false found k e = e
