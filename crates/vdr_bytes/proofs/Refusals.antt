-- What follows where the first of several refusals does not come.
use Rattle.std.proofs.Common.{◌≡◌, Bool, true, false, Option, Some, None, refl}
use Rattle.std.specs.Prelude.{cond}

pub row_none : {X : Type 0} (t : Bool) (bad : X) (others : Option X) → cond t (Some bad) others ≡ None → (t ≡ false) × (others ≡ None)
row_none true bad others h = absurd (cc)
row_none false bad others h = (refl, h)
