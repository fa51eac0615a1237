-- Steps of a reader of one medium.
use Rattle.std.proofs.Common.{◌≡◌, ℕ, Bool, List, refl, sym, subst}
use Rattle.std.specs.Prelude.{◌↔◌}
use Rattle.vdr_terms.specs.Records.{Record}
use Rattle.vdr_rescue.specs.declared.told.Told.{Told}
use Rattle.vdr_rescue.specs.Cursors.{CursorState, Ends, StepsTo, at_front}
use Rattle.vdr_compare.specs.Sides.{Gives}

pub at_beginning : (bytes : List ℕ) (c front : CursorState) (given : List Record) → front ≡ at_front c → (g : Gives bytes c given) → Ends bytes front given g.0
at_beginning bytes c front given is g = subst (λ (x : CursorState). Ends bytes x given g.0) (sym is) (g.0, g.1, refl)

-- The first step, where the bytes of the medium are named otherwise.
pub begins_on : (bytes own : List ℕ) (c front now : CursorState) (item : Record) (more : Bool) (given : List Record) → front ≡ at_front c → own ≡ bytes
    → ((given : List Record) (all : List Told) → Ends own front given all ↔ StepsTo own more item now given all)
    → (g : Gives bytes c given) → (all : List Told) × StepsTo bytes more item now given all
begins_on bytes own c front now item more given is same step g = (
  g.0,
  (subst (λ (b : List ℕ). Ends b front given g.0 ↔ StepsTo b more item now given g.0) same (step given g.0)).0 (at_beginning bytes c front given is g),
)
