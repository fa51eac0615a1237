-- What the fronts of slots show, legal or not (this project's profile).
use Rattle.std.specs.Prelude.{◌≡◌, ◌≢◌, ◌+◌, ℕ, zero, suc, List, [], ◌∷◌, ◌++◌, slice_get, Option, Some, None}
use Rattle.vdr_segment.specs.declared.header.Header.{Header}
use Rattle.vdr_segment.specs.Gates.{IsOpenAt, closed_gate}
use Rattle.vdr_segment.specs.Headers.{IsHeader}
use Rattle.vdr_directory.specs.Opening.{front_bytes}
use Rattle.vdr_rescue.specs.declared.front.Front.{Front}
use Rattle.vdr_rescue.specs.declared.front.Front.TheVariants.{Closed, Torn, Headless, Segment}
use Rattle.vdr_rescue.specs.declared.fronts.Head.{Head}

-- What the first 64 bytes of a slot show: a gate of 0; a gate that is neither 0 nor open; an open gate, and no header behind it; or an
-- open gate before a header with these numbers.
abbrev pub ShowsFront : List ℕ → Front → Type 0
ShowsFront bytes Closed = slice_get bytes 0 ≡ Some closed_gate
ShowsFront bytes Torn = (IsOpenAt bytes 0 → ⊥) × (slice_get bytes 0 ≢ Some closed_gate)
ShowsFront bytes Headless = IsOpenAt bytes 0 × ((h : Header) → IsHeader bytes h → ⊥)
ShowsFront bytes (Segment seq first) = IsOpenAt bytes 0 × (h : Header) × IsHeader bytes h × (h.seq ≡ seq) × (h.first ≡ first)

-- What the fronts of slots show, in order of slot: the segments, the torn gates, the slots without a header, how many are not open,
-- and the last one whose gate is 0.
pub record FrontsState : Type 0 where
  pub heads : List Head
  pub torn : List ℕ
  pub headless : List ℕ
  pub closed : ℕ
  pub last_closed : Option ℕ

abbrev pub no_fronts : FrontsState
no_fronts = record { heads = []; torn = []; headless = []; closed = 0; last_closed = None }

abbrev pub with_front : ℕ → Front → FrontsState → FrontsState
with_front slot Closed f = record f { closed = f.closed + 1; last_closed = Some slot }
with_front slot Torn f = record f { torn = f.torn ++ slot ∷ []; closed = f.closed + 1 }
with_front slot Headless f = record f { headless = f.headless ++ slot ∷ [] }
with_front slot (Segment seq first) f = record f { heads = f.heads ++ record { slot = slot; seq = seq; first = first } ∷ [] }

-- The fronts of the first n slots show this.
abbrev pub AreFronts : (segment : ℕ) → List ℕ → (n : ℕ) → FrontsState → Type 0
AreFronts segment bytes zero f = f ≡ no_fronts
AreFronts segment bytes (suc n) f =
    (front : Front) × ShowsFront (front_bytes segment n bytes) front × (g : FrontsState) × AreFronts segment bytes n g × (f ≡ with_front n front g)
