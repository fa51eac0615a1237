-- What a medium retains of all the records that it was given: its window and its pinned places.
use Rattle.std.specs.Prelude.{ℕ, ◌≤◌, ◌≡◌, ⊤, Bool, false, List, All, Contains, filter, ◌&&◌, nat_le, Option, Some, None}
use Rattle.vdr_terms.specs.Records.{Record, last}
use Rattle.vdr_terms.specs.Windows.{window}

-- Each record of these is among those.
abbrev pub AreAmong : List Record → List Record → Type 0
AreAmong these those = All (Contains those) these

-- The medium has records of these alone, the last of them, and at least those of the window.
pub record Holds (seconds : ℕ) (all held : List Record) : Type 0 where
  pub own : AreAmong held all
  pub newest : last held ≡ last all
  pub recent : AreAmong (window seconds all) held

abbrev pub within : ℕ → ℕ → Record → Bool
within a b r = nat_le a r.place && nat_le r.place b

-- The records of the places from a to b.
abbrev pub at_places : ℕ → ℕ → List Record → List Record
at_places a b records = filter (within a b) records

-- The medium has each record of the places from a to b.
abbrev pub HoldsPlaces : List Record → List Record → ℕ → ℕ → Type 0
HoldsPlaces all held a b = AreAmong (at_places a b all) held

-- The first and the last place of a live save. A pin whose last place is below its first one pins nothing.
pub record Pin : Type 0 where
  pub a : ℕ
  pub b : ℕ

-- A medium keeps, of all the records that it was given, its window and its pinned places.
pub record Retains (seconds : ℕ) (pins : List Pin) (all held : List Record) : Type 0 where
  pub window : Holds seconds all held
  pub places : All (λ pin. HoldsPlaces all held pin.a pin.b) pins

-- None of these is in the window of all.
abbrev pub AreOutside : ℕ → List Record → List Record → Type 0
AreOutside seconds all records = All (λ r. Contains (window seconds all) r → ⊥) records

-- None of these has a place from a to b.
abbrev pub HaveNoPlace : ℕ → ℕ → List Record → Type 0
HaveNoPlace a b records = All (λ r. within a b r ≡ false) records

-- What comes next ends no earlier than what was there.
abbrev pub IsNoEarlier : Option Record → Option Record → Type 0
IsNoEarlier None after = ⊤
IsNoEarlier (Some before) None = ⊤
IsNoEarlier (Some before) (Some after) = before.tick ≤ after.tick
