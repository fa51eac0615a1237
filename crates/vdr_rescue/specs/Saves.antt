-- The incident slots of one medium alone: those that are legal, and where the others are (this project's profile).
use Rattle.std.specs.Prelude.{◌≡◌, ◌==◌, if◌then◌else◌, ℕ, zero, suc, List, [], ◌∷◌, ◌++◌, Option, Some, None}
use Rattle.vdr_core.specs.Histories.{Incident}
use Rattle.vdr_outside.specs.Parts.{part}
use Rattle.vdr_config.specs.Configuration.{Configuration}
use Rattle.vdr_incident.specs.Saves.{IsIncidentSlot}
use Rattle.vdr_incident.specs.Tables.{place_of}
use Rattle.vdr_rescue.specs.declared.lacking.Places.{Places}

-- The saves by their slots, None where a slot is free or is not legal; the places of those that are live; and where slots begin that are not
-- legal.
pub record SavesState : Type 0 where
  pub table : List (Option Incident)
  pub pins : List Places
  pub bad : List ℕ

-- What the 256 bytes of an incident slot show: what it holds, None where it is not legal.
abbrev pub ShowsSave : List ℕ → Option (Option Incident) → Type 0
ShowsSave bytes (Some saved) = IsIncidentSlot bytes saved
ShowsSave bytes None = (saved : Option Incident) → IsIncidentSlot bytes saved → ⊥

abbrev pub pin_in : Option Incident → List Places
pin_in None = []
pin_in (Some x) = record { a = x.a; b = x.b } ∷ []

abbrev pub no_saves : SavesState
no_saves = record { table = []; pins = []; bad = [] }

abbrev pub with_save : ℕ → Option (Option Incident) → SavesState → SavesState
with_save slot (Some saved) s = record { table = s.table ++ saved ∷ []; pins = s.pins ++ pin_in saved; bad = s.bad }
with_save slot None s = record { table = s.table ++ None ∷ []; pins = s.pins; bad = s.bad ++ place_of slot ∷ [] }

-- The first n incident slots show this.
abbrev pub AreSaves : List ℕ → (n : ℕ) → SavesState → Type 0
AreSaves bytes zero s = s ≡ no_saves
AreSaves bytes (suc n) s =
    (shown : Option (Option Incident)) × ShowsSave (part bytes (place_of n) 256) shown × (t : SavesState) × AreSaves bytes n t × (s ≡ with_save n shown t)

-- The long-term medium, medium 1, has incident slots.
abbrev pub saved_slots : ℕ → Configuration → ℕ
saved_slots m c = if m == 1 then c.incident_slots else 0
