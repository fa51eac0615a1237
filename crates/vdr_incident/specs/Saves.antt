-- One incident save, as a slot of 256 bytes has it (this project's profile). Numbers are little-endian.
--   0         the slot's gate
--   1 to 16   the first and the last place of its records
--   17 to 32  its stamp: the tick, and UTC in milliseconds since 1970
--   33        the length of its label
--   34 on     the label; what stands behind it is unread
use Rattle.std.specs.Prelude.{◌≡◌, ◌<◌, ◌≤◌, ◌^◌, ℕ, Bool, true, List, [], ◌∷◌, ◌++◌, length, drop, unsigned_abs, Option, Some, None}
use Rattle.vdr_terms.specs.Texts.{is_label}
use Rattle.vdr_terms.specs.Stamps.{IsStamp}
use Rattle.vdr_core.specs.Histories.{Incident}
use Rattle.vdr_bytes.specs.Numbers.{le_u64s}
use Rattle.vdr_segment.specs.Gates.{IsOpenAt}

-- What a save may be.
pub record IsSave (x : Incident) : Type 0 where
  pub labelled : is_label x.label ≡ true
  pub order : x.a ≤ x.b
  pub fits : x.b < 2 ^ 64
  pub tick_low : x.stamp.tick < 2 ^ 63
  pub utc_legal : IsStamp x.stamp.utc

-- The bytes behind its gate.
abbrev pub save_bytes : Incident → List ℕ
save_bytes x = le_u64s (x.a ∷ x.b ∷ x.stamp.tick ∷ unsigned_abs x.stamp.utc ∷ []) ++ length x.label ∷ x.label

-- These bytes begin with those of a legal save.
pub record SpellsSave (bytes : List ℕ) (x : Incident) : Type 0 where
  pub legal : IsSave x
  pub rest : List ℕ
  pub spelled : bytes ≡ save_bytes x ++ rest

-- A slot holds a save behind an open gate, and none behind a closed one.
abbrev pub IsIncidentSlot : List ℕ → Option Incident → Type 0
IsIncidentSlot bytes None = IsOpenAt bytes 0 → ⊥
IsIncidentSlot bytes (Some x) = IsOpenAt bytes 0 × SpellsSave (drop 1 bytes) x
