-- Both media, each opened alone and read to its end (this project's profile).
use Rattle.std.specs.Prelude.{◌≡◌, Bool, bytes_eq, List, ℕ, Result, Err, sum}
use Rattle.vdr_outside.specs.Causes.{NoneFalls, Rose}
use Rattle.vdr_outside.specs.declared.fault.PartRefused.{PartRefused}
use Rattle.vdr_outside.specs.declared.fault.PartRefused.TheVariants.{Fault}
use Rattle.vdr_media.specs.Medium.{HoldsText}
use Rattle.vdr_rescue.specs.Alones.{AloneState}
use Rattle.vdr_segment.specs.Areas.{HasRoom}
use Rattle.vdr_compare.specs.Surveys.{SurveyState}

-- Medium m was opened, with room for its slots.
pub record IsOpened (m : ℕ) (sizes : List ℕ) (a : AloneState) : Type 0 where
  pub room : HasRoom a.cursor.area sizes
  pub medium : a.cursor.area.medium ≡ m

-- And it was read to its end.
pub record HasSurvey (m : ℕ) (sizes : List ℕ) (s : SurveyState) : Type 0 where
  pub room : HasRoom s.cursor.area sizes
  pub medium : s.cursor.area.medium ≡ m

-- The configurations that both hold have the same text, or not.
abbrev pub AreAlike : (capsule longterm : List ℕ) → Bool → Type 0
AreAlike capsule longterm alike = (s t : List ℕ) × HoldsText s capsule × HoldsText t longterm × (alike ≡ bytes_eq s t)

-- Why a medium is not opened: no count of faults falls, and a fault comes only where the sum rose.
pub record HasPartCause {T : Type 0} (before now : List ℕ) (result : Result T PartRefused) : Type 0 where
  pub later : NoneFalls before now
  pub rose : result ≡ Err Fault → Rose (sum before) (sum now)
