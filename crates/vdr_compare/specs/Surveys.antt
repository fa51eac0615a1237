-- What one medium alone gives at a first reading (this project's profile).
use Rattle.std.specs.Prelude.{◌≡◌, ℕ, Bool, max, List}
use Rattle.vdr_config.specs.Sizes.{window_of}
use Rattle.vdr_rescue.specs.Alones.{Rescue}
use Rattle.vdr_rescue.specs.Cursors.{CursorState}
use Rattle.vdr_rescue.specs.declared.findings.Finding.{Finding}
use Rattle.vdr_compare.specs.declared.standing.Windows.{Windows}
use Rattle.vdr_compare.specs.Conditions.{Condition}
use Rattle.vdr_compare.specs.Seconds.{last_second}
use Rattle.vdr_compare.specs.Sides.{Gives}

-- The reader of its records, its window in seconds, the second of the last record that it gives, and what is found of it.
pub record SurveyState : Type 0 where
  pub cursor : CursorState
  pub seconds : ℕ
  pub last_second : ℕ
  pub findings : List Finding

-- What both come to: their windows, which end with the last record of either one, and what is told before their places.
abbrev pub surveyed_windows : (capsule longterm : SurveyState) → Windows
surveyed_windows c l = record { capsule = c.seconds; longterm = l.seconds; last_second = max c.last_second l.last_second }

abbrev pub surveyed_condition : (alike : Bool) → (capsule longterm : SurveyState) → Condition
surveyed_condition alike c l = record { alike = alike; capsule = c.findings; longterm = l.findings }

-- It is of medium m with these bytes, which gives x when it is read alone.
pub record IsSurveyOf (m : ℕ) (bytes : List ℕ) (x : Rescue) (s : SurveyState) : Type 0 where
  pub gives : Gives bytes s.cursor x.given
  pub seconds : s.seconds ≡ window_of x.config m
  pub last_second : s.last_second ≡ last_second x.given
  pub findings : s.findings ≡ x.findings
