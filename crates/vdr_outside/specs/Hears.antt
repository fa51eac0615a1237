-- What one call of a link for a line did.
use Rattle.std.specs.Prelude.{◌≡◌, ◌≤◌, ◌<◌, ◌-◌, ◌==◌, ℕ, List, [], length, get_or, take, Option, if◌then◌else◌}
use Rattle.vdr_outside.specs.declared.link.Heard.{Heard}
use Rattle.vdr_outside.specs.declared.link.Heard.TheVariants.{Line, Long, Quiet, Ended, Failed}
use Rattle.vdr_outside.specs.Calls.{Answer, other, ended, failed}
use Rattle.vdr_outside.specs.Told.{Stays, Loses, NoneLeft}

-- A line without the CR at its end, if there is one.
abbrev pub bare : List ℕ → List ℕ
bare line = if get_or line (length line - 1) 0 == 13 then take (length line - 1) line else line

-- The first line left was passed, of which, without its CR, this holds.
pub record Passes (old new : Option (List (List ℕ))) (Is : List ℕ → Type 0) : Type 0 where
  pub line : List ℕ
  pub left : Loses old new line
  pub is : Is (bare line)

-- No line was given.
pub record HearsNone (old new : Option (List (List ℕ))) (into : List ℕ) : Type 0 where
  pub left : Stays old new
  pub empty : into ≡ []

-- The lists are the lines left before the call and after it, each without its LF. A line that is given has at most 256 bytes.
abbrev pub Hears : Option (List (List ℕ)) → Option (List (List ℕ)) → Heard → List ℕ → Type 0
Hears old new Line into = Passes old new (λ line. (into ≡ line) × (length line ≤ 256))
Hears old new Long into = Passes old new (λ line. (256 < length line) × (into ≡ []))
Hears old new Quiet into = HearsNone old new into
Hears old new Ended into = HearsNone old new into × NoneLeft old
Hears old new Failed into = HearsNone old new into

abbrev pub heard_answer : Heard → Answer
heard_answer Line = other
heard_answer Long = other
heard_answer Quiet = other
heard_answer Ended = ended
heard_answer Failed = failed
