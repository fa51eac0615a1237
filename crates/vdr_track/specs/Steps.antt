-- What records say of the track of a source, one after another (this project's profile).
use Rattle.std.specs.Prelude.{◌≤◌, ℕ, unsigned_abs, Bool, false, List, [], ◌∷◌, map, Option, Some, None, bytes_eq, if◌then◌else◌, ⊤}
use Rattle.std.specs.List.{flat_map}
use Rattle.vdr_terms.specs.Records.{Content, Record}
use Rattle.vdr_terms.specs.Records.Content.{Start, Datagram, Gap, Stop}
use Rattle.vdr_terms.specs.Stamps.{last_stamp}
use Rattle.vdr_datagram.specs.Verdicts.{LineReading, line_spans}
use Rattle.vdr_rows.specs.Fixes.{fix_in, source_of}
use Rattle.vdr_rows.specs.declared.fix.Fix.{Fix}
use Rattle.vdr_rows.specs.declared.fix.Fix.TheVariants as fixes
use Rattle.vdr_track.specs.declared.point.Step.{Step}
use Rattle.vdr_track.specs.declared.point.Step.TheVariants.{Begun, Missed, Lost, Said, Silent}

-- The line has a source, and it is this one.
abbrev pub is_of : (source : List ℕ) → Option (List ℕ) → Bool
is_of source None = false
is_of source (Some name) = bytes_eq name source

-- What a line of the record says by its fix.
abbrev pub step_by : Record → Fix → Step
step_by r fixes.Unsaid = Silent
step_by r fixes.Lost = Lost
step_by r (fixes.At latitude longitude) = Said (record { group = r.group; utc = unsigned_abs r.utc; latitude = latitude; longitude = longitude })

-- What a line of the record says: of another source nothing.
abbrev pub line_step : (source : List ℕ) → Record → LineReading → Step
line_step source r line = if is_of source (source_of line) then step_by r (fix_in line) else Silent

-- The stamp of its point is one.
abbrev pub HasStamp : Step → Type 0
HasStamp Begun = ⊤
HasStamp (Missed group) = ⊤
HasStamp Lost = ⊤
HasStamp (Said point) = point.utc ≤ last_stamp
HasStamp Silent = ⊤

abbrev pub lines_steps : (source : List ℕ) → Record → (payload : List ℕ) → List Step
lines_steps source r payload = map (λ line. line_step source r line.verdict) (line_spans payload)

abbrev pub content_steps : (source : List ℕ) → Record → Content → List Step
content_steps source r Start = Begun ∷ []
content_steps source r (Datagram payload) = lines_steps source r payload
content_steps source r (Gap missed) = Missed r.group ∷ []
content_steps source r Stop = []

-- What a record says.
abbrev pub steps_in : (source : List ℕ) → Record → List Step
steps_in source r = content_steps source r r.content

-- What these records say.
abbrev pub steps_of : (source : List ℕ) → List Record → List Step
steps_of source records = flat_map (steps_in source) records
