-- The segments of a track: points without a hole between them (this project's profile).
use Rattle.std.specs.Prelude.{ℕ, ◌-◌, Bool, false, true, ◌&&◌, ◌==◌, nat_le, List, [], ◌∷◌, fold, Option, Some, None, if◌then◌else◌}
use Rattle.vdr_terms.specs.Records.{Record}
use Rattle.vdr_track.specs.Steps.{steps_of}
use Rattle.vdr_track.specs.declared.point.Step.{Step}
use Rattle.vdr_track.specs.declared.point.Step.TheVariants.{Begun, Missed, Lost, Said, Silent}
use Rattle.vdr_track.specs.declared.point.Point.{Point}

-- A point goes on from the one before it: by the same group, where the stamp does not fall, and rises by no more than ten seconds.
abbrev pub joins : Point → Point → Bool
joins p q = (p.group == q.group) && (nat_le p.utc q.utc && nat_le (q.utc - p.utc) 10_000)

-- It goes on from the last point of the open segment, if one is open.
abbrev pub goes_on : Option Point → Point → Bool
goes_on None q = false
goes_on (Some p) q = joins p q

-- What stays open where items of a group were missed.
abbrev pub unless_of : (group : ℕ) → Option Point → Option Point
unless_of group None = None
unless_of group (Some p) = if p.group == group then None else Some p

-- The last point of the segment that is open behind a step, if one is.
abbrev pub open_with : Option Point → Step → Option Point
open_with last Begun = None
open_with last (Missed group) = unless_of group last
open_with last Lost = None
open_with last (Said point) = Some point
open_with last Silent = last

abbrev pub open_after : Option Point → List Step → Option Point
open_after last steps = fold open_with last steps

-- The last point of the segment that is open behind these records.
abbrev pub open_behind : (source : List ℕ) → List Record → Option Point
open_behind source records = open_after None (steps_of source records)

-- A point before the further points of the open segment and the segments behind it: it stands in front of the former, or begins a segment.
abbrev pub with_point : (joined : Bool) → Point → List Point × List (List Point) → List Point × List (List Point)
with_point true point later = (point ∷ later.0, later.1)
with_point false point later = ([], (point ∷ later.0) ∷ later.1)

abbrev pub with_step : Option Point → Step → List Point × List (List Point) → List Point × List (List Point)
with_step last Begun later = later
with_step last (Missed group) later = later
with_step last Lost later = later
with_step last (Said point) later = with_point (goes_on last point) point later
with_step last Silent later = later

-- The further points of the segment that is open, and the segments behind it.
abbrev pub segments_behind : Option Point → List Step → List Point × List (List Point)
segments_behind last [] = ([], [])
segments_behind last (step ∷ steps) = with_step last step (segments_behind (open_with last step) steps)

-- The segments of the track of a source, each with its points.
abbrev pub segments_of : (source : List ℕ) → List Record → List (List Point)
segments_of source records = (segments_behind None (steps_of source records)).1
