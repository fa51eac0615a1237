-- What holds of tracks.
use Rattle.std.specs.Prelude.{◌≡◌, ◌≢◌, ◌≤◌, ◌+◌, ℕ, List, [], ◌∷◌, ◌++◌, ⊤}
use Rattle.std.specs.List.{flat_map}
use Rattle.vdr_terms.specs.Records.{Record}
use Rattle.vdr_visit.specs.Prints.{whole_text}
use Rattle.vdr_track.specs.Segments.{segments_of}
use Rattle.vdr_track.specs.Steps.{steps_of}
use Rattle.vdr_track.specs.declared.point.Step.{Step}
use Rattle.vdr_track.specs.declared.point.Step.TheVariants.{Begun, Missed, Lost, Said, Silent}
use Rattle.vdr_track.specs.Texts.{last_lines, line_at, track_text}
use Rattle.vdr_track.specs.declared.point.Point.{Point}

-- What is printed of records as they come is the track of the source.
abbrev pub TrackIsPrinted : Type 0
TrackIsPrinted = (source : List ℕ) (records : List Record) → whole_text (line_at source) (last_lines source) records ≡ track_text source records

-- No hole of a segment of this group: no begin of a run, no Gap of the group, no line of the source without a valid position, and no other point.
abbrev pub NoHole : (group : ℕ) → Step → Type 0
NoHole group Begun = ⊥
NoHole group (Missed of_group) = group ≢ of_group
NoHole group Lost = ⊥
NoHole group (Said point) = ⊥
NoHole group Silent = ⊤

abbrev pub NoHoles : (group : ℕ) → List Step → Type 0
NoHoles group [] = ⊤
NoHoles group (step ∷ steps) = NoHole group step × NoHoles group steps

-- The first point is said by its record's group, and the second behind it by the same one, up to ten seconds later.
pub record IsJoined (p q : Point) : Type 0 where
  pub group : p.group ≡ q.group
  pub later : p.utc ≤ q.utc
  pub soon : q.utc ≤ p.utc + 10_000

-- The steps say the one point and then the other, with no hole between them.
pub record Follows (steps : List Step) (p q : Point) : Type 0 where
  pub before : List Step
  pub between : List Step
  pub after : List Step
  pub are : steps ≡ before ++ (Said p ∷ (between ++ (Said q ∷ after)))
  pub whole : NoHoles p.group between
  pub joined : IsJoined p q

-- Each point of a segment follows the one before it.
abbrev pub IsDrawn : List Step → List Point → Type 0
IsDrawn steps [] = ⊤
IsDrawn steps (p ∷ []) = ⊤
IsDrawn steps (p ∷ q ∷ points) = Follows steps p q × IsDrawn steps (q ∷ points)

abbrev pub AreDrawn : List Step → List (List Point) → Type 0
AreDrawn steps [] = ⊤
AreDrawn steps (segment ∷ segments) = IsDrawn steps segment × AreDrawn steps segments

-- No segment goes over a hole of the recording.
abbrev pub NoSegmentGoesOverAHole : Type 0
NoSegmentGoesOverAHole = (source : List ℕ) (records : List Record) → AreDrawn (steps_of source records) (segments_of source records)

abbrev pub point_of : Step → List Point
point_of Begun = []
point_of (Missed group) = []
point_of Lost = []
point_of (Said point) = point ∷ []
point_of Silent = []

-- Each position that the source says is a point of one segment, in order.
abbrev pub EachPointIsDrawn : Type 0
EachPointIsDrawn = (source : List ℕ) (records : List Record) → flat_map (λ (segment : List Point). segment) (segments_of source records) ≡ flat_map point_of (steps_of source records)
