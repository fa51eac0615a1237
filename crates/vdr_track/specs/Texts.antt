-- A track as text: GPX 1.1, a track with its name and its segments.
use Rattle.std.specs.Prelude.{ℕ, pos, Bool, true, false, ◌==◌, List, [], ◌∷◌, ◌++◌, codes, Option, Some, None, if◌then◌else◌}
use Rattle.std.specs.List.{flat_map}
use Rattle.vdr_terms.specs.Records.{Record}
use Rattle.vdr_entry.specs.Utc.{utc_text}
use Rattle.vdr_rows.specs.Decimals.{decimal_text}
use Rattle.vdr_track.specs.Segments.{goes_on, open_behind, open_with, segments_of}
use Rattle.vdr_track.specs.Steps.{steps_in}
use Rattle.vdr_track.specs.declared.point.Step.{Step}
use Rattle.vdr_track.specs.declared.point.Step.TheVariants.{Begun, Missed, Lost, Said, Silent}
use Rattle.vdr_track.specs.declared.point.Point.{Point}

-- A byte of a name: as an entity where XML has a meaning for it.
abbrev pub entity : ℕ → List ℕ
entity byte =
    if byte == 38 then codes "&amp;"
    else if byte == 60 then codes "&lt;"
    else if byte == 62 then codes "&gt;"
    else if byte == 34 then codes "&quot;"
    else byte ∷ []

unfoldable pub opening_tags : List ℕ
opening_tags = codes "<?xml version=\"1.0\" encoding=\"UTF-8\"?>\n<gpx version=\"1.1\" creator=\"vdr\" xmlns=\"http://www.topografix.com/GPX/1/1\">\n<trk><name>"

unfoldable pub name_end : List ℕ
name_end = codes "</name>\n"

unfoldable pub segment_start : List ℕ
segment_start = codes "<trkseg>\n"

unfoldable pub segment_end : List ℕ
segment_end = codes "</trkseg>\n"

unfoldable pub closing : List ℕ
closing = codes "</trk>\n</gpx>\n"

-- What stands before the segments.
abbrev pub opening : (source : List ℕ) → List ℕ
opening source = opening_tags ++ flat_map entity source ++ name_end

unfoldable pub point_text : Point → List ℕ
point_text point =
    codes "<trkpt lat=\""
    ++ decimal_text point.latitude
    ++ codes "\" lon=\""
    ++ decimal_text point.longitude
    ++ codes "\"><time>"
    ++ utc_text (pos point.utc)
    ++ codes "</time></trkpt>\n"

abbrev pub segment_text : List Point → List ℕ
segment_text points = segment_start ++ flat_map point_text points ++ segment_end

-- The track of a source, as these records tell it.
abbrev pub track_text : (source : List ℕ) → List Record → List ℕ
track_text source records = opening source ++ flat_map segment_text (segments_of source records) ++ closing

-- ---- as records come, one after another

-- The end of the segment that is open, if one is.
abbrev pub left_text : Option Point → List ℕ
left_text None = []
left_text (Some point) = segment_end

-- and where items of a group were missed
abbrev pub missed_text : (group : ℕ) → Option Point → List ℕ
missed_text group None = []
missed_text group (Some point) = if point.group == group then segment_end else []

abbrev pub said_text : (joined : Bool) → Option Point → Point → List ℕ
said_text true last point = point_text point
said_text false last point = left_text last ++ segment_start ++ point_text point

-- What is printed at a step behind the last point of the open segment.
abbrev pub step_text : Option Point → Step → List ℕ
step_text last Begun = left_text last
step_text last (Missed group) = missed_text group last
step_text last Lost = left_text last
step_text last (Said point) = said_text (goes_on last point) last point
step_text last Silent = []

abbrev pub steps_text : Option Point → List Step → List ℕ
steps_text last [] = []
steps_text last (step ∷ steps) = step_text last step ++ steps_text (open_with last step) steps

-- What stands before the first record, or before the end where there is none.
abbrev pub opening_behind : (source : List ℕ) → List Record → List ℕ
opening_behind source [] = opening source
opening_behind source (r ∷ records) = []

-- What is printed at a record behind these.
abbrev pub line_at : (source : List ℕ) → List Record → Record → List ℕ
line_at source seen r = opening_behind source seen ++ steps_text (open_behind source seen) (steps_in source r)

-- And behind the last of these.
abbrev pub last_lines : (source : List ℕ) → List Record → List ℕ
last_lines source seen = opening_behind source seen ++ left_text (open_behind source seen) ++ closing
