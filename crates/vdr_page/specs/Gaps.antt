-- The rows of a page that tell what was missed (this project's profile): the Gaps of a group that lie in one bucket of time, summed.
use Rattle.std.specs.Prelude.{ℕ, ◌+◌, ◌-◌, ◌/◌, ◌^◌, unsigned_abs, Bool, ◌&&◌, ◌==◌, nat_le, List, [], ◌∷◌, codes, get_or, min, replicate, Option, Some, None, if◌then◌else◌}
use Rattle.std.specs.List.{flat_map}
use Rattle.vdr_terms.specs.declared.counts.Counts.{Counts}
use Rattle.vdr_terms.specs.Groups.{group_name}
use Rattle.vdr_terms.specs.Records.{Record}
use Rattle.vdr_page.specs.Fields.{row}
use Rattle.vdr_page.specs.Fields.Field.{Number, Text}
use Rattle.vdr_page.specs.declared.marks.Marks.{Marks}

-- The stamp of a record, in milliseconds since 1970.
abbrev pub stamp_of : Record → ℕ
stamp_of r = unsigned_abs r.utc

-- A sum stands still at the greatest number of 64 bits.
abbrev pub capped : ℕ → ℕ
capped n = min n (2 ^ 64 - 1)

abbrev pub both_missed : Counts → Counts → Counts
both_missed c d = record { full = capped (c.full + d.full); rate = capped (c.rate + d.rate); bad = capped (c.bad + d.bad); large = capped (c.large + d.large) }

-- The row that a Gap begins.
abbrev pub first_marks : (place utc : ℕ) → Counts → Marks
first_marks place utc missed = record { place = place; first = utc; last = utc; marks = 1; missed = missed }

-- A Gap of this stamp stands in the row: it lies in the row's bucket, and not before the last Gap.
abbrev pub goes_on : (step : ℕ) → Marks → (utc : ℕ) → Bool
goes_on step m utc = nat_le m.last utc && (m.last / step == utc / step)

abbrev pub more_marks : Marks → (utc : ℕ) → Counts → Marks
more_marks m utc missed = record { place = m.place; first = m.first; last = utc; marks = capped (m.marks + 1); missed = both_missed m.missed missed }

-- The row of a group that is open behind a Gap of it, by the one before.
abbrev pub marks_with : (step : ℕ) → Option Marks → (place utc : ℕ) → Counts → Marks
marks_with step None place utc missed = first_marks place utc missed
marks_with step (Some m) place utc missed = if goes_on step m utc then more_marks m utc missed else first_marks place utc missed

-- The row that a Gap of this stamp closes, if it does.
abbrev pub closed_by : (step : ℕ) → Option Marks → (utc : ℕ) → Option Marks
closed_by step None utc = None
closed_by step (Some m) utc = if goes_on step m utc then None else Some m

-- No group has a row that is open.
abbrev pub none_open : List (Option Marks)
none_open = replicate 16 None

-- `["gap",PLACE,UTC,UNTIL,GROUP,MARKS,FULL,RATE,BAD,LARGE]`
abbrev pub gap_row : (group : ℕ) → Marks → List ℕ
gap_row group m =
    row (codes "gap")
    (Number m.place ∷ Number m.first ∷ Number m.last ∷ Text (group_name group) ∷ Number m.marks ∷ Number m.missed.full ∷ Number m.missed.rate ∷ Number m.missed.bad ∷ Number m.missed.large ∷ [])

abbrev pub gap_row_if : (group : ℕ) → Option Marks → List ℕ
gap_row_if group None = []
gap_row_if group (Some m) = gap_row group m

-- The groups in the byte order of their names.
abbrev pub by_name : List ℕ
by_name = 0 ∷ 3 ∷ 7 ∷ 5 ∷ 2 ∷ 1 ∷ 6 ∷ 8 ∷ 9 ∷ 10 ∷ 11 ∷ 12 ∷ 13 ∷ 14 ∷ 15 ∷ 4 ∷ []

abbrev pub gap_rows : List (Option Marks) → List ℕ
gap_rows slots = flat_map (λ g. gap_row_if g (get_or slots g None)) by_name
