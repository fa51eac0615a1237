-- The table of sources: what the lines of sentence datagrams say of each group and source (this project's profile; sources
-- and line counts after the TAG blocks of IEC 61162-450).
use Rattle.std.specs.Prelude.{ℕ, suc, ◌+◌, ◌≡◌, ⊤, ℤ, Bool, not, List, [], ◌∷◌, length, map, filter, filter_map, flat_map, fold, count_by, All, Contains, option_map, slice_get, bytes_eq, ◌==◌, ◌&&◌, ◌||◌, if◌then◌else◌, Option, Some, None}
use Rattle.std.specs.Ordering.{nat_cmp, ordering_then}
use Rattle.std.specs.Cmp.Lexicographic.{slice_cmp}
use Rattle.std.specs.declared.cmp.Ordering.{Ordering}
use Rattle.std.specs.declared.cmp.Ordering.TheVariants.{Less, Equal, Greater}
use Rattle.vdr_terms.specs.Records.{Content, Record, last}
use Rattle.vdr_terms.specs.Records.Content.{Start, Datagram, Gap, Stop}

-- A source in its group. A line that names none counts for the name `-`.
pub record Source : Type 0 where
  pub group : ℕ
  pub name : List ℕ

-- What is read of one line of a datagram.
pub record Reading : Type 0 where
  pub name : List ℕ
  pub count : Option ℕ
  pub good : Bool

-- A line, with the utc of its record.
pub record Line : Type 0 where
  pub source : Source
  pub utc : ℤ
  pub count : Option ℕ
  pub good : Bool

-- The readings of a record. `read` gives those of a datagram, none where it is no sentence datagram.
abbrev pub readings_of : (List ℕ → List Reading) → Content → List Reading
readings_of read (Datagram payload) = read payload
readings_of read (Gap missed) = []
readings_of read Start = []
readings_of read Stop = []

-- The lines of these records, in order.
abbrev pub lines_of : (List ℕ → List Reading) → List Record → List Line
lines_of read records =
    flat_map (λ r. map (λ l. record { source = record { group = r.group; name = l.name }; utc = r.utc; count = l.count; good = l.good }) (readings_of read r.content)) records

abbrev pub is_same : Source → Source → Bool
is_same a b = (a.group == b.group) && bytes_eq a.name b.name

-- The lines of a source.
abbrev pub lines_from : Source → List Line → List Line
lines_from source lines = filter (λ l. is_same source l.source) lines

-- The count after this one: one more, and after 999 it is 0 or 1.
abbrev pub is_next : ℕ → ℕ → Bool
is_next n m = if n == 999 then m == 0 || m == 1 else m == suc n

-- How many of these counts are not next to the one before.
abbrev pub breaks_after : ℕ → List ℕ → ℕ
breaks_after n [] = 0
breaks_after n (m ∷ ms) = (if is_next n m then 0 else 1) + breaks_after m ms

abbrev pub breaks_in : List ℕ → ℕ
breaks_in [] = 0
breaks_in (n ∷ ns) = breaks_after n ns

-- The counts of the lines that have one.
abbrev pub counts_of : List Line → List ℕ
counts_of lines = filter_map (λ l. l.count) lines

-- One row of the table.
pub record Row : Type 0 where
  pub source : Source
  pub first : ℤ
  pub last : ℤ
  pub lines : ℕ
  pub bad : ℕ
  pub breaks : ℕ
  pub count : Option ℕ

-- What a row says of the lines of its source: the utc of the first and the last of them, how many there are, how many are
-- not good, how often their count breaks, and the last count.
pub record IsRowOf (own : List Line) (row : Row) : Type 0 where
  pub begins : option_map (λ l. l.utc) (slice_get own 0) ≡ Some row.first
  pub ends : option_map (λ l. l.utc) (last own) ≡ Some row.last
  pub size : row.lines ≡ length own
  pub bad : row.bad ≡ count_by (λ l. not l.good) own
  pub breaks : row.breaks ≡ breaks_in (counts_of own)
  pub latest : row.count ≡ last (counts_of own)

-- By group, and then by name in byte order.
abbrev pub source_cmp : Source → Source → Ordering
source_cmp a b = ordering_then (nat_cmp a.group b.group) (slice_cmp nat_cmp a.name b.name)

-- The source of each row comes before those of the later ones.
abbrev pub AreSorted : List Row → Type 0
AreSorted [] = ⊤
AreSorted (r ∷ rs) = All (λ later. source_cmp r.source later.source ≡ Less) rs × AreSorted rs

abbrev pub HasRow : List Row → Source → Type 0
HasRow rows source = (r : Row) × Contains rows r × (r.source ≡ source)

-- The rows of these lines: one for each source that has a line, in order.
pub record AreRows (lines : List Line) (rows : List Row) : Type 0 where
  pub each : All (λ r. IsRowOf (lines_from r.source lines) r) rows
  pub every : All (λ l. HasRow rows l.source) lines
  pub sorted : AreSorted rows

-- The row of a source's first line.
abbrev pub first_row : Line → Row
first_row l = record { source = l.source; first = l.utc; last = l.utc; lines = 1; bad = if l.good then 0 else 1; breaks = 0; count = l.count }

-- 1 where both are counts and the second is not next.
abbrev pub break_at : Option ℕ → Option ℕ → ℕ
break_at None m = 0
break_at (Some n) None = 0
break_at (Some n) (Some m) = if is_next n m then 0 else 1

abbrev pub later_count : Option ℕ → Option ℕ → Option ℕ
later_count before None = before
later_count before (Some m) = Some m

-- The row once its source has one more line.
abbrev pub one_line : Row → Line → Row
one_line r l = record {
  source = r.source;
  first = r.first;
  last = l.utc;
  lines = suc r.lines;
  bad = r.bad + (if l.good then 0 else 1);
  breaks = r.breaks + break_at r.count l.count;
  count = later_count r.count l.count;
}

-- The line comes before the row, counts for it, or comes behind it.
abbrev pub put_line : Ordering → Row → List Row → Line → List Row → List Row
put_line Less r rs l rest = first_row l ∷ r ∷ rs
put_line Equal r rs l rest = one_line r l ∷ rs
put_line Greater r rs l rest = r ∷ rest

-- The table with one more line.
abbrev pub with_line : List Row → Line → List Row
with_line [] l = first_row l ∷ []
with_line (r ∷ rs) l = put_line (source_cmp l.source r.source) r rs l (with_line rs l)

-- The table of these lines.
abbrev pub table_of : List Line → List Row
table_of lines = fold with_line [] lines
