-- How many bytes a play may still read of a medium: of each segment that may have a record that the query selects, once.
use Rattle.std.specs.Prelude.{◌≤◌, ◌+◌, ◌*◌, ◌==◌, ◌&&◌, nat_lt, if◌then◌else◌, count_by, ℕ, Bool, true, false, List, length, get_or, All, Option, Some, None, Result, OnOk}
use mathlib.Core.List.{Sublist}
use Rattle.vdr_terms.specs.Queries.{Query, Span, meets}
use Rattle.vdr_index.specs.declared.known.Known.{Known}
use Rattle.vdr_index.specs.Indexes.{passes_by, summary_of}
use Rattle.vdr_directory.specs.Indexed.{Meets}
use Rattle.vdr_directory.specs.Sequence.{Placed}
use Rattle.vdr_ring.specs.Rings.{RingState}
use Rattle.vdr_ring.specs.declared.cursor.Standing.{Standing}

-- Whether a sequence number is above that of the segment in which a cursor stands. Before the first segment each is.
abbrev pub is_later : Option Standing → ℕ → Bool
is_later None seq = true
is_later (Some s) seq = nat_lt s.seq seq

-- A later segment that may have a record that the query selects of the span, by what is known of it.
abbrev pub is_to_enter : Query → Span → Option Standing → Known → Bool
is_to_enter query span standing k = is_later standing k.seq && meets query span (summary_of k)

-- How many of them an index has.
abbrev pub to_enter : Query → Span → Option Standing → List (Option Known) → ℕ
to_enter query span standing index = count_by (passes_by (is_to_enter query span standing)) index

-- Whether this slot is the one that is loaded.
abbrev pub is_in : Option ℕ → ℕ → Bool
is_in None slot = false
is_in (Some loaded) slot = loaded == slot

-- The segment in which a cursor stands is read by its next step where its slot is not the one that is loaded.
abbrev pub owed : (loaded : Option ℕ) → Option Standing → ℕ
owed loaded None = 0
owed loaded (Some s) = if is_in loaded s.slot then 0 else 1

-- The bytes that steps from there on read at most: a segment's for each later one that may have a record that the query selects of the
-- span, and for the own one where it is to be read.
abbrev pub budget : RingState → Query → Span → Option Standing → ℕ
budget ring query span standing = ring.segment * (owed ring.loaded standing + to_enter query span standing ring.directory.index)

-- The budget of a new cursor is at most a segment's bytes for each of these segments that meets the query, each once.
pub record IsOfSegments (query : Query) (span : Span) (ring : RingState) (placed : List Placed) : Type 0 where
  pub met : List Placed
  pub some : Sublist met placed
  pub meet : All (Meets query span) met
  pub enough : budget ring query span None ≤ ring.segment * length met

-- Whatever a step answers, it reads no more of medium m than it had in its budget, and after Ok it has in it what is left.
pub record Spends {T E : Type 0} (m had has : ℕ) (before now : List ℕ) (result : Result T E) : Type 0 where
  pub within : get_or now m 0 ≤ get_or before m 0 + had
  pub left : OnOk result (get_or now m 0 + has ≤ get_or before m 0 + had)
