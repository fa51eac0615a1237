-- What stands on a medium: how much of it is used, and where its records begin and end (this project's profile).
use Rattle.std.specs.Prelude.{◌≡◌, ℕ, List, [], ◌∷◌, length, option_map, Option, Some, None, unwrap_or}
use Rattle.std.specs.List.{fold}
use Rattle.vdr_terms.specs.Records.{Record, last, second}
use Rattle.vdr_entry.specs.declared.summary.Summary.{Summary}
use Rattle.vdr_directory.specs.Indexed.{StandsFor}
use Rattle.vdr_directory.specs.Knowns.{HasNoneBy, summary_of}
use Rattle.vdr_directory.specs.Sequence.{Placed, all_records, first_of}
use Rattle.vdr_info.specs.declared.held.Held.{Held}
use Rattle.vdr_info.specs.declared.held.Stand.{Stand}

-- Where a record stands.
abbrev pub stand_of : Record → Stand
stand_of r = record { place = r.place; utc = r.utc; second = second r.tick }

-- Where a segment begins, by its first place and by what its records have in common: the least of their stamps, and the first second.
abbrev pub begin_of : (first : ℕ) → Summary → Stand
begin_of first s = record { place = first; utc = s.least_utc; second = s.first_second }

-- ---- by what opening knows of its segments

-- The records begin so, by what is known of the oldest segment.
abbrev pub TellsFirst : List Placed → Option Stand → Type 0
TellsFirst [] first = first ≡ None
TellsFirst (p ∷ ps) None = HasNoneBy p
TellsFirst (p ∷ ps) (Some stand) = (s : Summary) × StandsFor (summary_of p) p s × (stand ≡ begin_of (first_of p) s)

-- So much is told of medium m with slots of this size, whose segments are known so.
pub record TellsHeld (m segment slots : ℕ) (known : List Placed) (h : Held) : Type 0 where
  pub medium : h.medium ≡ m
  pub segment_is : h.segment ≡ segment
  pub slots_are : h.slots ≡ slots
  pub used : h.used ≡ length known
  pub first : TellsFirst known h.first
  -- the last record is never in a segment that is not read
  pub last_is : h.last ≡ option_map stand_of (last (all_records known))

-- ---- by its records

-- No record, in slots of which so many are used.
abbrev pub none_held : (m segment slots used : ℕ) → Held
none_held m segment slots used = record { medium = m; slots = slots; segment = segment; used = used; first = None; last = None }

-- With one record more behind the others, and with more of them.
abbrev pub held_with : Held → Record → Held
held_with h r = record h { first = Some (unwrap_or h.first (stand_of r)); last = Some (stand_of r) }

abbrev pub held_behind : Held → List Record → Held
held_behind h records = fold held_with h records
