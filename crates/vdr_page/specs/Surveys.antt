-- What is known of the records of a page before its rows are printed (this project's profile).
use Rattle.std.specs.Prelude.{ℕ, ◌+◌, ◌-◌, ◌/◌, Bool, true, false, nat_le, List, [], ◌∷◌, fold, length, max, min, Option, Some, None, if◌then◌else◌}
use Rattle.std.specs.List.{filter_map}
use Rattle.vdr_terms.specs.Records.{Content, Record, has_items}
use Rattle.vdr_terms.specs.Records.Content.{Start, Datagram, Gap, Stop}
use Rattle.vdr_page.specs.Gaps.{capped, stamp_of}
use Rattle.vdr_page.specs.Rows.{Load, load_of}
use Rattle.vdr_page.specs.Rows.Load.{Part, Sound, Raw}
use Rattle.vdr_page.specs.declared.survey.Survey.{Survey}

-- The stamp of a Datagram or a Gap. Start and Stop have none of their own.
abbrev pub stamp_in : Record → Option ℕ
stamp_in r = if has_items r.content then Some (stamp_of r) else None

abbrev pub stamps_of : List Record → List ℕ
stamps_of records = filter_map stamp_in records

abbrev pub least : List ℕ → Option ℕ
least [] = None
least (n ∷ ns) = Some (fold min n ns)

abbrev pub greatest : List ℕ → Option ℕ
greatest [] = None
greatest (n ∷ ns) = Some (fold max n ns)

abbrev pub is_part : Load → Bool
is_part (Part header) = true
is_part (Sound frame) = false
is_part (Raw payload) = false

abbrev pub is_sound : Load → Bool
is_sound (Part header) = false
is_sound (Sound frame) = true
is_sound (Raw payload) = false

abbrev pub is_raw : Load → Bool
is_raw (Part header) = false
is_raw (Sound frame) = false
is_raw (Raw payload) = true

-- The bytes of a record's payload, where it is of this kind.
abbrev pub size_where : (Load → Bool) → Content → ℕ
size_where is Start = 0
size_where is (Datagram payload) = if is (load_of payload) then length payload else 0
size_where is (Gap missed) = 0
size_where is Stop = 0

-- The bytes of all payloads of this kind.
abbrev pub bytes_where : (Load → Bool) → List Record → ℕ
bytes_where is records = fold (λ n r. n + size_where is r.content) 0 records

-- What the records of a page are known by: the least and the greatest stamp, how many there are, and which payloads the page has: those of at
-- most 4 MiB, sound of at most 16 MiB, and parts of images of at most 8 MiB.
abbrev pub survey_of : List Record → Survey
survey_of records = record {
  low = least (stamps_of records);
  high = greatest (stamps_of records);
  records = capped (length records);
  raw = nat_le (bytes_where is_raw records) 4_194_304;
  sound = nat_le (bytes_where is_sound records) 16_777_216;
  pictures = nat_le (bytes_where is_part records) 8_388_608;
}

abbrev pub covering : (low high : Option ℕ) → ℕ
covering (Some low) (Some high) = (high - low) / 1500 + 1
covering (Some low) None = 1
covering None high = 1

-- The length of a bucket of time: the least whole number of milliseconds, at least 1, of which 1,500 cover all stamps.
abbrev pub step_of : Survey → ℕ
step_of s = covering s.low s.high
