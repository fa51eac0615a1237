-- How what media are is printed (this project's profile). SHA-256: FIPS 180-4.
use Rattle.std.specs.Prelude.{ℕ, ℤ, pos, ◌-◌, ◌==◌, ◌&&◌, Bool, false, int_le, List, [], ◌++◌, length, slice_get, codes, decimal, if◌then◌else◌, Option, Some, None}
use Rattle.hex.specs.Hex.{encode_lower}
use Rattle.sha2.specs.Sha256.{sha256}
use Rattle.vdr_terms.specs.Stamps.{last_stamp}
use Rattle.vdr_entry.specs.Utc.{utc_text}
use Rattle.vdr_info.specs.declared.held.Held.{Held}
use Rattle.vdr_info.specs.declared.held.Stand.{Stand}

-- The medium's name.
abbrev pub name_of : ℕ → List ℕ
name_of m = if m == 0 then codes "capsule" else codes "longterm"

-- A stamp; `-` for a number that is none, as a summary may have it.
abbrev pub stamp_text : ℤ → List ℕ
stamp_text utc = if int_le (pos 0) utc && int_le utc (pos last_stamp) then utc_text utc else codes "-"

-- PLACE UTC, and `- -` where there is no record.
abbrev pub stand_text : Option Stand → List ℕ
stand_text None = codes "- -"
stand_text (Some s) = decimal s.place ++ codes " " ++ stamp_text s.utc

-- The seconds of recording time from the one to the other.
abbrev pub seconds_between : Option Stand → Option Stand → ℕ
seconds_between (Some a) (Some b) = b.second - a.second
seconds_between a b = 0

-- MEDIUM slots N segment N used N first PLACE UTC last PLACE UTC seconds N
unfoldable pub medium_line : Held → List ℕ
medium_line h =
    name_of h.medium
    ++ codes " slots "
    ++ decimal h.slots
    ++ codes " segment "
    ++ decimal h.segment
    ++ codes " used "
    ++ decimal h.used
    ++ codes " first "
    ++ stand_text h.first
    ++ codes " last "
    ++ stand_text h.last
    ++ codes " seconds "
    ++ decimal (seconds_between h.first h.last)
    ++ codes "\n"

-- configuration BYTES SHA256
unfoldable pub config_line : (text : List ℕ) → List ℕ
config_line text = codes "configuration " ++ decimal (length text) ++ codes " " ++ encode_lower (sha256 text) ++ codes "\n"

-- A text that does not end with LF gets one.
abbrev pub is_line_end : Option ℕ → Bool
is_line_end None = false
is_line_end (Some byte) = byte == 10

abbrev pub closing : (text : List ℕ) → List ℕ
closing text = if is_line_end (slice_get text (length text - 1)) then [] else codes "\n"

-- The configuration's line, and behind it its text as it stands.
abbrev pub config_text : (text : List ℕ) → List ℕ
config_text text = config_line text ++ text ++ closing text
