-- The options of a block of pcapng: code and length of two bytes each, the value, and its padding to a multiple of four.
-- The code 0 ends them.
use Rattle.std.specs.Prelude.{ℕ, zero, suc, ◌+◌, ◌*◌, ◌/◌, Bool, ◌&&◌, ◌||◌, ◌==◌, List, [], ◌∷◌, take, slice_index, Option, None, Some, if◌then◌else◌}
use Rattle.vdr_pcap.specs.Numbers.{u16_in, u64_in}
use Rattle.vdr_pcap.specs.declared.options.Noted.{Noted}

-- Where an option stands twice the first counts.
abbrev pub first_of : Option ℕ → ℕ → Option ℕ
first_of None later = Some later
first_of (Some first) later = Some first

abbrev pub none_noted : Noted
none_noted = record { resolution = None; number = None }

-- Whether a block of this type says its resolution by this code, and whether a number: of an interface the seconds to be added, of
-- statistics the packets lost.
abbrev pub is_resolution : (kind code : ℕ) → Bool
is_resolution kind code = kind == 1 && code == 9

abbrev pub is_number : (kind code : ℕ) → Bool
is_number kind code = (kind == 1 && code == 14) || (kind == 5 && code == 5)

-- What is noted with a resolution, or with a number, of this size; None where it may not have it.
abbrev pub noted_resolution : (size : ℕ) → (value : List ℕ) → Noted → Option Noted
noted_resolution size value noted =
    if size == 1 then Some (record { resolution = first_of noted.resolution (slice_index value 0); number = noted.number }) else None

abbrev pub noted_number : (big : Bool) → (size : ℕ) → (value : List ℕ) → Noted → Option Noted
noted_number big size value noted =
    if size == 8 then Some (record { resolution = noted.resolution; number = first_of noted.number (u64_in big 0 value) }) else None

-- with any option
abbrev pub noted_with : (big : Bool) → (kind code size : ℕ) → (value : List ℕ) → Noted → Option Noted
noted_with big kind code size value noted =
    if is_resolution kind code then noted_resolution size value noted
    else if is_number kind code then noted_number big size value noted
    else Some noted

-- a size with its padding
abbrev pub padded : ℕ → ℕ
padded size = 4 * ((size + 3) / 4)

-- What the options say behind so many bytes that are passed over, with what is noted; None where one has a wrong length or
-- passes the end.
unfoldable pub options_from : (big : Bool) → (kind : ℕ) → (noted : Noted) → (passed : ℕ) → List ℕ → Option Noted
options_from big kind noted zero [] = Some noted
options_from big kind noted (suc n) [] = None
options_from big kind noted (suc n) (b ∷ bytes) = options_from big kind noted n bytes
options_from big kind noted zero (a ∷ []) = None
options_from big kind noted zero (a ∷ b ∷ []) = None
options_from big kind noted zero (a ∷ b ∷ c ∷ []) = None
options_from big kind noted zero (a ∷ b ∷ c ∷ d ∷ bytes) =
    if u16_in big 0 (a ∷ b ∷ c ∷ d ∷ []) == 0 then Some noted
    else (elim (noted_with big kind (u16_in big 0 (a ∷ b ∷ c ∷ d ∷ [])) (u16_in big 2 (a ∷ b ∷ c ∷ d ∷ [])) (take (u16_in big 2 (a ∷ b ∷ c ∷ d ∷ [])) bytes) noted) [
      | None ↦ None
      | Some more ↦ options_from big kind more (padded (u16_in big 2 (a ∷ b ∷ c ∷ d ∷ []))) bytes
    ])
