-- The refusals of bytes that are no sentence. Which there are, and their order, is this project's profile.
use Rattle.std.specs.Prelude.{ℕ, ◌-◌, Bool, not, ◌&&◌, ◌||◌, ◌==◌, nat_lt, List, length, take, drop, slice_index, Option, Some, None, Result, Ok, Err, if◌then◌else◌}
use Rattle.std.specs.Option.{option_or}
use Rattle.vdr_bytes.specs.Checksum.{checksum, written, covered}
use Rattle.vdr_sentence.specs.Characters.{is_start, is_character, is_body_character, each_passes}
use Rattle.vdr_sentence.specs.Addresses.{is_address, address_of}
use Rattle.vdr_sentence.specs.declared.bad.Bad.{Bad}
use Rattle.vdr_sentence.specs.declared.bad.Bad.TheVariants.{Start, Length, Character, Address, Missing, Wrong}

-- CR LF stands at the end.
abbrev pub ends_line : List ℕ → Bool
ends_line bytes = (slice_index bytes (length bytes - 2) == 13) && (slice_index bytes (length bytes - 1) == 10)

-- The first refusal by the start, the end and the length.
unfoldable pub frame_refusal : List ℕ → Option Bad
frame_refusal bytes =
    if not (is_start (slice_index bytes 0)) then Some Start
    else if nat_lt 82 (length bytes) || not (ends_line bytes) then Some Length
    else None

-- What stands between the start and the CR LF.
unfoldable pub body : List ℕ → List ℕ
body bytes = take (length bytes - 3) (drop 1 bytes)

-- The refusal by the checksum that is written, where one is.
abbrev pub checksum_refusal : (written : Option ℕ) (computed : ℕ) → Option Bad
checksum_refusal None computed = Some Missing
checksum_refusal (Some sum) computed = if sum == computed then None else Some (Wrong sum computed)

-- The first refusal by the body.
unfoldable pub body_refusal : List ℕ → Option Bad
body_refusal text =
    if not (each_passes is_body_character text) then Some Character
    else if not (is_address (address_of text)) then Some Address
    else checksum_refusal (written text) (checksum (covered text))

-- The first refusal that holds of the bytes. Where none does they are a sentence.
abbrev pub first_refusal : List ℕ → Option Bad
first_refusal bytes = option_or (frame_refusal bytes) (body_refusal (body bytes))

-- A sentence without its checksum.
pub record SentenceText : Type 0 where
  pub start : ℕ
  pub content : List ℕ

abbrev pub unless_refused : Option Bad → SentenceText → Result SentenceText Bad
unless_refused None text = Ok text
unless_refused (Some bad) text = Err bad

-- What the bytes read as.
unfoldable pub reading : List ℕ → Result SentenceText Bad
reading bytes = unless_refused (first_refusal bytes) (record { start = slice_index bytes 0; content = covered (body bytes) })

-- The first refusal of a start and a content that are to be written.
unfoldable pub writing_refusal : ℕ → List ℕ → Option Bad
writing_refusal start content =
    if not (is_start start) then Some Start
    else if nat_lt 76 (length content) then Some Length
    else if not (each_passes is_character content) then Some Character
    else if not (is_address (address_of content)) then Some Address
    else None
