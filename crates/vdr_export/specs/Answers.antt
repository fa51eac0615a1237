-- What is made of recorded frames, or why nothing is (this project's profile).
use Rattle.std.specs.Prelude.{◌≡◌, ◌⊎◌, ℕ, ◌+◌, OnOk, List, [], ◌∷◌, length, nat_le, if◌then◌else◌, Option, Some, None, Result, Ok, Err, ⊤}
use Rattle.std.specs.List.{flat_map}
use Rattle.std.specs.Option.{unwrap_or}
use Rattle.std.specs.Io.KnownBytes.{Appends}
use Rattle.vdr_outside.specs.Writes.{AppendsFront}
use Rattle.vdr_export.specs.Numbers.{mixed_at}
use Rattle.vdr_terms.specs.Records.{Record}
use Rattle.vdr_visit.specs.Visits.{ReadEnd}
use Rattle.vdr_visit.specs.Visits.ReadEnd.{AllRead, CutOff, ReadDamaged, ReadFault}
use Rattle.vdr_export.specs.Listings.{listing_of, listing_text}
use Rattle.vdr_export.specs.Pictures.{Shown, bodies, greatest_of, shown}
use Rattle.vdr_export.specs.Sounds.{Heard, heard, rates_of, sound}
use Rattle.vdr_export.specs.Waves.{most_bytes, wave_file}
use Rattle.vdr_export.specs.declared.file.File.{File}
use Rattle.vdr_export.specs.declared.file.File.TheVariants.{Sound, Picture, Listing}
use Rattle.vdr_export.specs.declared.refused.ExportRefused.{ExportRefused}
use Rattle.vdr_export.specs.declared.refused.ExportRefused.TheVariants.{Nothing, Mixed, Long, Part, Fault, Damaged, Output, NoMemory}
use Rattle.vdr_export.specs.declared.timing.Timing.{Timing}
use Rattle.vdr_export.specs.declared.wave.WaveSize.{WaveSize}

-- The answer, unless numbers are mixed.
abbrev pub unless_mixed : {T : Type 0} → Option ℕ → Result T ExportRefused → Result T ExportRefused
unless_mixed None answer = answer
unless_mixed (Some place) answer = Err (Mixed place)

abbrev pub unless_long : (rate bytes : ℕ) → Result WaveSize ExportRefused
unless_long rate bytes = if nat_le bytes most_bytes then Ok (record { rate = rate; bytes = bytes }) else Err Long

-- The rate and the size of a sound, or why it is none, in this order: no frame; frames of several rates; too many samples.
abbrev pub size_of : Timing → List Heard → Result WaveSize ExportRefused
size_of timing [] = Err Nothing
size_of timing (h ∷ hs) = unless_mixed (mixed_at (rates_of (h ∷ hs))) (unless_long h.frame.rate (length (sound timing (h ∷ hs))))

-- The WAVE file of this size, or why there is none.
abbrev pub wave_with : Timing → List Heard → Result WaveSize ExportRefused → Result (List ℕ) ExportRefused
wave_with timing hs (Ok size) = Ok (wave_file size timing hs)
wave_with timing hs (Err why) = Err why

abbrev pub wave_of : Timing → List Heard → Result (List ℕ) ExportRefused
wave_of timing hs = wave_with timing hs (size_of timing hs)

-- The media or the output failed, or there was no memory.
abbrev pub IsFailure : Result ⊤ ExportRefused → Type 0
IsFailure result = (result ≡ Err Fault) ⊎ ((result ≡ Err Output) ⊎ (result ≡ Err NoMemory))

-- The data of a part that is there.
abbrev pub data_of : Option (List ℕ) → List ℕ
data_of part = unwrap_or part []

-- The number of the first part that is missing, counted from this one.
abbrev pub first_missing : (number : ℕ) → List (Option (List ℕ)) → Option ℕ
first_missing number [] = None
first_missing number (None ∷ parts) = Some number
first_missing number (Some body ∷ parts) = first_missing (number + 1) parts

-- The answer, unless a part is missing.
abbrev pub unless_part : {T : Type 0} → Option ℕ → Result T ExportRefused → Result T ExportRefused
unless_part None answer = answer
unless_part (Some number) answer = Err (Part number)

-- The data of all parts one after another, or the number of the first that is missing.
abbrev pub joined : List (Option (List ℕ)) → Result (List ℕ) ExportRefused
joined parts = unless_part (first_missing 1 parts) (Ok (flat_map data_of parts))

-- The same without the data, where there may be no part at all.
abbrev pub unless_missing : List (Option (List ℕ)) → Result ⊤ ExportRefused
unless_missing [] = Err Nothing
unless_missing (x ∷ xs) = unless_part (first_missing 1 (x ∷ xs)) (Ok tt)

-- The image of a block, or why it is none, in this order: no part; parts of blocks of several sizes; a part that is missing.
abbrev pub picture_of : List Shown → Result (List ℕ) ExportRefused
picture_of [] = Err Nothing
picture_of (p ∷ ps) = unless_mixed (mixed_at (greatest_of (p ∷ ps))) (joined (bodies p.header.greatest (p ∷ ps)))

-- How the writing of such a file ends.
pub record FileEnds (file : Result (List ℕ) ExportRefused) (old new : Option (List ℕ)) (result : Result ⊤ ExportRefused) : Type 0 where
  -- the file is written, or a front of it
  pub written : (bytes : List ℕ) → file ≡ Ok bytes → OnOk result (Appends old new bytes)
  pub front : (bytes : List ℕ) → file ≡ Ok bytes → AppendsFront old new bytes
  -- it is refused exactly where there is none
  pub done : (bytes : List ℕ) → file ≡ Ok bytes → (result ≡ Ok tt) ⊎ IsFailure result
  pub refused : (why : ExportRefused) → file ≡ Err why → (result ≡ Err why) ⊎ IsFailure result

-- A size is refused so, or by a read, and in no other way.
abbrev pub IsSizeRefusal : ExportRefused → Type 0
IsSizeRefusal Nothing = ⊤
IsSizeRefusal (Mixed place) = ⊤
IsSizeRefusal Long = ⊤
IsSizeRefusal (Part number) = ⊥
IsSizeRefusal Fault = ⊤
IsSizeRefusal (Damaged m offset) = ⊤
IsSizeRefusal Output = ⊥
IsSizeRefusal NoMemory = ⊥

-- The writing of a sound is refused by a read, or since the output fails, and in no other way.
abbrev pub IsWriteRefusal : ExportRefused → Type 0
IsWriteRefusal Nothing = ⊥
IsWriteRefusal (Mixed place) = ⊥
IsWriteRefusal Long = ⊥
IsWriteRefusal (Part number) = ⊥
IsWriteRefusal Fault = ⊤
IsWriteRefusal (Damaged m offset) = ⊤
IsWriteRefusal Output = ⊤
IsWriteRefusal NoMemory = ⊥

-- A sound is refused so, or by a read, or since the output fails, and in no other way.
abbrev pub IsWaveRefusal : ExportRefused → Type 0
IsWaveRefusal Nothing = ⊤
IsWaveRefusal (Mixed place) = ⊤
IsWaveRefusal Long = ⊤
IsWaveRefusal (Part number) = ⊥
IsWaveRefusal Fault = ⊤
IsWaveRefusal (Damaged m offset) = ⊤
IsWaveRefusal Output = ⊤
IsWaveRefusal NoMemory = ⊥

-- A picture is refused so, or by a read, or since the output fails, and in no other way.
abbrev pub IsPictureRefusal : ExportRefused → Type 0
IsPictureRefusal Nothing = ⊤
IsPictureRefusal (Mixed place) = ⊤
IsPictureRefusal Long = ⊥
IsPictureRefusal (Part number) = ⊤
IsPictureRefusal Fault = ⊤
IsPictureRefusal (Damaged m offset) = ⊤
IsPictureRefusal Output = ⊤
IsPictureRefusal NoMemory = ⊤

-- A list of images is refused by a read, or since the output fails, or there is no memory, and in no other way.
abbrev pub IsListingRefusal : ExportRefused → Type 0
IsListingRefusal Nothing = ⊥
IsListingRefusal (Mixed place) = ⊥
IsListingRefusal Long = ⊥
IsListingRefusal (Part number) = ⊥
IsListingRefusal Fault = ⊤
IsListingRefusal (Damaged m offset) = ⊤
IsListingRefusal Output = ⊤
IsListingRefusal NoMemory = ⊤

-- It is answered so, unless the media failed.
abbrev pub AnswersOrFails : {T : Type 0} → Result T ExportRefused → Result T ExportRefused → Type 0
AnswersOrFails answer result = (result ≡ answer) ⊎ (result ≡ Err Fault)

-- All is written, or the media or the output failed.
abbrev pub OkOrFails : Result ⊤ ExportRefused → Type 0
OkOrFails result = (result ≡ Ok tt) ⊎ ((result ≡ Err Fault) ⊎ (result ≡ Err Output))

-- The file, or why there is none.
abbrev pub file_of : File → List Record → Result (List ℕ) ExportRefused
file_of (Sound microphone timing) records = wave_of timing (heard microphone records)
file_of (Picture block) records = picture_of (shown block records)
file_of Listing records = Ok (listing_text (listing_of records))

-- A file is refused so, and in no other way.
abbrev pub IsFileRefusal : File → ExportRefused → Type 0
IsFileRefusal (Sound microphone timing) why = IsWaveRefusal why
IsFileRefusal (Picture block) why = IsPictureRefusal why
IsFileRefusal Listing why = IsListingRefusal why

-- The file may have been begun: a sound is read once more as it is written, and the others are written when all was read.
abbrev pub MayBeBegun : File → ExportRefused → Type 0
MayBeBegun (Sound microphone timing) why = IsWriteRefusal why
MayBeBegun (Picture block) why = why ≡ Output
MayBeBegun Listing why = why ≡ Output

-- How the reads of a file ended: a refusal that is none of the media cuts them off.
abbrev pub file_end : {T : Type 0} → Result T ExportRefused → ReadEnd
file_end (Ok done) = AllRead
file_end (Err Nothing) = CutOff
file_end (Err (Mixed place)) = CutOff
file_end (Err Long) = CutOff
file_end (Err (Part number)) = CutOff
file_end (Err Fault) = ReadFault
file_end (Err (Damaged m offset)) = ReadDamaged m offset
file_end (Err Output) = CutOff
file_end (Err NoMemory) = CutOff
