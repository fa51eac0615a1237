-- What holds of the list of images, beside each of the images, and of sounds by stamps.
use Rattle.std.specs.Prelude.{◌≡◌, ◌≤◌, ◌<◌, ◌+◌, ◌-◌, ◌*◌, ◌⊎◌, ℕ, List, [], ◌∷◌, ◌++◌, codes, count_by, is_some, length, Option, Some, None, Result, Ok, Err}
use Rattle.std.specs.Map.{lookup}
use Rattle.std.specs.Option.{unwrap_or}
use Rattle.vdr_terms.specs.Records.{Record}
use Rattle.vdr_export.specs.Answers.{picture_of}
use Rattle.vdr_export.specs.Collected.{bodies_of}
use Rattle.vdr_export.specs.Listings.{Listed, listing_of, parts_in, same_block, state_word}
use Rattle.vdr_export.specs.Pictures.{Shown, shown}
use Rattle.vdr_export.specs.Sounds.{Heard, heard, silence, sound}
use Rattle.vdr_export.specs.Tracks.{jitter, position, samples_in}
use Rattle.vdr_export.specs.declared.block.Block.{Block}
use Rattle.vdr_export.specs.declared.refused.ExportRefused.{ExportRefused}
use Rattle.vdr_export.specs.declared.refused.ExportRefused.TheVariants.{Nothing, Mixed, Long, Part, Fault, Damaged, Output, NoMemory}
use Rattle.vdr_export.specs.declared.timing.Timing.{Timing}
use Rattle.vdr_export.specs.declared.timing.Timing.TheVariants.{Stamped}

-- How much of an image is there, by its picture, or why there is none.
abbrev pub word_of : Result (List ℕ) ExportRefused → List ℕ
word_of (Ok bytes) = codes "complete"
word_of (Err Nothing) = []
word_of (Err (Mixed place)) = codes "mixed"
word_of (Err Long) = []
word_of (Err (Part number)) = codes "part"
word_of (Err Fault) = []
word_of (Err (Damaged m offset)) = []
word_of (Err Output) = []
word_of (Err NoMemory) = []

-- An image is listed as these parts of it are.
pub record IsListedAs (ps : List Shown) (x : Listed) : Type 0 where
  -- how many of its parts are there, and how many it has
  pub parts : parts_in x.had ≡ count_by is_some (bodies_of ps)
  pub greatest : length x.had ≡ length (bodies_of ps)
  -- it is complete where there is a picture, and else its word tells why there is none
  pub word : state_word x ≡ word_of (picture_of ps)

-- It is listed where there is a part of it, and only there.
abbrev pub AreListedAs : List Shown → Option Listed → Type 0
AreListedAs [] x = x ≡ None
AreListedAs (p ∷ ps) None = ⊥
AreListedAs (p ∷ ps) (Some x) = IsListedAs (p ∷ ps) x

-- So the list of these records tells of each block.
abbrev pub ListsPictures : Type 0
ListsPictures = (block : Block) (records : List Record) → AreListedAs (shown block records) (lookup (λ b. same_block b block) (listing_of records))

-- The stamp of the first sample of a sound by stamps.
abbrev pub first_stamp : (from : Option ℕ) → List Heard → ℕ
first_stamp from [] = unwrap_or from 0
first_stamp from (h ∷ hs) = unwrap_or from h.stamp

-- A frame that lies behind the end of the sound, by more than the slack, begins where it lies, and any other right at the end.
abbrev pub BeginsInTime : (begin end place slack : ℕ) → Type 0
BeginsInTime begin end place slack = ((end + slack < place) × (begin ≡ place)) ⊎ ((place ≤ end + slack) × (begin ≡ end))

-- A frame behind others in a sound by stamps: where theirs ends, in samples of two bytes, and where its own samples begin, all of them, with silence
-- between the two.
pub record IsInTime (from : Option ℕ) (hs : List Heard) (h : Heard) : Type 0 where
  pub end : ℕ
  pub ends : length (sound (Stamped from) hs) ≡ 2 * end
  pub begin : ℕ
  pub split : sound (Stamped from) (hs ++ h ∷ []) ≡ sound (Stamped from) hs ++ (silence (begin - end) ++ h.frame.samples)
  pub begins : BeginsInTime begin end (position (first_stamp from (hs ++ h ∷ [])) h.stamp h.frame) (samples_in h.frame.rate jitter)

-- So each frame is, behind those of any records.
abbrev pub AreInTime : Type 0
AreInTime = (microphone : ℕ) (from : Option ℕ) (records : List Record) (h : Heard) → IsInTime from (heard microphone records) h

-- The sound of the first frames stays, whatever comes behind them.
abbrev pub GoesOn : Type 0
GoesOn = (timing : Timing) (front rest : List Heard) → (more : List ℕ) × (sound timing (front ++ rest) ≡ sound timing front ++ more)
