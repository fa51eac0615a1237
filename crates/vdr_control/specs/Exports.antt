-- The lines in which a link asks for a file of what was recorded (this project's profile).
use Rattle.std.specs.Prelude.{◌≡◌, ◌<◌, ◌^◌, ◌∷◌, ◌++◌, ℕ, ℤ, true, false, List, [], length, codes, decimal, ⊤}
use Rattle.vdr_image.specs.Headers.{is_identifier}
use Rattle.vdr_entry.specs.declared.query.Medium.{Medium}
use Rattle.vdr_control.specs.Orders.PlainOrder.{Play}
use Rattle.vdr_control.specs.Plays.{SpellsPlay}
use Rattle.vdr_control.specs.Words.{words}
use Rattle.vdr_control.specs.declared.export.Exporting.{Exporting}
use Rattle.vdr_control.specs.declared.export.Exporting.TheVariants.{Sound, Picture}

-- What a line begins with.
abbrev pub file_word : Exporting → List ℕ
file_word (Sound timed) = codes "WAV "
file_word (Picture source block) = codes "PICTURE "

-- The words behind it: those of a play; for a sound on its time line `timed` behind them; for an image its source and the number of its block
-- behind the channel.
abbrev pub file_words : Exporting → (medium channel from to : List ℕ) → List (List ℕ)
file_words (Sound false) medium channel from to = medium ∷ channel ∷ from ∷ to ∷ []
file_words (Sound true) medium channel from to = medium ∷ channel ∷ from ∷ to ∷ codes "timed" ∷ []
file_words (Picture source block) medium channel from to = medium ∷ channel ∷ source ∷ decimal block ∷ from ∷ to ∷ []

-- A source has six bytes of 0x21 to 0x7E, and the number of a block four bytes.
abbrev pub IsExporting : Exporting → Type 0
IsExporting (Sound timed) = ⊤
IsExporting (Picture source block) = (is_identifier source ≡ true) × (block < 2 ^ 32)

-- The words of a text are those of this file, of which the channel is not empty.
pub record HasFileWords (text : List ℕ) (medium : Medium) (channel : List ℕ) (from to : ℤ) (exporting : Exporting) : Type 0 where
  pub name : List ℕ
  pub since : List ℕ
  pub until : List ℕ
  pub cut : words text ≡ file_words exporting name channel since until
  pub legal : IsExporting exporting
  pub named : 0 < length channel
  pub spelled : SpellsPlay name channel since until (Play medium channel from to)

-- `WAV` or `PICTURE`, and the words of the file.
pub record IsExportLine (line : List ℕ) (medium : Medium) (channel : List ℕ) (from to : ℤ) (exporting : Exporting) : Type 0 where
  pub rest : List ℕ
  pub begins : line ≡ file_word exporting ++ rest
  pub spelled : HasFileWords rest medium channel from to exporting
