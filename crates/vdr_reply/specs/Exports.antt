-- What an order for a file is answered (this project's profile). Each line ends with LF.
use Rattle.std.specs.Prelude.{◌≡◌, ◌++◌, ℕ, ℤ, true, false, List, codes, decimal, Option, Some, None, Result, Ok, Err, ⊤}
use Rattle.vdr_terms.specs.Records.{Record}
use Rattle.vdr_base64.specs.Lines.{lines_of}
use Rattle.vdr_control.specs.declared.export.Exporting.{Exporting}
use Rattle.vdr_control.specs.declared.export.Exporting.TheVariants.{Picture, Sound}
use Rattle.vdr_export.specs.Answers.{file_of}
use Rattle.vdr_export.specs.Wishes.{timed_from}
use Rattle.vdr_export.specs.declared.file.File.{File}
use Rattle.vdr_export.specs.declared.refused.ExportRefused.{ExportRefused}
use Rattle.vdr_export.specs.declared.refused.ExportRefused.TheVariants as exports
use Rattle.vdr_export.specs.declared.timing.Timing.TheVariants.{Numbered}
use Rattle.vdr_export.specs.declared.wish.Wish.{Wish}
use Rattle.vdr_export.specs.declared.wish.Wish.TheVariants as wishes
use Rattle.vdr_reply.specs.Texts.{IsTextOr9, damage_line, done_line, fault_line, memory_line, page_text, with_end}

-- What file the order wishes for. The time line of a sound begins at its first bound.
abbrev pub wish_of : Exporting → (from : ℤ) → Wish
wish_of (Sound false) from = wishes.Sound Numbered
wish_of (Sound true) from = wishes.Sound (timed_from from)
wish_of (Picture source block) from = wishes.Picture (record { source = source; number = block })

-- The channel has no such file.
abbrev pub kind_line : List ℕ
kind_line = codes "REFUSED 14 kind\n"

-- The record of this place does not fit those before it, and this part of the image is missing.
unfoldable pub mixed_line : (place : ℕ) → List ℕ
mixed_line place = codes "REFUSED 14 mixed " ++ decimal place ++ codes "\n"

unfoldable pub missing_line : (number : ℕ) → List ℕ
missing_line number = codes "REFUSED 14 part " ++ decimal number ++ codes "\n"

-- Why there is no file, in the words of the command, or what failed.
abbrev pub export_line : ExportRefused → List ℕ
export_line exports.Nothing = codes "REFUSED 14 none\n"
export_line (exports.Mixed place) = mixed_line place
export_line exports.Long = codes "REFUSED 14 long\n"
export_line (exports.Part number) = missing_line number
export_line exports.Fault = fault_line
export_line (exports.Damaged m offset) = damage_line
export_line exports.Output = memory_line
export_line exports.NoMemory = memory_line

-- The lines of the file's bytes, or why there is none.
abbrev pub made_text : Result (List ℕ) ExportRefused → List ℕ
made_text (Ok bytes) = page_text (lines_of bytes)
made_text (Err why) = export_line why

-- What is answered of these records, where this is the file that is to be made of them.
abbrev pub file_text : Option File → List Record → List ℕ
file_text None records = kind_line
file_text (Some file) records = made_text (file_of file records)

-- There was no memory, where a file was to be made.
abbrev pub LacksMemoryToExport : (said text : List ℕ) → Type 0
LacksMemoryToExport said text = (text ≡ memory_line) × (made : Result (List ℕ) ExportRefused) × (said ≡ made_text made)

-- What is sent where the writing of these bytes ended so.
abbrev pub IsSent : Result ⊤ ExportRefused → (bytes text : List ℕ) → Type 0
IsSent (Ok done) bytes text = IsTextOr9 (with_end (done_line ++ lines_of bytes)) text
IsSent (Err why) bytes text = text ≡ export_line why
