-- The line that is printed for each line of a sentence datagram (this project's profile).
use Rattle.std.specs.Prelude.{ℕ, List, [], ◌∷◌, ◌++◌, codes, decimal, Option, option_map, unwrap_or}
use Rattle.vdr_bytes.specs.Digits.{upper_digits}
use Rattle.vdr_sentence.specs.Addresses.{address_of}
use Rattle.vdr_sentence.specs.declared.bad.Bad.{Bad}
use Rattle.vdr_sentence.specs.declared.bad.Bad.TheVariants.{Start, Length, Character, Address, Missing, Wrong}
use Rattle.vdr_tag.specs.declared.bad.BadTag.{BadTag}
use Rattle.vdr_tag.specs.declared.bad.BadTag.TheVariants.{Unclosed, Missing as NoChecksum, Wrong as WrongTag, Field, Value}
use Rattle.vdr_datagram.specs.Verdicts.{LineReading}
use Rattle.vdr_datagram.specs.Verdicts.LineReading.{Good, Tag, Sentence}
use Rattle.vdr_values.specs.Readings.{reading}
use Rattle.vdr_values.specs.Texts.{reading_word}
use Rattle.vdr_entry.specs.Lines.{spaced}

-- A word for what may be absent.
abbrev pub or_dash : Option (List ℕ) → List ℕ
or_dash word = unwrap_or word (codes "-")

-- A refusal is printed as its number. Behind that of a wrong checksum stand the written and the computed one.
abbrev pub tag_words : BadTag → List (List ℕ)
tag_words Unclosed = codes "1" ∷ []
tag_words NoChecksum = codes "2" ∷ []
tag_words (WrongTag written computed) = codes "3" ∷ upper_digits written ∷ upper_digits computed ∷ []
tag_words Field = codes "4" ∷ []
tag_words Value = codes "5" ∷ []

abbrev pub sentence_words : Bad → List (List ℕ)
sentence_words Start = codes "1" ∷ []
sentence_words Length = codes "2" ∷ []
sentence_words Character = codes "3" ∷ []
sentence_words Address = codes "4" ∷ []
sentence_words Missing = codes "5" ∷ []
sentence_words (Wrong written computed) = codes "6" ∷ upper_digits written ∷ upper_digits computed ∷ []

-- The words of a line:
--   good SOURCE COUNT ADDRESS READING
--   tag NUMBER, and at a wrong checksum WRITTEN COMPUTED
--   sentence NUMBER, and at a wrong checksum WRITTEN COMPUTED
abbrev pub verdict_words : LineReading → List (List ℕ)
verdict_words (Good tags sentence) = codes "good" ∷ or_dash tags.source ∷ or_dash (option_map decimal tags.line) ∷ address_of sentence.content ∷ reading_word (reading sentence.content) ∷ []
verdict_words (Tag bad) = codes "tag" ∷ tag_words bad
verdict_words (Sentence tags bad) = codes "sentence" ∷ sentence_words bad

-- Two spaces, the words, and LF.
abbrev pub indented : List (List ℕ) → List ℕ
indented words = 32 ∷ (spaced words ++ 10 ∷ [])
