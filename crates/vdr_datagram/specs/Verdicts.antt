-- What a line reads as: the TAG blocks at its front, and the sentence that the rest is.
use Rattle.std.specs.Prelude.{ℕ, ◌+◌, List, [], ◌∷◌, length, drop, Result, Ok, Err}
use Rattle.vdr_tag.specs.declared.bad.BadTag.{BadTag}
use Rattle.vdr_tag.specs.Values.{TagValues}
use Rattle.vdr_tag.specs.Fronts.{reading as tag_reading}
use Rattle.vdr_sentence.specs.declared.bad.Bad.{Bad}
use Rattle.vdr_sentence.specs.Refusals.{SentenceText, reading as sentence_reading}
use Rattle.vdr_datagram.specs.declared.tokens.Token.TheVariants.{Sentences, Image, Pcm, Other, NoToken}
use Rattle.vdr_datagram.specs.declared.tokens.Token.{Token}
use Rattle.vdr_datagram.specs.Tokens.{token}
use Rattle.vdr_datagram.specs.Lines.{cut}

-- The TAG blocks and the sentence of a line, or the refusal of one of them.
pub data LineReading : Type 0 where
  Good : (tags : TagValues) (sentence : SentenceText) → LineReading
  Tag : (bad : BadTag) → LineReading
  Sentence : (tags : TagValues) (bad : Bad) → LineReading

abbrev pub with_sentence : TagValues → Result SentenceText Bad → LineReading
with_sentence tags (Ok sentence) = Good tags sentence
with_sentence tags (Err bad) = Sentence tags bad

abbrev pub behind_tags : (line : List ℕ) → Result (TagValues × ℕ) BadTag → LineReading
behind_tags line (Ok (tags, size)) = with_sentence tags (sentence_reading (drop size line))
behind_tags line (Err bad) = Tag bad

abbrev pub line_reading : (line : List ℕ) → LineReading
line_reading line = behind_tags line (tag_reading line)

-- A line of a datagram: where it stands, from its first byte to the byte behind it, and what it reads as.
pub record LineSpan : Type 0 where
  pub from : ℕ
  pub to : ℕ
  pub verdict : LineReading

-- Lines that stand one behind the other, the first at this byte.
abbrev pub spans_from : ℕ → List (List ℕ) → List LineSpan
spans_from at [] = []
spans_from at (line ∷ lines) = record { from = at; to = at + length line; verdict = line_reading line } ∷ spans_from (at + length line) lines

abbrev pub spans_under : Token → List ℕ → List LineSpan
spans_under Sentences bytes = spans_from 6 (cut (drop 6 bytes))
spans_under Image bytes = []
spans_under Pcm bytes = []
spans_under Other bytes = []
spans_under NoToken bytes = []

-- The lines of a sentence datagram. Another datagram has none.
abbrev pub line_spans : List ℕ → List LineSpan
line_spans bytes = spans_under (token bytes) bytes
