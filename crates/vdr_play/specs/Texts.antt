-- What a record is printed as: its line, and under a datagram's what the datagram holds (this project's profile).
use Rattle.std.specs.Prelude.{ℕ, List, [], ◌∷◌, ◌++◌}
use Rattle.std.specs.List.{flat_map}
use Rattle.vdr_terms.specs.Records.{Record, Content}
use Rattle.vdr_terms.specs.Records.Content.{Start, Datagram, Gap, Stop}
use Rattle.vdr_datagram.specs.declared.tokens.Token.{Token}
use Rattle.vdr_datagram.specs.declared.tokens.Token.TheVariants.{Sentences, Image, Pcm, Other, NoToken}
use Rattle.vdr_datagram.specs.Tokens.{token}
use Rattle.vdr_datagram.specs.Verdicts.{LineSpan, line_spans}
use Rattle.vdr_entry.specs.Lines.{record_line}
use Rattle.vdr_image.specs.Images.{image_in}
use Rattle.vdr_pcm.specs.Datagrams.{pcm_in}
use Rattle.vdr_play.specs.Verdicts.{indented, verdict_words}
use Rattle.vdr_play.specs.Streams.{Seen, seen_after, image_text, pcm_text, opaque_text}

-- A line for each line of a sentence datagram.
abbrev pub verdict_text : LineSpan → List ℕ
verdict_text line = indented (verdict_words line.verdict)

-- What is printed under a datagram's line, by its token and what was seen before it.
abbrev pub text_under : Seen → Token → (payload : List ℕ) → List ℕ
text_under seen Sentences payload = flat_map verdict_text (line_spans payload)
text_under seen Image payload = image_text seen.image (image_in payload)
text_under seen Pcm payload = pcm_text seen.pcm (pcm_in payload)
text_under seen Other payload = opaque_text
text_under seen NoToken payload = opaque_text

-- Nothing stands under the line of another record.
abbrev pub content_text : Seen → Content → List ℕ
content_text seen (Datagram payload) = text_under seen (token payload) payload
content_text seen (Gap missed) = []
content_text seen Start = []
content_text seen Stop = []

unfoldable pub record_text : Seen → Record → List ℕ
record_text seen r = record_line r ++ content_text seen r.content

-- What was seen after these records.
abbrev pub seen_by : Seen → List Record → Seen
seen_by seen [] = seen
seen_by seen (r ∷ rs) = seen_by (seen_after seen r.content) rs

-- Records one after another. The tracks step over these records alone.
abbrev pub records_text : Seen → List Record → List ℕ
records_text seen [] = []
records_text seen (r ∷ rs) = record_text seen r ++ records_text (seen_after seen r.content) rs
