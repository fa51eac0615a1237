-- Worked examples, computed.
use Rattle.std.proofs.Common.{◌≡◌, refl, List, ℕ, [], ◌∷◌, ◌++◌}
use Rattle.std.specs.Prelude.{codes}
use Rattle.std.specs.Fmt.{digits}
use Rattle.vdr_terms.specs.Records.{Content}
use Rattle.vdr_terms.specs.Records.Content.{Start, Datagram, Gap, Stop}
use Rattle.vdr_sentence.specs.Refusals.{body, body_refusal, frame_refusal, reading as sentence_reading}
use Rattle.vdr_tag.specs.Items.{items_refusal}
use Rattle.vdr_tag.specs.Blocks.{block_refusal, block_values}
use Rattle.vdr_tag.specs.Fronts.{reading as tag_reading}
use Rattle.vdr_datagram.specs.Lines.{cut}
use Rattle.vdr_entry.specs.Lines.{record_line}
use Rattle.vdr_entry.proofs.Rows.{navd}
use Rattle.vdr_entry.specs.Utc.{utc_text, date_text, time_text, year_after, month_after}
use Rattle.vdr_values.specs.Readings.{reading}
use Rattle.vdr_values.specs.Table.{table}
use Rattle.vdr_values.specs.Texts.{reading_text, millionths_text, fraction_text}
use Rattle.vdr_image.specs.Images.{image_in, header_at}
use Rattle.vdr_play.specs.Streams.{nothing_seen}
use Rattle.vdr_play.specs.Texts.{content_text, record_text}

-- A sentence datagram.
abbrev sentences : List ℕ → Content
sentences text = Datagram (codes "UdPbC" ++ 0 ∷ text)

good_line : content_text nothing_seen (sentences (codes "\\s:GP0001,n:7*10\\$GPHDT,123.456,T*32\r\n")) ≡ codes "  good GP0001 7 GPHDT heading 123.456\n"
unfolding digits cut tag_reading block_refusal block_values items_refusal sentence_reading frame_refusal body body_refusal reading table reading_text millionths_text fraction_text
good_line = refl

line_without_tags : content_text nothing_seen (sentences (codes "$GPHDT,123.456,T*32\r\n")) ≡ codes "  good - - GPHDT heading 123.456\n"
unfolding digits cut tag_reading block_refusal block_values items_refusal sentence_reading frame_refusal body body_refusal reading table reading_text millionths_text fraction_text
line_without_tags = refl

wrong_checksum : content_text nothing_seen (sentences (codes "\\s:GP0001,n:7*10\\$GPHDT,123.456,T*33\r\n")) ≡ codes "  sentence 6 33 32\n"
unfolding digits cut tag_reading block_refusal block_values items_refusal sentence_reading frame_refusal body body_refusal reading table reading_text millionths_text fraction_text
wrong_checksum = refl

-- A TAG block with a wrong checksum, and a sentence without its end.
two_refusals : content_text nothing_seen (sentences (codes "\\s:GP0001,n:7*11\\$GPHDT,123.456,T*32\r\n$GPHDT,123.456,T*32")) ≡ codes "  tag 3 11 10\n  sentence 2\n"
unfolding digits cut tag_reading block_refusal block_values items_refusal sentence_reading frame_refusal body body_refusal reading table reading_text millionths_text fraction_text
two_refusals = refl

other_contents :
    (content_text nothing_seen (Datagram (codes "AbCdE" ++ 0 ∷ [])) ≡ codes "  opaque\n")
    × (content_text nothing_seen (Datagram (codes "RrUdP" ++ 0 ∷ codes "$GPHDT")) ≡ codes "  opaque\n")
    × (content_text nothing_seen (sentences []) ≡ [])
    × (content_text nothing_seen (Gap (record { full = 0; rate = 0; bad = 1; large = 0 })) ≡ [])
    × (content_text nothing_seen Start ≡ [])
    × (content_text nothing_seen Stop ≡ [])
unfolding cut image_in header_at
other_contents = (refl, refl, refl, refl, refl, refl)

record_of_sentence : record_text nothing_seen (navd (sentences (codes "\\s:GP0001,n:7*10\\$GPHDT,123.456,T*32\r\n")) 1 0 1_704_067_200_000)
    ≡ codes "1 NAVD 0 2024-01-01T00:00:00.000Z data 44 UdPbC<00>\\s:GP0001,n:7*10\\$GPHDT,123.456,T*32<0d><0a>\n  good GP0001 7 GPHDT heading 123.456\n"
unfolding record_text record_line digits utc_text date_text time_text year_after month_after cut tag_reading block_refusal block_values items_refusal sentence_reading frame_refusal body body_refusal reading table reading_text millionths_text fraction_text
record_of_sentence = refl

record_of_gap : record_text nothing_seen (navd (Gap (record { full = 0; rate = 0; bad = 1; large = 0 })) 2 1 0) ≡ codes "2 NAVD 1 1970-01-01T00:00:00.000Z gap 0 0 1 0\n"
unfolding record_text record_line digits utc_text date_text time_text year_after month_after
record_of_gap = refl
