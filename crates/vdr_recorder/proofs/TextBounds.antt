-- The text of a record has at most 196,544 bytes.
use Rattle.std.proofs.Common.{◌≡◌, ◌≤◌, ◌<◌, ◌^◌, ◌+◌, ◌-◌, cond, eqb, ℕ, ℤ, Bool, true, false, List, [], ◌∷◌, ◌++◌, length, drop, Option, Some, None, ⊎_elim, refl, arith, length-append, length-drop, length-take, decimal}
use Rattle.std.specs.Prelude.{⊤, nat_lt}
use Rattle.std.proofs.lemmas.Bool.{cases_lt, lt-ltb}
use Rattle.vdr_bytes.proofs.NumberLemmas.{u32_at-fits}
use Rattle.vdr_bytes.specs.Numbers.{u32_at}
use Rattle.vdr_datagram.specs.Tokens.{token}
use Rattle.vdr_datagram.specs.declared.tokens.Token.{Token}
use Rattle.vdr_datagram.specs.declared.tokens.Token.TheVariants as tokens
use Rattle.vdr_entry.specs.Lines.{record_line, spaced, words_of}
use Rattle.vdr_entry.specs.Utc.{date_text, time_text, utc_text}
use Rattle.vdr_image.specs.Images.{header_at, image_in, is_image}
use Rattle.vdr_image.specs.Tracks.{image_step, part_of}
use Rattle.vdr_image.specs.declared.part.Part.{Part}
use Rattle.vdr_image.specs.declared.step.ImageStep.{ImageStep}
use Rattle.vdr_image.specs.declared.step.ImageStep.TheVariants as steps
use Rattle.vdr_pcm.specs.Datagrams.{frame_at, is_pcm, pcm_in}
use Rattle.vdr_pcm.specs.Frames.{Frame, sample_count}
use Rattle.vdr_pcm.specs.Tracks.{number_of, pcm_step}
use Rattle.vdr_pcm.specs.declared.frame_number.FrameNumber.{FrameNumber}
use Rattle.vdr_pcm.specs.declared.step.PcmStep.TheVariants as frames
use Rattle.vdr_play.specs.Streams.{Seen, frame_words, image_step_word, image_text, image_words, pcm_step_words, pcm_text}
use Rattle.vdr_play.specs.Texts.{content_text, record_text, text_under}
use Rattle.vdr_play.specs.Verdicts.{indented}
use Rattle.vdr_terms.specs.Datagrams.{has_token, verdict}
use Rattle.vdr_terms.specs.Groups.{group_name, group_table, named}
use Rattle.vdr_terms.specs.Legality.{IsBytes, IsContent, IsRecord}
use Rattle.vdr_terms.specs.Records.{Content, Record}
use Rattle.vdr_terms.specs.Records.Content.{Datagram, Gap, Start, Stop}
use Rattle.vdr_terms.specs.declared.datagram.Verdict.TheVariants.{Bad, Large, Yes}
use Rattle.vdr_recorder.proofs.LineBounds.{escaped_bound, length_decimal, length_indented, length_spaced, room, spans_bound}

-- The words of a record's line

abbrev AreShort : List (List ℕ × ℕ) → Type 0
AreShort [] = ⊤
AreShort (row ∷ rows) = (length row.0 ≤ 4) × AreShort rows

named_short : (g : ℕ) (rows : List (List ℕ × ℕ)) → AreShort rows → length (named g rows) ≤ 4
named_short g [] short = omega arith
named_short g (row ∷ rows) short = by (eqb g row.1) (named_short g rows short.1)
  where
    by : (t : Bool) → length (named g rows) ≤ 4 → length (cond t row.0 (named g rows)) ≤ 4
    by true more = short.0
    by false more = more

name_short : (g : ℕ) → length (group_name g) ≤ 4
name_short g =
    let four : 4 ≤ 4 = omega arith in
    named_short g group_table (four, (four, (four, (four, (four, (four, (four, (four, (four, (four, (four, (four, (four, (four, (four, (four, tt))))))))))))))))

utc_long : (utc : ℤ) → length (utc_text utc) ≡ 24
unfolding utc_text date_text time_text
utc_long utc = refl

-- A datagram that is recorded is not large.
datagram_short : (payload : List ℕ) → verdict payload ≡ Yes → length payload ≤ 1472
datagram_short payload is = ⊎_elim
    (λ (more : 1472 < length payload). absurd (large (nat_lt 1472 (length payload)) (lt-ltb 1472 (length payload) more) is))
    (λ (few : length payload ≤ 1472). few)
    (cases_lt 1472 (length payload))
  where
    large : (t : Bool) → t ≡ true → cond t Large (cond (has_token payload) Yes Bad) ≡ Yes → ⊥
    large true e is = cc
    large false e is = cc

words_short : (r : Record) → IsRecord r → room (words_of r.content r) ≤ 5_976
words_short r legal = by r.content legal.content
  where
    by : (c : Content) → IsContent r.group r.number c → room (words_of c r) ≤ 5_976
    by (Datagram payload) is =
        let few = datagram_short payload is.1 in
        let name = name_short r.group in
        let n = length_decimal r.number legal.number in
        let utc = utc_long r.utc in
        let size = length_decimal (length payload) (omega (arith, few)) in
        let bytes = escaped_bound payload in
        omega (arith, few, name, n, utc, size, bytes)
    by (Gap missed) is =
        let name = name_short r.group in
        let n = length_decimal r.number legal.number in
        let utc = utc_long r.utc in
        let full = length_decimal missed.full is.1.full in
        let rate = length_decimal missed.rate is.1.rate in
        let bad = length_decimal missed.bad is.1.bad in
        let large = length_decimal missed.large is.1.large in
        omega (arith, name, n, utc, full, rate, bad, large)
    by Start is = let utc = utc_long r.utc in omega (arith, utc)
    by Stop is = let utc = utc_long r.utc in omega (arith, utc)

line_short : (r : Record) → IsRecord r → length (record_line r) ≤ 6_000
unfolding record_line
line_short r legal =
    let place = length_decimal r.place (let low = legal.place in omega (arith, low)) in
    let words = length_spaced (words_of r.content r) in
    let most = words_short r legal in
    let a = length-append (decimal r.place ++ spaced (words_of r.content r)) (10 ∷ []) in
    let b = length-append (decimal r.place) (spaced (words_of r.content r)) in
    omega (arith, place, words, most, a, b)

-- What stands under a line of an image or of sound

step_short : (s : ImageStep) → length (image_step_word s) ≤ 5
step_short steps.First = omega arith
step_short steps.Next = omega arith
step_short steps.Break = omega arith

image_short : (last : Option Part) (bytes : List ℕ) → IsBytes bytes → length bytes ≤ 1472 → length (image_text last (image_in bytes)) ≤ 1_000
unfolding image_in header_at
image_short last bytes are few = by (is_image bytes)
  where
    by : (t : Bool) → length (image_text last (cond t (Some (header_at bytes)) None)) ≤ 1_000
    by false = omega arith
    by true =
        let how = image_step last (part_of (header_at bytes)) in
        let all = length_indented (image_words (header_at bytes) how) in
        let source = length-take 6 (drop 8 bytes) in
        let block = length_decimal (u32_at 20 bytes) (let low = u32_at-fits 20 bytes are in omega (arith, low)) in
        let sequence = length_decimal (u32_at 24 bytes) (let low = u32_at-fits 24 bytes are in omega (arith, low)) in
        let greatest = length_decimal (u32_at 28 bytes) (let low = u32_at-fits 28 bytes are in omega (arith, low)) in
        let body = length_decimal (length (drop 32 bytes)) (let rest = length-drop 32 bytes in omega (arith, rest, few)) in
        let word = step_short how in
        omega (arith, all, source, block, sequence, greatest, body, word)

missing_short : (last : Option FrameNumber) (now : FrameNumber) → now.frame < 2 ^ 32 → room (pcm_step_words (pcm_step last now)) ≤ 40
missing_short None now low = omega arith
missing_short (Some last) now low = by (eqb last.microphone now.microphone) (nat_lt last.frame now.frame)
  where
    behind : (t : Bool) → room (pcm_step_words (cond t (frames.Missing (now.frame - (last.frame + 1))) frames.Back)) ≤ 40
    behind true = let digits = length_decimal (now.frame - (last.frame + 1)) (omega (arith, low)) in omega (arith, digits)
    behind false = omega arith

    by : (t u : Bool) → room (pcm_step_words (cond t (cond u (frames.Missing (now.frame - (last.frame + 1))) frames.Back) frames.First)) ≤ 40
    by true u = behind u
    by false u = omega arith

frame_room : (f : Frame) (how : List (List ℕ)) → f.microphone < 2 ^ 64 → f.frame < 2 ^ 64 → f.rate < 2 ^ 64 → sample_count f.samples < 2 ^ 64 → room how ≤ 40 → length (indented (frame_words f how)) ≤ 1_000
frame_room f how a b c d few =
    let all = length_indented (frame_words f how) in
    let microphone = length_decimal f.microphone a in
    let frame = length_decimal f.frame b in
    let rate = length_decimal f.rate c in
    let count = length_decimal (sample_count f.samples) d in
    omega (arith, all, microphone, frame, rate, count, few)

sound_short : (last : Option FrameNumber) (bytes : List ℕ) → IsBytes bytes → length bytes ≤ 1472 → length (pcm_text last (pcm_in bytes)) ≤ 1_000
unfolding pcm_in frame_at
sound_short last bytes are few = by (is_pcm bytes)
  where
    by : (t : Bool) → length (pcm_text last (cond t (Some (frame_at bytes)) None)) ≤ 1_000
    by false = omega arith
    by true =
        let frame = u32_at-fits 7 bytes are in
        let rate = u32_at-fits 11 bytes are in
        let microphone = are 6 in
        let rest = length-drop 17 bytes in
        frame_room (frame_at bytes) (pcm_step_words (pcm_step last (number_of (frame_at bytes)))) (omega (arith, microphone)) (omega (arith, frame)) (omega (arith, rate)) (omega (arith, rest, few))
        (missing_short last (number_of (frame_at bytes)) frame)

under_short : (seen : Seen) (t : Token) (payload : List ℕ) → IsBytes payload → length payload ≤ 1472 → length (text_under seen t payload) ≤ 188_416
under_short seen tokens.Sentences payload are few = let most = spans_bound (token payload) payload in omega (arith, most, few)
under_short seen tokens.Image payload are few = let most = image_short seen.image payload are few in omega (arith, most)
under_short seen tokens.Pcm payload are few = let most = sound_short seen.pcm payload are few in omega (arith, most)
under_short seen tokens.Other payload are few = omega arith
under_short seen tokens.NoToken payload are few = omega arith

content_short : (seen : Seen) (group number : ℕ) (c : Content) → IsContent group number c → length (content_text seen c) ≤ 188_416
content_short seen group number (Datagram payload) is = under_short seen (token payload) payload is.2 (datagram_short payload is.1)
content_short seen group number (Gap missed) is = omega arith
content_short seen group number Start is = omega arith
content_short seen group number Stop is = omega arith

pub text_short : (seen : Seen) (r : Record) → IsRecord r → length (record_text seen r) ≤ 196_544
unfolding record_text
text_short seen r legal =
    let line = line_short r legal in
    let under = content_short seen r.group r.number r.content legal.content in
    let both = length-append (record_line r) (content_text seen r.content) in
    omega (arith, line, under, both)
