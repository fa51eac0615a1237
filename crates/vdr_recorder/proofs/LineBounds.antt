-- How long the lines under a datagram's are.
use Rattle.std.proofs.Common.{◌≡◌, ◌≤◌, ◌<◌, ◌+◌, ◌*◌, ◌^◌, ◌/◌, ◌%◌, ◌||◌, cond, not, eqb, ℕ, suc, Bool, true, false, List, [], ◌∷◌, length, drop, Option, Some, None, option_map, Result, Ok, Err, refl, ap, arith, length-append, length-drop, codes, decimal}
use Rattle.std.specs.Prelude.{⊤}
use Rattle.std.specs.List.{concat, flat_map}
use Rattle.std.proofs.lemmas.Fmt.{length-decimal-le, length-decimal-le_succ}
use Rattle.std.proofs.lemmas.List.Folds.{length-prefix_len}
use Rattle.std.proofs.lemmas.List.Sums.{count_by-le-length, prefix_len-le-length}
use Rattle.vdr_datagram.specs.Lines.{and_lines, cut, cut_behind, with_byte}
use Rattle.vdr_datagram.specs.Verdicts.{LineSpan, behind_tags, line_reading, spans_from, spans_under, with_sentence}
use Rattle.vdr_datagram.specs.Verdicts.LineReading.{Good, Sentence, Tag}
use Rattle.vdr_datagram.specs.declared.tokens.Token.{Token}
use Rattle.vdr_datagram.specs.declared.tokens.Token.TheVariants as tokens
use Rattle.vdr_entry.specs.Escape.{escaped, escaped_byte, hex_digit, is_plain}
use Rattle.vdr_entry.specs.Lines.{spaced}
use Rattle.vdr_play.specs.Texts.{verdict_text}
use Rattle.vdr_play.specs.Verdicts.{indented, or_dash, sentence_words, tag_words, verdict_words}
use Rattle.vdr_sentence.proofs.Readings.{IsSentence-from_reading}
use Rattle.vdr_sentence.specs.Addresses.{address_of}
use Rattle.vdr_sentence.specs.Refusals.{SentenceText}
use Rattle.vdr_sentence.specs.Refusals as sentences
use Rattle.vdr_sentence.specs.declared.bad.Bad.{Bad}
use Rattle.vdr_sentence.specs.declared.bad.Bad.TheVariants as bads
use Rattle.vdr_tag.specs.Fronts.{behind_block, front, opened}
use Rattle.vdr_tag.specs.Fronts as fronts
use Rattle.vdr_tag.specs.Values.{TagValues}
use Rattle.vdr_tag.specs.declared.bad.BadTag.{BadTag}
use Rattle.vdr_tag.specs.declared.bad.BadTag.TheVariants as bad_tags
use Rattle.vdr_values.proofs.Cuts.{length-fields_of}
use Rattle.vdr_values.proofs.Short.{IsLegal-read}
use Rattle.vdr_values.specs.Forms.{Form, field_value}
use Rattle.vdr_values.specs.Readings.{fields_of, read_along, read_as, read_by, reading, then_values, with_values}
use Rattle.vdr_values.specs.Rows.{Row, forms_of}
use Rattle.vdr_values.specs.Table.{row_for}
use Rattle.vdr_values.specs.Texts.{reading_word}
use Rattle.vdr_values.specs.Values.{Value}
use Rattle.std.proofs.Common.{◌&&◌}
use Rattle.vdr_recorder.proofs.TagBounds.{AreShort, IsShortFront, tags_short}

-- Words

-- How many bytes words take with a space before each.
abbrev pub room : List (List ℕ) → ℕ
room [] = 0
room (w ∷ ws) = suc (length w + room ws)

pub length_spaced : (words : List (List ℕ)) → length (spaced words) ≡ room words
length_spaced [] = refl
length_spaced (w ∷ ws) = let more = length_spaced ws in let both = length-append (32 ∷ w) (spaced ws) in omega (arith, more, both)

pub length_indented : (words : List (List ℕ)) → length (indented words) ≡ 2 + room words
length_indented words = let all = length_spaced words in let both = length-append (spaced words) (10 ∷ []) in omega (arith, all, both)

pub length_decimal : (n : ℕ) → n < 2 ^ 64 → length (decimal n) ≤ 20
length_decimal n small = length-decimal-le 20 n (omega arith) (omega (arith, small)) small

-- What a sentence says

-- The number of the first bad field is at most that behind the last.
bad_field : (forms : List Form) (n : ℕ) (fields : List (List ℕ)) (bad : ℕ) → read_along forms n fields ≡ Err bad → bad ≤ n + length fields
bad_field [] n fields bad is = let none : ⊥ = cc in absurd none
bad_field (form ∷ forms) n [] bad is = let same : n ≡ bad = cc in omega (arith, same)
bad_field (form ∷ forms) n (field ∷ fields) bad is = by (field_value form field) (read_along forms (n + 1) fields) (λ b was. bad_field forms (n + 1) fields b was) is
  where
    by : (o : Option (Option Value)) (r : Result (List (Option Value)) ℕ) → ((b : ℕ) → r ≡ Err b → b ≤ n + 1 + length fields) → then_values n o r ≡ Err bad → bad ≤ n + suc (length fields)
    by None r more is = let same : n ≡ bad = cc in omega (arith, same)
    by (Some v) (Ok vs) more is = let none : ⊥ = cc in absurd none
    by (Some v) (Err b) more is = let same : b ≡ bad = cc in let high = more b refl in omega (arith, same, high)

word_short : (content : List ℕ) → length content ≤ 76 → length (reading_word (reading content)) ≤ 400
unfolding reading
word_short content short = by (row_for (address_of content)) refl
  where
    read : (row : Row) (r : Result (List (Option Value)) ℕ) → row_for (address_of content) ≡ Some row → read_by row (fields_of content) ≡ r
        → length (reading_word (with_values row r)) ≤ 400
    read row (Ok vs) found is = (IsLegal-read content row vs short found is).short
    read row (Err bad) found is =
        let high = bad_field (forms_of row (length (fields_of content))) 1 (fields_of content) bad is in
        let few = length-fields_of content in
        let within = count_by-le-length (λ b. eqb b 44) content in
        let digits = length-decimal-le_succ bad (omega (arith, high, few, within, short)) in
        let both = length-append (codes "field ") (decimal bad) in
        omega (arith, high, few, within, short, digits, both)

    by : (o : Option Row) → row_for (address_of content) ≡ o → length (reading_word (read_as o (fields_of content))) ≤ 400
    by None found = omega arith
    by (Some row) found = read row (read_by row (fields_of content)) found refl

-- A line

dash_short : (o : Option (List ℕ)) (n : ℕ) → 1 ≤ n → ((w : List ℕ) → o ≡ Some w → length w ≤ n) → length (or_dash o) ≤ n
dash_short None n some short = omega (arith, some)
dash_short (Some w) n some short = short w refl

count_short : (o : Option ℕ) → ((n : ℕ) → o ≡ Some n → length (decimal n) ≤ 3) → length (or_dash (option_map decimal o)) ≤ 3
count_short None short = omega arith
count_short (Some n) short = short n refl

good_short : (tags : TagValues) (text : SentenceText) → AreShort tags → length text.content ≤ 76 → length (indented (verdict_words (Good tags text))) ≤ 505
good_short tags text short few =
    let words = verdict_words (Good tags text) in
    let all = length_indented words in
    let source = dash_short tags.source 15 (omega arith) short.source in
    let count = count_short tags.line short.line in
    let address = length-prefix_len (λ b. not ((eqb b 44) || (eqb b 42))) text.content in
    let within = prefix_len-le-length (λ b. not ((eqb b 44) || (eqb b 42))) text.content in
    let word = word_short text.content few in
    omega (arith, all, source, count, address, within, word, few)

bad_tag_short : (bad : BadTag) → length (indented (verdict_words (Tag bad))) ≤ 128
bad_tag_short bad_tags.Unclosed = let all = length_indented (codes "tag" ∷ tag_words bad_tags.Unclosed) in omega (arith, all)
bad_tag_short bad_tags.Missing = let all = length_indented (codes "tag" ∷ tag_words bad_tags.Missing) in omega (arith, all)
bad_tag_short (bad_tags.Wrong written computed) = let all = length_indented (codes "tag" ∷ tag_words (bad_tags.Wrong written computed)) in omega (arith, all)
bad_tag_short bad_tags.Field = let all = length_indented (codes "tag" ∷ tag_words bad_tags.Field) in omega (arith, all)
bad_tag_short bad_tags.Value = let all = length_indented (codes "tag" ∷ tag_words bad_tags.Value) in omega (arith, all)

bad_sentence_short : (tags : TagValues) (bad : Bad) → length (indented (verdict_words (Sentence tags bad))) ≤ 128
bad_sentence_short tags bads.Start = let all = length_indented (codes "sentence" ∷ sentence_words bads.Start) in omega (arith, all)
bad_sentence_short tags bads.Length = let all = length_indented (codes "sentence" ∷ sentence_words bads.Length) in omega (arith, all)
bad_sentence_short tags bads.Character = let all = length_indented (codes "sentence" ∷ sentence_words bads.Character) in omega (arith, all)
bad_sentence_short tags bads.Address = let all = length_indented (codes "sentence" ∷ sentence_words bads.Address) in omega (arith, all)
bad_sentence_short tags bads.Missing = let all = length_indented (codes "sentence" ∷ sentence_words bads.Missing) in omega (arith, all)
bad_sentence_short tags (bads.Wrong written computed) = let all = length_indented (codes "sentence" ∷ sentence_words (bads.Wrong written computed)) in omega (arith, all)

-- A sentence has seven bytes and more.
long_enough : (bytes : List ℕ) (text : SentenceText) → sentences.reading bytes ≡ Ok text → (length text.content ≤ 76) × (6 ≤ length bytes)
long_enough bytes text is =
    let s = IsSentence-from_reading bytes text is in
    let spelled = ap length s.spelled in
    let ends = length-append s.body (13 ∷ 10 ∷ []) in
    let field = ap length s.checksum.spelled in
    let parts = length-append text.content (42 ∷ s.checksum.high ∷ s.checksum.low ∷ []) in
    (s.legal.short, omega (arith, spelled, ends, field, parts))

line_bound : (line : List ℕ) → 0 < length line → length (indented (verdict_words (line_reading line))) ≤ 128 * length line
line_bound line some = by (fronts.reading line) (tags_short line)
  where
    behind : (tags : TagValues) (size : ℕ) (r : Result SentenceText Bad) → AreShort tags → sentences.reading (drop size line) ≡ r → length (indented (verdict_words (with_sentence tags r))) ≤ 128 * length line
    behind tags size (Ok text) short is =
        let long = long_enough (drop size line) text is in
        let most = good_short tags text short long.0 in
        let six = long.1 in
        let rest = length-drop size line in
        omega (arith, most, six, rest)
    behind tags size (Err bad) short is = let most = bad_sentence_short tags bad in omega (arith, most, some)

    by : (r : Result (TagValues × ℕ) BadTag) → IsShortFront r → length (indented (verdict_words (behind_tags line r))) ≤ 128 * length line
    by (Ok (tags, size)) short = behind tags size (sentences.reading (drop size line)) short refl
    by (Err bad) short = let most = bad_tag_short bad in omega (arith, most, some)

-- The lines of a datagram

abbrev AreSome : List (List ℕ) → Type 0
AreSome [] = ⊤
AreSome (line ∷ lines) = (0 < length line) × AreSome lines

-- None of these is empty, and they have so many bytes.
record AreCut (lines : List (List ℕ)) (n : ℕ) : Type 0 where
  each : AreSome lines
  all : length (concat lines) ≡ n

record IsBegun (line : List ℕ) (lines : List (List ℕ)) (n : ℕ) : Type 0 where
  each : AreSome lines
  all : length line + length (concat lines) ≡ n

and_cut : (line : List ℕ) (lines : List (List ℕ)) (n : ℕ) → IsBegun line lines n → AreCut (and_lines line lines) n
and_cut [] lines n h = let all = h.all in record { each = h.each; all = omega (arith, all) }
and_cut (b ∷ line) lines n h = let all = h.all in record { each = (omega arith, h.each); all = let both = length-append (b ∷ line) (concat lines) in omega (arith, both, all) }

behind_cut : (cr : Bool) (bytes : List ℕ) → IsBegun (cut_behind cr bytes).0 (cut_behind cr bytes).1 (length bytes)
behind_cut cr [] = record { each = tt; all = refl }
behind_cut cr (b ∷ bytes) = by (cr && eqb b 10) (cut_behind (eqb b 13) bytes) (behind_cut (eqb b 13) bytes)
  where
    by : (ends : Bool) (later : List ℕ × List (List ℕ)) → IsBegun later.0 later.1 (length bytes) → IsBegun (with_byte ends b later).0 (with_byte ends b later).1 (suc (length bytes))
    by true later h = let c = and_cut later.0 later.1 (length bytes) h in let all = c.all in record { each = c.each; all = omega (arith, all) }
    by false later h = let all = h.all in record { each = h.each; all = omega (arith, all) }

cut_is : (bytes : List ℕ) → AreCut (cut bytes) (length bytes)
unfolding cut
cut_is bytes = and_cut (cut_behind false bytes).0 (cut_behind false bytes).1 (length bytes) (behind_cut false bytes)

lines_bound : (at : ℕ) (lines : List (List ℕ)) → AreSome lines → length (flat_map verdict_text (spans_from at lines)) ≤ 128 * length (concat lines)
lines_bound at [] are = omega arith
lines_bound at (line ∷ lines) are =
    let span : LineSpan = record { from = at; to = at + length line; verdict = line_reading line } in
    let here = line_bound line are.0 in
    let more = lines_bound (at + length line) lines are.1 in
    let text = length-append (verdict_text span) (flat_map verdict_text (spans_from (at + length line) lines)) in
    let bytes = length-append line (concat lines) in
    omega (arith, here, more, text, bytes)

pub spans_bound : (t : Token) (bytes : List ℕ) → length (flat_map verdict_text (spans_under t bytes)) ≤ 128 * length bytes
spans_bound tokens.Sentences bytes =
    let is = cut_is (drop 6 bytes) in
    let most = lines_bound 6 (cut (drop 6 bytes)) is.each in
    let all = is.all in
    let rest = length-drop 6 bytes in
    omega (arith, most, all, rest)
spans_bound tokens.Image bytes = omega arith
spans_bound tokens.Pcm bytes = omega arith
spans_bound tokens.Other bytes = omega arith
spans_bound tokens.NoToken bytes = omega arith

escaped_one : (b : ℕ) → length (escaped_byte b) ≤ 4
escaped_one b = by (is_plain b)
  where
    by : (t : Bool) → length (cond t (b ∷ []) (60 ∷ hex_digit (b / 16) ∷ hex_digit (b % 16) ∷ 62 ∷ [])) ≤ 4
    by true = omega arith
    by false = omega arith

pub escaped_bound : (bytes : List ℕ) → length (escaped bytes) ≤ 4 * length bytes
escaped_bound [] = omega arith
escaped_bound (b ∷ bytes) =
    let one = escaped_one b in let more = escaped_bound bytes in let both = length-append (escaped_byte b) (escaped bytes) in omega (arith, one, more, both)
