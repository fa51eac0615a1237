-- Which lines carry no part of an AIS message, by their addresses, and by their bytes.
use Rattle.std.proofs.Common.{◌≡◌, ◌∙◌, ◌<◌, ◌≤◌, ℕ, zero, suc, arith, Bool, true, false, cond, ◌||◌, ◌&&◌, ◌==◌, List, [], ◌∷◌, ◌++◌, take, drop, Option, Some, None, Result, Ok, Err, bytes_eq, codes, unwrap_or, refl, sym, ap, subst, eqb, get_or, length, ◌-◌, ◌+◌}
use Rattle.std.specs.List.{concat, cons_option, filter_map, position_or_len}
use Rattle.std.proofs.lemmas.List.{length-drop, take-append-drop}
use Rattle.std.proofs.lemmas.Slice.Eq.{bytes_eq-Decides}
use Rattle.std.specs.Prelude.{slice_index}
use Rattle.vdr_bytes.specs.Checksum.{covered}
use Rattle.vdr_sentence.specs.Addresses.{address_of}
use Rattle.vdr_sentence.specs.Refusals.{SentenceText, body, first_refusal, reading as sentence_reading, unless_refused}
use Rattle.vdr_sentence.specs.declared.bad.Bad.{Bad}
use Rattle.vdr_tag.specs.declared.bad.BadTag.{BadTag}
use Rattle.vdr_tag.specs.Fronts.{reading as tag_reading}
use Rattle.vdr_tag.specs.Values.{TagValues}
use Rattle.vdr_values.specs.Readings.{fields_of, read_as, read_by, reading, with_values}
use Rattle.vdr_values.specs.Rows.{Row as Formatter}
use Rattle.vdr_values.specs.declared.column.Column.{Column}
use Rattle.vdr_values.specs.Table.{row_for, row_named, table}
use Rattle.vdr_values.specs.Values.{Value}
use Rattle.vdr_values.proofs.Lookups.{named-good}
use Rattle.vdr_datagram.specs.Lines.{and_lines, cut, cut_behind, with_byte}
use Rattle.vdr_datagram.specs.Verdicts.{LineReading, LineSpan, Good, Tag, Sentence, behind_tags, line_reading, line_spans, spans_from, spans_under, with_sentence}
use Rattle.vdr_datagram.specs.Tokens.{token}
use Rattle.vdr_datagram.specs.declared.tokens.Token.{Token}
use Rattle.vdr_datagram.specs.declared.tokens.Token.TheVariants.{Sentences, Image, Pcm, Other, NoToken}
use Rattle.vdr_ais.specs.Lines.{Line, carries, line_in, line_where, lines_in}
use Rattle.vdr_terms.specs.Records.{Record}
use Rattle.vdr_ais.specs.Bits.{Message}
use Rattle.vdr_rows.specs.Reported.{message_values}
use Rattle.vdr_rows.specs.Tables.{line_rows, rows_of}
use Rattle.vdr_rows.specs.Texts.{heading_of}
use Rattle.vdr_rows.specs.Values.{Said, said_by, values_where}
use Rattle.vdr_rows.specs.declared.seeking.Sought.{Sought}
use Rattle.vdr_rows.specs.declared.seeking.Sought.TheVariants.{Parts}
use Rattle.vdr_rows.specs.Seeking.{begins, carried_rows, is_carrier, is_sought, mentions}

-- ---- by the address

off : {X : Type 0} (t : Bool) (o : Option X) → t ≡ false → cond t o None ≡ None
off true o h = absurd (cc)
off false o h = refl

pub row_behind : (address : List ℕ) (row : Formatter) → row_for address ≡ Some row → row_named (drop 2 address) ≡ Some row
row_behind address row h = by_test (eqb (get_or address 0 0) 80) h
  where
    by_test : (t : Bool) → cond t None (row_named (drop 2 address)) ≡ Some row → row_named (drop 2 address) ≡ Some row
    by_test true h = absurd (cc)
    by_test false h = h

-- A sentence of another formatter carries nothing.
nothing_read : (group : ℕ) (source content : List ℕ) → carries (drop 2 (address_of content)) ≡ false → line_where group source (reading content) ≡ None
unfolding reading
nothing_read group source content h = by_row (row_for (address_of content)) refl
  where
    by_values : (row : Formatter) (read : Result (List (Option Value)) ℕ) → carries row.formatter ≡ false → line_where group source (with_values row read) ≡ None
    by_values row (Ok values) plain = off (carries row.formatter) _ plain
    by_values row (Err bad) plain = refl

    by_row : (o : Option Formatter) → row_for (address_of content) ≡ o → line_where group source (read_as o (fields_of content)) ≡ None
    by_row None e = refl
    by_row (Some row) e =
        let named : row.formatter ≡ drop 2 (address_of content) = (named-good _ row (row_behind (address_of content) row e)).0 in
        by_values row (read_by row (fields_of content)) (ap carries named ∙ h)

pub nothing_carried : (group : ℕ) (line : LineReading) → is_carrier line ≡ false → line_in group line ≡ None
nothing_carried group (Good tags sentence) h = nothing_read group (unwrap_or tags.source (codes "-")) sentence.content h
nothing_carried group (Tag bad) h = refl
nothing_carried group (Sentence tags bad) h = refl

-- ---- a line that may carry a part says no value of its own

abbrev Silent : Option Formatter → Type 0
Silent None = Unit {0}
Silent (Some row) = row.columns ≡ []

other_silent : Silent (row_named (codes "VDM"))
unfolding table
other_silent = refl

own_silent : Silent (row_named (codes "VDO"))
unfolding table
own_silent = refl

carrier_silent : (formatter : List ℕ) → carries formatter ≡ true → Silent (row_named formatter)
carrier_silent formatter h = by_test (bytes_eq formatter (codes "VDM")) refl h
  where
    by_test : (t : Bool) → bytes_eq formatter (codes "VDM") ≡ t → (t || bytes_eq formatter (codes "VDO")) ≡ true → Silent (row_named formatter)
    by_test true e k = subst (λ (f : List ℕ). Silent (row_named f)) (sym ((bytes_eq-Decides formatter (codes "VDM")).0 e)) other_silent
    by_test false e k = subst (λ (f : List ℕ). Silent (row_named f)) (sym ((bytes_eq-Decides formatter (codes "VDO")).0 k)) own_silent

pub none_said : (content : List ℕ) → carries (drop 2 (address_of content)) ≡ true → values_where (reading content) ≡ []
unfolding reading
none_said content h = by_row (row_for (address_of content)) refl
  where
    by_values : (row : Formatter) (read : Result (List (Option Value)) ℕ) → row.columns ≡ [] → values_where (with_values row read) ≡ []
    by_values row (Ok values) none = ap (λ (columns : List Column). filter_map (said_by values) columns) none
    by_values row (Err bad) none = refl

    by_row : (o : Option Formatter) → row_for (address_of content) ≡ o → values_where (read_as o (fields_of content)) ≡ []
    by_row None e = refl
    by_row (Some row) e = by_values row (read_by row (fields_of content)) (subst Silent (row_behind (address_of content) row e) (carrier_silent (drop 2 (address_of content)) h))

-- The rows of the line are those of the message that ends with it.
pub ended_rows : (r : Record) (line : LineReading) (m : Message) → is_carrier line ≡ true
    → line_rows r line (Some m) ≡ carried_rows r line m
ended_rows r (Good tags sentence) m h =
    ap (λ (said : List Said). rows_of (heading_of r (unwrap_or tags.source (codes "-")) (address_of sentence.content)) (said ++ message_values (Some m))) (none_said sentence.content h)
ended_rows r (Tag bad) m h = refl
ended_rows r (Sentence tags bad) m h = refl

-- Nor has it a row where none ends.
pub no_rows : (r : Record) (line : LineReading) → is_carrier line ≡ true → line_rows r line None ≡ []
no_rows r (Good tags sentence) h =
    ap (λ (said : List Said). rows_of (heading_of r (unwrap_or tags.source (codes "-")) (address_of sentence.content)) (said ++ [])) (none_said sentence.content h)
no_rows r (Tag bad) h = refl
no_rows r (Sentence tags bad) h = refl

-- ---- by the bytes

neither : (a b : Bool) → (a || b) ≡ false → (a ≡ false) × (b ≡ false)
neither true b h = absurd (cc)
neither false b h = (refl, h)

both : (a b : Bool) → a ≡ false → b ≡ false → (a || b) ≡ false
both true b h k = absurd (cc)
both false b h k = k

-- One byte less to look through.
next_mentions : (s : Sought) (xs : List ℕ) (k : ℕ) → k + 2 < length xs
    → mentions s (drop k xs) ≡ (is_sought s (get_or xs k 0) (get_or xs (suc k) 0) (get_or xs (suc (suc k)) 0) || mentions s (drop (suc k) xs))
next_mentions s [] k within = absurd (omega (arith, within))
next_mentions s (a ∷ []) zero within = absurd (omega (arith, within))
next_mentions s (a ∷ b ∷ []) zero within = absurd (omega (arith, within))
next_mentions s (a ∷ b ∷ c ∷ xs) zero within = refl
next_mentions s (a ∷ xs) (suc k) within = next_mentions s xs k (omega (arith, within))

either_first : (a b c : Bool) → ((a || b) || c) ≡ (a || (b || c))
either_first true b c = refl
either_first false b c = refl

pub found_more : (s : Sought) (xs : List ℕ) (k i j : ℕ) (found : Bool) → k + 2 < length xs → i ≡ suc k → j ≡ suc (suc k) → (found || mentions s (drop k xs)) ≡ mentions s xs
    → ((found || is_sought s (get_or xs k 0) (get_or xs i 0) (get_or xs j 0)) || mentions s (drop i xs)) ≡ mentions s xs
found_more s xs k i j found within e1 e2 before =
    either_first found (is_sought s (get_or xs k 0) (get_or xs i 0) (get_or xs j 0)) (mentions s (drop i xs))
    ∙ (λ t. found || (is_sought s (get_or xs k 0) (get_or xs (e1 t) 0) (get_or xs (e2 t) 0) || mentions s (drop (e1 t) xs)))
    ∙ ap (λ (b : Bool). found || b) (sym (next_mentions s xs k within))
    ∙ before

few_mentioned : (s : Sought) (xs : List ℕ) → length xs ≤ 2 → mentions s xs ≡ false
few_mentioned s [] few = refl
few_mentioned s (a ∷ []) few = refl
few_mentioned s (a ∷ b ∷ []) few = refl
few_mentioned s (a ∷ b ∷ c ∷ xs) few = absurd (omega (arith, few))

pub found_all : (s : Sought) (xs : List ℕ) (k : ℕ) (found : Bool) → length xs ≤ k + 2 → (found || mentions s (drop k xs)) ≡ mentions s xs → found ≡ mentions s xs
found_all s xs k found end all = by_test found (few_mentioned s (drop k xs) (omega (arith, end, length-drop k xs))) all
  where
    by_test : (t : Bool) → mentions s (drop k xs) ≡ false → (t || mentions s (drop k xs)) ≡ mentions s xs → t ≡ mentions s xs
    by_test true none h = h
    by_test false none h = sym none ∙ h

-- Nothing that is looked for stands in the text.
abbrev Without : Sought → List ℕ → Type 0
Without s text = mentions s text ≡ false

abbrev AreWithout : Sought → List (List ℕ) → Type 0
AreWithout s [] = Unit {0}
AreWithout s (line ∷ lines) = Without s line × AreWithout s lines

begins_front : (s : Sought) (xs ys : List ℕ) → begins s (xs ++ ys) ≡ false → begins s xs ≡ false
begins_front s [] ys h = refl
begins_front s (a ∷ []) ys h = refl
begins_front s (a ∷ b ∷ []) ys h = refl
begins_front s (a ∷ b ∷ c ∷ xs) ys h = h

front_without : (s : Sought) (xs ys : List ℕ) → Without s (xs ++ ys) → Without s xs
front_without s [] ys h = refl
front_without s (x ∷ xs) ys h =
    let parts = neither (begins s (x ∷ (xs ++ ys))) (mentions s (xs ++ ys)) h in both _ _ (begins_front s (x ∷ xs) ys parts.0) (front_without s xs ys parts.1)

rest_without : (s : Sought) (xs ys : List ℕ) → Without s (xs ++ ys) → Without s ys
rest_without s [] ys h = h
rest_without s (x ∷ xs) ys h = rest_without s xs ys (neither (begins s (x ∷ (xs ++ ys))) (mentions s (xs ++ ys)) h).1

take_without : (s : Sought) (n : ℕ) (xs : List ℕ) → Without s xs → Without s (take n xs)
take_without s n xs h = front_without s (take n xs) (drop n xs) (subst (Without s) (sym (take-append-drop n xs)) h)

drop_without : (s : Sought) (n : ℕ) (xs : List ℕ) → Without s xs → Without s (drop n xs)
drop_without s n xs h = rest_without s (take n xs) (drop n xs) (subst (Without s) (sym (take-append-drop n xs)) h)

formatter_without : (s : Sought) (content : List ℕ) → Without s content → Without s (drop 2 (address_of content))
formatter_without s content h = drop_without s 2 (address_of content) (take_without s (position_or_len (λ b. (b == 44) || (b == 42)) content) content h)

-- So it is no formatter that is looked for.
pub not_named : (s : Sought) (text word : List ℕ) → mentions s word ≡ true → Without s text → bytes_eq text word ≡ false
not_named s text word has h = by_test (bytes_eq text word) refl
  where
    by_test : (t : Bool) → bytes_eq text word ≡ t → t ≡ false
    by_test true e = let same : text ≡ word = (bytes_eq-Decides text word).0 e in sym (sym h ∙ ap (mentions s) same ∙ has)
    by_test false e = refl

-- The content of a sentence is a part of it.
content_without : (s : Sought) (bytes : List ℕ) (text : SentenceText) → sentence_reading bytes ≡ Ok text → Without s bytes → Without s text.content
unfolding sentence_reading body
content_without s bytes text e h =
    by_refusal (first_refusal bytes) (record { start = slice_index bytes 0; content = covered (body bytes) }) e
    (take_without s (length (body bytes) - 3) (body bytes) (take_without s (length bytes - 3) (drop 1 bytes) (drop_without s 1 bytes h)))
  where
    by_refusal : (o : Option Bad) (made : SentenceText) → unless_refused o made ≡ Ok text → Without s made.content → Without s text.content
    by_refusal None made is plain = let same : made ≡ text = cc in subst (λ (t : SentenceText). Without s t.content) same plain
    by_refusal (Some bad) made is plain = absurd (cc)

-- The line is refused, or its formatter is none that is looked for.
abbrev pub IsPlain : Sought → LineReading → Type 0
IsPlain s (Good tags sentence) = Without s (drop 2 (address_of sentence.content))
IsPlain s (Tag bad) = Unit {0}
IsPlain s (Sentence tags bad) = Unit {0}

abbrev pub ArePlain : Sought → List LineSpan → Type 0
ArePlain s [] = Unit {0}
ArePlain s (span ∷ spans) = IsPlain s span.verdict × ArePlain s spans

line_plain : (s : Sought) (line : List ℕ) → Without s line → IsPlain s (line_reading line)
line_plain s line h = by_tags (tag_reading line)
  where
    by_sentence : (tags : TagValues) (bytes : List ℕ) (read : Result SentenceText Bad) → sentence_reading bytes ≡ read → Without s bytes → IsPlain s (with_sentence tags read)
    by_sentence tags bytes (Ok text) e plain = formatter_without s text.content (content_without s bytes text e plain)
    by_sentence tags bytes (Err bad) e plain = tt

    by_tags : (read : Result (TagValues × ℕ) BadTag) → IsPlain s (behind_tags line read)
    by_tags (Ok (tags, size)) = by_sentence tags (drop size line) (sentence_reading (drop size line)) refl (drop_without s size line h)
    by_tags (Err bad) = tt

-- ---- the lines of a datagram, one behind the other

begun_joined : (line : List ℕ) (lines : List (List ℕ)) → concat (and_lines line lines) ≡ line ++ concat lines
begun_joined [] lines = refl
begun_joined (b ∷ line) lines = refl

byte_joined : (ends : Bool) (b : ℕ) (later : List ℕ × List (List ℕ)) → (with_byte ends b later).0 ++ concat (with_byte ends b later).1 ≡ b ∷ (later.0 ++ concat later.1)
byte_joined true b later = ap (λ (xs : List ℕ). b ∷ xs) (begun_joined later.0 later.1)
byte_joined false b later = refl

cut_behind_joined : (cr : Bool) (bytes : List ℕ) → (cut_behind cr bytes).0 ++ concat (cut_behind cr bytes).1 ≡ bytes
cut_behind_joined cr [] = refl
cut_behind_joined cr (b ∷ bytes) = byte_joined (cr && b == 10) b (cut_behind (b == 13) bytes) ∙ ap (λ (xs : List ℕ). b ∷ xs) (cut_behind_joined (b == 13) bytes)

cut_joined : (bytes : List ℕ) → concat (cut bytes) ≡ bytes
unfolding cut
cut_joined bytes = begun_joined (cut_behind false bytes).0 (cut_behind false bytes).1 ∙ cut_behind_joined false bytes

lines_without : (s : Sought) (lines : List (List ℕ)) → Without s (concat lines) → AreWithout s lines
lines_without s [] h = tt
lines_without s (line ∷ lines) h = (front_without s line (concat lines) h, lines_without s lines (rest_without s line (concat lines) h))

spans_plain : (s : Sought) (at : ℕ) (lines : List (List ℕ)) → AreWithout s lines → ArePlain s (spans_from at lines)
spans_plain s at [] all = tt
spans_plain s at (line ∷ lines) all = (line_plain s line all.0, spans_plain s (at + length line) lines all.1)

-- A datagram that names nothing that is looked for has lines of other formatters alone.
pub all_plain : (s : Sought) (payload : List ℕ) → mentions s payload ≡ false → ArePlain s (line_spans payload)
all_plain s payload h = by_token (token payload)
  where
    by_token : (t : Token) → ArePlain s (spans_under t payload)
    by_token Sentences = spans_plain s 6 (cut (drop 6 payload)) (lines_without s (cut (drop 6 payload)) (subst (Without s) (sym (cut_joined (drop 6 payload))) (drop_without s 6 payload h)))
    by_token Image = tt
    by_token Pcm = tt
    by_token Other = tt
    by_token NoToken = tt

-- ---- parts of AIS messages

plain_carries : (text : List ℕ) → Without Parts text → carries text ≡ false
plain_carries text h = both _ _ (not_named Parts text (codes "VDM") refl h) (not_named Parts text (codes "VDO") refl h)

plain_carried : (group : ℕ) (line : LineReading) → IsPlain Parts line → line_in group line ≡ None
plain_carried group (Good tags sentence) h = nothing_read group (unwrap_or tags.source (codes "-")) sentence.content (plain_carries (drop 2 (address_of sentence.content)) h)
plain_carried group (Tag bad) h = refl
plain_carried group (Sentence tags bad) h = refl

none_carried : (group : ℕ) (spans : List LineSpan) → ArePlain Parts spans → filter_map (λ (span : LineSpan). line_in group span.verdict) spans ≡ []
none_carried group [] all = refl
none_carried group (span ∷ spans) all =
    ap (λ (o : Option Line). cons_option o (filter_map (λ (s : LineSpan). line_in group s.verdict) spans)) (plain_carried group span.verdict all.0) ∙ none_carried group spans all.1

-- It has no line that carries a part.
pub no_lines : (group : ℕ) (payload : List ℕ) → mentions Parts payload ≡ false → lines_in group payload ≡ []
no_lines group payload h = none_carried group (line_spans payload) (all_plain Parts payload h)
