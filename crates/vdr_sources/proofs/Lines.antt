-- The lines of a datagram: no more than its bytes, each with a name of fifteen bytes at most.
use Rattle.std.proofs.Common.{◌≡◌, ◌≤◌, ◌<◌, ◌+◌, ◌∙◌, ◌++◌, ℕ, zero, suc, ℤ, Bool, true, false, List, [], ◌∷◌, length, map, drop, fold, get_or, sym, ap, subst, refl, arith, w64, FitsSigned, ◌&&◌, ◌==◌}
use Rattle.std.proofs.lemmas.Int.{ints}
use Rattle.std.proofs.lemmas.List.{append-nil, length-drop, map-append}
use Rattle.std.proofs.lemmas.List.Sums.{fold-append}
use Rattle.vdr_terms.specs.Stamps.{IsStamp}
use Rattle.vdr_terms.specs.Records.{Content, Record}
use Rattle.vdr_terms.specs.Records.Content.{Datagram}
use Rattle.vdr_terms.proofs.Stamping.{stamp_fits}
use Rattle.vdr_datagram.specs.declared.line.Line.{Line}
use Rattle.vdr_datagram.specs.declared.tokens.Token.{Token}
use Rattle.vdr_datagram.specs.declared.tokens.Token.TheVariants.{Sentences, Image, Pcm, Other, NoToken}
use Rattle.vdr_datagram.specs.Lines.{and_lines, cut, cut_behind, with_byte}
use Rattle.vdr_datagram.specs.Tokens.{token}
use Rattle.vdr_datagram.specs.Verdicts.{LineSpan, line_spans, spans_from, spans_under}
use Rattle.vdr_datagram.specs.Views.{span_of}
use Rattle.vdr_durability.specs.Sources.{Line as ALine, Row, readings_of, with_line}
use Rattle.vdr_sources.specs.Rows.{line_told, lines_at}
use Rattle.vdr_sources.specs.Tables.{lines_in, with_record, read_lines, reading_of}
use Rattle.vdr_sources.proofs.Names.{line_short}

fewer : (line : List ℕ) (lines : List (List ℕ)) → length lines ≤ length (and_lines line lines)
fewer [] lines = omega arith
fewer (b ∷ line) lines = omega arith

few_behind : (cr : Bool) (bytes : List ℕ) → length (and_lines (cut_behind cr bytes).0 (cut_behind cr bytes).1) ≤ length bytes
few_behind cr [] = omega arith
few_behind cr (b ∷ bytes) = go (cr && b == 10) (cut_behind (b == 13) bytes) (few_behind (b == 13) bytes)
  where
    go : (ends : Bool) (later : List ℕ × List (List ℕ)) → length (and_lines later.0 later.1) ≤ length bytes
        → length (and_lines (with_byte ends b later).0 (with_byte ends b later).1) ≤ length (b ∷ bytes)
    go true later p = omega (arith, p)
    go false later p = let q = fewer later.0 later.1 in omega (arith, p, q)

few_cut : (bytes : List ℕ) → length (cut bytes) ≤ length bytes
unfolding cut
few_cut bytes = few_behind false bytes

as_many : (at : ℕ) (lines : List (List ℕ)) → length (spans_from at lines) ≡ length lines
as_many at [] = refl
as_many at (line ∷ lines) = ap suc (as_many (at + length line) lines)

under_few : (t : Token) (bytes : List ℕ) → length (spans_under t bytes) ≤ length bytes
under_few Sentences bytes =
    let a = as_many 6 (cut (drop 6 bytes)) in
    let b = few_cut (drop 6 bytes) in
    let c = length-drop 6 bytes in
    omega (arith, a, b, c)
under_few Image bytes = omega arith
under_few Pcm bytes = omega arith
under_few Other bytes = omega arith
under_few NoToken bytes = omega arith

pub spans_few : (bytes : List ℕ) → length (line_spans bytes) ≤ length bytes
spans_few bytes = under_few (token bytes) bytes

abbrev NamedShort : LineSpan → Type 0
NamedShort span = length (reading_of span.verdict).name ≤ 15

from_short : (at : ℕ) (lines : List (List ℕ)) (i : ℕ) (d : LineSpan) → i < length (spans_from at lines) → NamedShort (get_or (spans_from at lines) i d)
from_short at [] i d lt = absurd (omega (arith, lt))
from_short at (line ∷ lines) zero d lt = line_short line
from_short at (line ∷ lines) (suc i) d lt = from_short (at + length line) lines i d (omega (arith, lt))

under_short : (t : Token) (bytes : List ℕ) (i : ℕ) (d : LineSpan) → i < length (spans_under t bytes) → NamedShort (get_or (spans_under t bytes) i d)
under_short Sentences bytes i d lt = from_short 6 (cut (drop 6 bytes)) i d lt
under_short Image bytes i d lt = absurd (omega (arith, lt))
under_short Pcm bytes i d lt = absurd (omega (arith, lt))
under_short Other bytes i d lt = absurd (omega (arith, lt))
under_short NoToken bytes i d lt = absurd (omega (arith, lt))

pub span_short : (bytes : List ℕ) (i : ℕ) (span : LineSpan) → i < length (line_spans bytes) → span ≡ get_or (line_spans bytes) i span → NamedShort span
span_short bytes i span lt is = subst NamedShort (sym is) (under_short (token bytes) bytes i span lt)

-- The line that a span counts for.
abbrev pub counted_as : ℕ → ℤ → LineSpan → ALine
counted_as group utc span = line_told group utc (reading_of span.verdict)

-- One more line.
pub one_more : (group : ℕ) (utc : ℤ) (before now new : List Row) (done : List Line) (line : Line) → now ≡ fold with_line before (map (counted_as group utc) (map span_of done))
    → new ≡ with_line now (counted_as group utc (span_of line)) → new ≡ fold with_line before (map (counted_as group utc) (map span_of (done ++ line ∷ [])))
one_more group utc before now new done line so_far is =
    is
    ∙ ap (λ (rows : List Row). with_line rows (counted_as group utc (span_of line))) so_far
    ∙ sym (ap (λ (spans : List LineSpan). fold with_line before (map (counted_as group utc) spans)) (map-append span_of done (line ∷ []))
    ∙ ap (fold with_line before) (map-append (counted_as group utc) (map span_of done) (span_of line ∷ []))
    ∙ fold-append with_line before (map (counted_as group utc) (map span_of done)) (counted_as group utc (span_of line) ∷ []))

-- All lines.
pub all_counted : (group : ℕ) (utc : ℤ) (payload : List ℕ) → map (counted_as group utc) (line_spans payload) ≡ lines_at group utc (read_lines payload)
all_counted group utc payload = go (line_spans payload)
  where
    go : (spans : List LineSpan) → map (counted_as group utc) spans ≡ lines_at group utc (map (λ s. reading_of s.verdict) spans)
    go [] = refl
    go (span ∷ spans) = ap (λ (ls : List ALine). counted_as group utc span ∷ ls) (go spans)

-- The lines of a record alone.
pub of_record : (r : Record) (payload : List ℕ) → Datagram payload ≡ r.content → lines_at r.group r.utc (read_lines payload) ≡ lines_in (r ∷ [])
of_record r payload is =
    sym (append-nil (lines_at r.group r.utc (read_lines payload)))
    ∙ ap (λ (content : Content). lines_at r.group r.utc (readings_of read_lines content) ++ []) is

-- Records counted one after another.
pub by_records : (rows : List Row) (records : List Record) → fold with_record rows records ≡ fold with_line rows (lines_in records)
by_records rows [] = refl
by_records rows (r ∷ records) =
    by_records (with_record rows r) records
    ∙ sym (ap (fold with_line rows) (ap (λ (ls : List ALine). ls ++ lines_in records) (sym (append-nil (of_one r)))) ∙ fold-append with_line rows (of_one r ++ []) (lines_in records))
  where
    of_one : Record → List ALine
    of_one r = map (λ l. record { source = record { group = r.group; name = l.name }; utc = r.utc; count = l.count; good = l.good }) (readings_of read_lines r.content)
