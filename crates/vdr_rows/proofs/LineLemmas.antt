-- The rows of lines, one line after another.
use Rattle.std.proofs.Common.{◌≡◌, ◌∙◌, ◌<◌, ◌+◌, ℕ, zero, suc, All, List, [], ◌∷◌, ◌++◌, length, take, drop, get_or, map, Option, Some, None, refl, sym, ap, subst, arith, append_assoc, add-one, drop-cons}
use Rattle.std.specs.List.{cons_option, filter_map}
use Rattle.std.proofs.lemmas.List.Sums.{fold-append}
use Rattle.std.proofs.lemmas.List.{append-nil, map-append, take-append-drop}
use Rattle.std.proofs.lemmas.List.Elements.{All-head, All-tail}
use Rattle.vdr_terms.specs.Records.{Record}
use Rattle.vdr_datagram.specs.Verdicts.{LineSpan}
use Rattle.vdr_datagram.specs.Views.{span_of}
use Rattle.vdr_datagram.specs.declared.line.Line.{Line as Given}
use Rattle.vdr_ais.specs.Lines.{Line}
use Rattle.vdr_rows.specs.Tables.{back_by, back_with, ended_at, line_rows, lines_rows}
use Rattle.vdr_rows.specs.Texts.{Row, rows_text}
use Rattle.vdr_rows.proofs.RowLemmas.{texts_append}

-- Lines before others.
lines_split : (back : List Line) (r : Record) (done rest : List LineSpan) → lines_rows back r (done ++ rest) ≡ lines_rows back r done ++ lines_rows (back_by back r.group done) r rest
lines_split back r [] rest = refl
lines_split back r (span ∷ done) rest =
    let first : List Row = line_rows r span.verdict (ended_at back r.group span.verdict) in
    let behind : List Line = back_with back r.group span.verdict in
    ap (λ (rows : List Row). first ++ rows) (lines_split behind r done rest)
    ∙ sym (append_assoc first (lines_rows behind r done) (lines_rows (back_by behind r.group done) r rest))

pub text_split : (back : List Line) (r : Record) (done rest : List LineSpan)
    → rows_text (lines_rows back r (done ++ rest)) ≡ rows_text (lines_rows back r done) ++ rows_text (lines_rows (back_by back r.group done) r rest)
text_split back r done rest = ap rows_text (lines_split back r done rest) ∙ texts_append (lines_rows back r done) (lines_rows (back_by back r.group done) r rest)

abbrev pub one_text : (back : List Line) → Record → LineSpan → List ℕ
one_text back r span = rows_text (line_rows r span.verdict (ended_at back r.group span.verdict))

-- One line more.
pub text_more : (back : List Line) (r : Record) (done : List Given) (line : Given)
    → rows_text (lines_rows back r (map span_of (done ++ line ∷ []))) ≡ rows_text (lines_rows back r (map span_of done)) ++ one_text (back_by back r.group (map span_of done)) r (span_of line)
text_more back r done line =
    let before : List LineSpan = map span_of done in
    let one : List Row = line_rows r (span_of line).verdict (ended_at (back_by back r.group before) r.group (span_of line).verdict) in
    ap (λ (spans : List LineSpan). rows_text (lines_rows back r spans)) (map-append span_of done (line ∷ []))
    ∙ text_split back r before (span_of line ∷ [])
    ∙ ap (λ (rows : List Row). rows_text (lines_rows back r before) ++ rows_text rows) (append-nil one)

pub back_more : (back : List Line) (group : ℕ) (done : List Given) (line : Given)
    → back_by back group (map span_of (done ++ line ∷ [])) ≡ back_with (back_by back group (map span_of done)) group (span_of line).verdict
back_more back group done line =
    ap (back_by back group) (map-append span_of done (line ∷ []))
    ∙ fold-append (λ (before : List Line) (span : LineSpan). back_with before group span.verdict) back (map span_of done) (span_of line ∷ [])

-- All lines, split at one of them.
pub text_at : (back : List Line) (r : Record) (all : List LineSpan) (done : List Given) (line : Given) → map span_of done ≡ take (length done) all
    → (length done < length all) × (span_of line ≡ get_or all (length done) (span_of line))
    → rows_text (lines_rows back r all)
    ≡ rows_text (lines_rows back r (map span_of done))
    ++ (one_text (back_by back r.group (map span_of done)) r (span_of line)
    ++ rows_text (lines_rows (back_with (back_by back r.group (map span_of done)) r.group (span_of line).verdict) r (drop (length done + 1) all)))
text_at back r all done line so_far turn =
    let before : List LineSpan = map span_of done in
    let rest : List LineSpan = drop (length done + 1) all in
    let within : length done < length all = turn.0 in
    let cut : drop (length done) all ≡ get_or all (length done) (span_of line) ∷ rest = rw (add-one, drop-cons all (length done) (span_of line)) refl in
    let split : all ≡ before ++ (span_of line ∷ rest) =
    sym (take-append-drop (length done) all)
    ∙ ap (λ (xs : List LineSpan). xs ++ drop (length done) all) (sym so_far)
    ∙ ap (λ (xs : List LineSpan). before ++ xs) (cut ∙ ap (λ (x : LineSpan). x ∷ rest) (sym turn.1)) in
    let one : List Row = line_rows r (span_of line).verdict (ended_at (back_by back r.group before) r.group (span_of line).verdict) in
    ap (λ (spans : List LineSpan). rows_text (lines_rows back r spans)) split
    ∙ text_split back r before (span_of line ∷ rest)
    ∙ ap (λ (text : List ℕ). rows_text (lines_rows back r before) ++ text)
    (texts_append one (lines_rows (back_with (back_by back r.group before) r.group (span_of line).verdict) r rest))

-- What holds of all that is found holds of what is found at one.
first_found : {Y : Type 0} (P : Y → Type 0) (o : Option Y) (y : Y) (rest : List Y) → o ≡ Some y → All P (cons_option o rest) → P y
first_found P o y rest is all = All-head P y rest (subst (λ p. All P (cons_option p rest)) is all)

others_found : {Y : Type 0} (P : Y → Type 0) (o : Option Y) (rest : List Y) → All P (cons_option o rest) → All P rest
others_found P None rest all = all
others_found P (Some y) rest all = All-tail P y rest all

pub found_at : {X Y : Type 0} (P : Y → Type 0) (f : X → Option Y) (xs : List X) (k : ℕ) (x : X) (y : Y) → All P (filter_map f xs) → k < length xs → x ≡ get_or xs k x → f x ≡ Some y → P y
found_at P f [] k x y all within at is = absurd (omega (arith, within))
found_at P f (z ∷ xs) zero x y all within at is = first_found P (f z) y (filter_map f xs) (ap f (sym at) ∙ is) all
found_at P f (z ∷ xs) (suc k) x y all within at is = found_at P f xs k x y (others_found P (f z) (filter_map f xs) all) (omega (arith, within)) at is
