-- The lines of a datagram, printed one after another.
use Rattle.std.proofs.Common.{◌≡◌, ◌<◌, ◌+◌, ℕ, List, [], ◌∷◌, ◌++◌, length, take, drop, get_or, map, sym, ap, ◌∙◌, add-one, drop-cons, refl}
use Rattle.std.specs.List.{flat_map}
use Rattle.std.proofs.lemmas.Grind.{flat_map-append}
use Rattle.std.proofs.lemmas.List.{take-append-drop, map-append, append-nil}
use Rattle.vdr_datagram.specs.Verdicts.{LineSpan}
use Rattle.vdr_datagram.specs.Views.{span_of}
use Rattle.vdr_datagram.specs.declared.line.Line.{Line}
use Rattle.vdr_play.specs.Texts.{verdict_text}

abbrev pub texts : List LineSpan → List ℕ
texts lines = flat_map verdict_text lines

-- one line more
pub texts-more : (done : List Line) (line : Line) → texts (map span_of (done ++ line ∷ [])) ≡ texts (map span_of done) ++ verdict_text (span_of line)
texts-more done line =
    ap texts (map-append span_of done (line ∷ [])) ∙ flat_map-append verdict_text (map span_of done) (span_of line ∷ [])
    ∙ ap (λ (xs : List ℕ). texts (map span_of done) ++ xs) (append-nil (verdict_text (span_of line)))

-- all the lines, split at one of them
pub texts-at : (all : List LineSpan) (done : List Line) (line : Line) → map span_of done ≡ take (length done) all
    → (length done < length all) × (span_of line ≡ get_or all (length done) (span_of line))
    → texts all ≡ texts (map span_of done) ++ (verdict_text (span_of line) ++ texts (drop (length done + 1) all))
texts-at all done line so_far turn =
    let n : ℕ = length done in
    let within : length done < length all = turn.0 in
    let rest : drop (length done) all ≡ get_or all (length done) (span_of line) ∷ drop (length done + 1) all = rw (add-one, drop-cons all (length done) (span_of line)) refl in
    let split : all ≡ map span_of done ++ (span_of line ∷ drop (length done + 1) all) =
    sym (take-append-drop (length done) all)
    ∙ ap (λ (xs : List LineSpan). xs ++ drop (length done) all) (sym so_far)
    ∙ ap (λ (xs : List LineSpan). map span_of done ++ xs) (rest ∙ ap (λ (x : LineSpan). x ∷ drop (length done + 1) all) (sym turn.1)) in
    ap texts split ∙ flat_map-append verdict_text (map span_of done) (span_of line ∷ drop (length done + 1) all)
