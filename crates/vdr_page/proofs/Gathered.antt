-- What lines tell, one after another.
use Rattle.std.proofs.Common.{◌≡◌, ◌∙◌, ◌++◌, ℕ, List, [], ◌∷◌, Option, None, Some, map, option_map, refl, sym, ap, append_assoc}
use Rattle.std.specs.Prelude.{option_to_list}
use Rattle.std.specs.List.{cons_option, filter_map, flat_map}
use Rattle.std.proofs.lemmas.List.{append-nil, map-append}
use Rattle.vdr_datagram.specs.Verdicts.{LineSpan}
use Rattle.vdr_datagram.specs.Views.{span_of}
use Rattle.vdr_datagram.specs.declared.line.Line.{Line as Given}
use Rattle.vdr_ais.specs.Bits.{Message}
use Rattle.vdr_ais.specs.Lines.{Line}
use Rattle.vdr_rows.specs.Tables.{back_by, back_with, ended_at}
use Rattle.vdr_page.specs.Tellings.{Telling, line_tellings, lines_tellings}

first_told : {N T : Type 0} (f : N → T) (o : Option N) (told : List T) (later : List N) → told ≡ map f later → option_to_list (option_map f o) ++ told ≡ map f (cons_option o later)
first_told f None told later e = e
first_told f (Some n) told later e = ap (λ l. f n ∷ l) e

pub told_columns : {C N T : Type 0} (f : N → T) (g : C → Option N) (cs : List C) → flat_map (λ (c : C). option_to_list (option_map f (g c))) cs ≡ map f (filter_map g cs)
told_columns f g [] = refl
told_columns f g (c ∷ cs) = first_told f (g c) _ (filter_map g cs) (told_columns f g cs)

-- Lines before others.
lines_split : (back : List Line) (group : ℕ) (done rest : List LineSpan) → lines_tellings back group (done ++ rest) ≡ lines_tellings back group done ++ lines_tellings (back_by back group done) group rest
lines_split back group [] rest = refl
lines_split back group (span ∷ done) rest =
    let first : List Telling = line_tellings group span.verdict (ended_at back group span.verdict) in
    let behind : List Line = back_with back group span.verdict in
    ap (λ (told : List Telling). first ++ told) (lines_split behind group done rest)
    ∙ sym (append_assoc first (lines_tellings behind group done) (lines_tellings (back_by behind group done) group rest))

-- One line more.
pub tellings_more : (back : List Line) (group : ℕ) (done : List Given) (line : Given) (ended : Option Message) (none before all : List Telling)
    → ended ≡ ended_at (back_by back group (map span_of done)) group (span_of line).verdict
    → before ≡ none ++ lines_tellings back group (map span_of done) → all ≡ before ++ line_tellings group (span_of line).verdict ended
    → all ≡ none ++ lines_tellings back group (map span_of (done ++ line ∷ []))
tellings_more back group done line ended none before all ended_is before_is all_is =
    let spans : List LineSpan = map span_of done in
    let last : List Line = back_by back group spans in
    let one : List Telling = line_tellings group (span_of line).verdict (ended_at last group (span_of line).verdict) in
    all_is ∙ (λ i. before_is i ++ line_tellings group (span_of line).verdict (ended_is i))
    ∙ append_assoc none (lines_tellings back group spans) one
    ∙ ap (λ (told : List Telling). none ++ told)
    (ap (λ (told : List Telling). lines_tellings back group spans ++ told) (sym (append-nil one)) ∙ sym (lines_split back group spans (span_of line ∷ []))
    ∙ sym (ap (λ (spans : List LineSpan). lines_tellings back group spans) (map-append span_of done (line ∷ []))))
