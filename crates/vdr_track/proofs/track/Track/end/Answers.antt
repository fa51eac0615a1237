use Rattle.std.proofs.Common.{◌∙◌, ◌++◌, List, ℕ, [], Option, ap, sym, subst, append_assoc}
use Rattle.std.proofs.KnownBytes.{Appends-nil}
use Rattle.std.proofs.lemmas.List.{append-nil}
use Rattle.vdr_outside.specs.Writes.{AppendsFront}
use Rattle.vdr_outside.proofs.Known.{front-more}
use Rattle.vdr_track.specs.Segments.{open_behind}
use Rattle.vdr_track.specs.Texts.{closing, last_lines, left_text, opening_behind}
use Rattle.vdr_track.specs.declared.point.Point.{Point}
use Rattle.vdr_track.proofs.track.Track.end.Goals as goal

pub returns-in_err-begin-clause-front : goal.returns-in_err-begin-clause-front
returns-in_err-begin-clause-front g c source seen drawn =
    front-more _ _ _ [] (opening_behind source seen) (left_text (open_behind source seen) ++ closing) (last_lines source seen) (append_assoc (opening_behind source seen) (left_text (open_behind source seen)) closing) (Appends-nil _)
    (c.in_err-begin.ensures.front source seen drawn)

pub returns-clause-front : goal.returns-clause-front
returns-clause-front g c source seen drawn =
    let left : List ℕ = left_text (open_behind source seen) in
    let text : List ℕ = left ++ closing in
    front-more _ _ _ (opening_behind source seen) text [] (last_lines source seen)
    (append_assoc (opening_behind source seen) left closing ∙ ap (λ (t : List ℕ). opening_behind source seen ++ t) (sym (append-nil text))) (c.in_ok-begin.ensures.all source seen drawn)
    (subst (λ (t : List ℕ). AppendsFront (g.O.Sink.taken c.begin.new.out) (g.O.Sink.taken c.write_all.new.sink) t)
    (c.as_slice.ensures.value ∙ c.closing_text.ensures ∙ ap (λ (o : Option Point). left_text o ++ closing) drawn.last_is) c.write_all.ensures.front)
