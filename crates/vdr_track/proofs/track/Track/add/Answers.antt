use Rattle.std.proofs.Common.{◌++◌, List, ℕ, [], refl, ap, sym, subst}
use Rattle.std.proofs.KnownBytes.{Appends-nil}
use Rattle.std.proofs.lemmas.List.{append-nil}
use Rattle.std.proofs.lemmas.Result.{on_ok_weaker}
use Rattle.vdr_outside.specs.Writes.{AppendsFront}
use Rattle.vdr_outside.proofs.Known.{front-more}
use Rattle.vdr_track.specs.Segments.{open_behind}
use Rattle.vdr_track.specs.Steps.{steps_in}
use Rattle.vdr_track.specs.Texts.{line_at, opening_behind, steps_text}
use Rattle.vdr_track.proofs.Beginning.{drawn_more}
use Rattle.vdr_track.proofs.track.Track.add.Goals as goal

pub returns-in_err-begin-clause-front : goal.returns-in_err-begin-clause-front
returns-in_err-begin-clause-front g c source seen drawn =
    front-more _ _ _ [] (opening_behind source seen) (steps_text (open_behind source seen) (steps_in source c.args.item.now)) (line_at source seen c.args.item.now) refl (Appends-nil _) (c.in_err-begin.ensures.front source seen drawn)

pub returns-clause-drawn : goal.returns-clause-drawn
returns-clause-drawn g c source seen drawn =
    on_ok_weaker c.follow_record.result (λ left. drawn_more source seen c.args.item.now _ c.args.self.now.last drawn.source_is refl drawn.last_is left) c.follow_record.ensures.opened

pub returns-clause-front : goal.returns-clause-front
returns-clause-front g c source seen drawn =
    let text : List ℕ = steps_text (open_behind source seen) (steps_in source c.args.item.now) in
    front-more _ _ _ (opening_behind source seen) text [] (line_at source seen c.args.item.now) (ap (λ (t : List ℕ). opening_behind source seen ++ t) (sym (append-nil text))) (c.in_ok-begin.ensures.all source seen drawn)
    (subst (λ (t : List ℕ). AppendsFront (g.O.Sink.taken c.begin.new.out) (g.O.Sink.taken c.follow_record.new.out) t) (λ i. steps_text (drawn.last_is i) (steps_in (drawn.source_is i) c.args.item.now)) c.follow_record.ensures.front)
