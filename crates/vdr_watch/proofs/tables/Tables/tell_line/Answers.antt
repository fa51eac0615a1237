use Rattle.std.proofs.Common.{◌≡◌, ◌∙◌, [], Option, None, refl, rules, subst, sym}
use Rattle.std.specs.List.{cons_option}
use Rattle.std.specs.Io.KnownBytes.{Appends}
use Rattle.vdr_datagram.specs.Views.{verdict_of}
use Rattle.vdr_outside.specs.Writes.{AppendsFront}
use Rattle.vdr_alerts.specs.Views.{board_value}
use Rattle.vdr_watch.specs.Kept.{AreKept}
use Rattle.vdr_watch.specs.Signs.{Sign, sign_in}
use Rattle.vdr_watch.specs.Supervision.{met_after}
use Rattle.vdr_watch.specs.Texts.{signs_text}
use Rattle.vdr_watch.proofs.Unwatched.{nothing_shown}
use Rattle.vdr_watch.proofs.tables.Tables.tell_line.Goals as goal

pub returns-then-not-is_watched-clause-kept : goal.returns-then-not-is_watched-clause-kept
returns-then-not-is_watched-clause-kept g c met keeps =
    let no : sign_in c.args.group c.args.mark.now.tick (verdict_of c.args.verdict.now) ≡ None = nothing_shown _ _ _ (sym c.is_watched.ensures ∙ c.if-not-is_watched.true) in
    subst (λ (o : Option Sign). AreKept (met_after met (cons_option o [])) c.args.self.now.heartbeats.items c.args.self.now.alarms.items (board_value c.args.self.now.board)) (sym no) keeps

pub returns-then-not-is_watched-clause-all : goal.returns-then-not-is_watched-clause-all
returns-then-not-is_watched-clause-all g c met keeps =
    let no : sign_in c.args.group c.args.mark.now.tick (verdict_of c.args.verdict.now) ≡ None = nothing_shown _ _ _ (sym c.is_watched.ensures ∙ c.if-not-is_watched.true) in
    let nothing : Appends (g.O.Sink.taken c.args.out.now) (g.O.Sink.taken c.args.out.now) [] = search rules in
    subst (λ (o : Option Sign). Appends (g.O.Sink.taken c.args.out.now) (g.O.Sink.taken c.args.out.now) (signs_text c.args.mark.now met (cons_option o []))) (sym no) nothing

pub returns-then-not-is_watched-clause-front : goal.returns-then-not-is_watched-clause-front
returns-then-not-is_watched-clause-front g c met keeps =
    let no : sign_in c.args.group c.args.mark.now.tick (verdict_of c.args.verdict.now) ≡ None = nothing_shown _ _ _ (sym c.is_watched.ensures ∙ c.if-not-is_watched.true) in
    let nothing : Appends (g.O.Sink.taken c.args.out.now) (g.O.Sink.taken c.args.out.now) [] = search rules in
    subst (λ (o : Option Sign). AppendsFront (g.O.Sink.taken c.args.out.now) (g.O.Sink.taken c.args.out.now) (signs_text c.args.mark.now met (cons_option o []))) (sym no) ([], [], refl, nothing)
