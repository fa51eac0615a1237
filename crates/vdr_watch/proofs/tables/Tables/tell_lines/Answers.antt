use Rattle.std.proofs.Common.{◌∙◌, ◌∷◌, [], List, ℕ, suc, length, map, ap, subst, sym, arith}
use Rattle.std.specs.Io.KnownBytes.{Appends}
use Rattle.std.proofs.KnownBytes.{Appends-trans}
use Rattle.std.proofs.lemmas.Iterator.Consumers.{YieldsList-from_first, YieldsList-so_far, YieldsList-turn, YieldsList-end}
use Rattle.std.proofs.lemmas.List.{append-nil, length-append}
use Rattle.vdr_datagram.specs.Verdicts.{LineSpan, line_spans}
use Rattle.vdr_datagram.specs.Views.{lines_left, span_of}
use Rattle.vdr_outside.proofs.Known.{front-more}
use Rattle.vdr_sources.proofs.Lines.{span_short, spans_few}
use Rattle.vdr_watch.specs.Signs.{Sign}
use Rattle.vdr_watch.specs.Supervision.{met_after}
use Rattle.vdr_watch.specs.TableViews.{Keeps}
use Rattle.vdr_alerts.specs.Lines.{Mark}
use Rattle.vdr_watch.specs.Texts.{signs_text}
use Rattle.vdr_watch.proofs.Keeping.{room_less}
use Rattle.vdr_watch.proofs.Lines.{along_more, met_more, rest_text, sign_at, signs_along, text_at, text_more}
use Rattle.vdr_watch.proofs.tables.Tables.tell_lines.Goals as goal

pub tell_line-requires-clause-room : goal.tell_line-requires-clause-room
tell_line-requires-clause-room g c =
    let all : List LineSpan = line_spans c.args.payload.now in
    let road = YieldsList-from_first span_of lines_left all (ap lines_left c.into_iter-line-iterator.ensures.into_iter_gives ∙ c.lines-line-items.ensures) in
    let turn = YieldsList-turn road c.loop-line.yielded _ c.loop-line.yielded_by c.next.result c.next.new.self c.in-Some.line c.in-Some.is c.next.ensures.steps in
    let few = spans_few c.args.payload.now in
    c.loop-line.invariant.room 1 (room_less c.args.self.now _ _ c.requires.room (omega (arith, turn.0, few)))

pub tell_line-requires-clause-short : goal.tell_line-requires-clause-short
tell_line-requires-clause-short g c =
    let all : List LineSpan = line_spans c.args.payload.now in
    let road = YieldsList-from_first span_of lines_left all (ap lines_left c.into_iter-line-iterator.ensures.into_iter_gives ∙ c.lines-line-items.ensures) in
    let turn = YieldsList-turn road c.loop-line.yielded _ c.loop-line.yielded_by c.next.result c.next.new.self c.in-Some.line c.in-Some.is c.next.ensures.steps in
    span_short c.args.payload.now (length c.loop-line.yielded) (span_of c.in-Some.line) turn.0 turn.1

pub returns-in_err-tell_line-clause-front : goal.returns-in_err-tell_line-clause-front
returns-in_err-tell_line-clause-front g c met keeps =
    let all : List LineSpan = line_spans c.args.payload.now in
    let road = YieldsList-from_first span_of lines_left all (ap lines_left c.into_iter-line-iterator.ensures.into_iter_gives ∙ c.lines-line-items.ensures) in
    let so_far = YieldsList-so_far road c.loop-line.yielded _ c.loop-line.yielded_by in
    let turn = YieldsList-turn road c.loop-line.yielded _ c.loop-line.yielded_by c.next.result c.next.new.self c.in-Some.line c.in-Some.is c.next.ensures.steps in
    let m : Mark = c.args.mark.now in
    let signs : List Sign = signs_along c.args.group m.tick (map span_of c.loop-line.yielded) in
    front-more _ _ _ (signs_text m met signs) (signs_text m (met_after met signs) (sign_at c.args.group m.tick c.in-Some.line)) (rest_text c.args.group m.tick all c.loop-line.yielded c.in-Some.line so_far turn m met) _
    (text_at c.args.group m.tick all c.loop-line.yielded c.in-Some.line so_far turn m met) (c.loop-line.invariant.written met keeps) (c.in_err-tell_line.ensures.front (met_after met signs) (c.loop-line.invariant.kept met keeps))

pub loop-line-preserved : goal.loop-line-preserved
loop-line-preserved g c =
    let i = c.loop-line.invariant in
    let told = c.in_ok-tell_line.ensures in
    let more = along_more c.args.group c.args.mark.now.tick c.loop-line.yielded c.in-Some.line in
    let m : Mark = c.args.mark.now in
    let signs : List Sign = signs_along c.args.group m.tick (map span_of c.loop-line.yielded) in
    let one : List Sign = sign_at c.args.group m.tick c.in-Some.line in
    record {
      some = (met_after i.some.0 one, told.kept i.some.0 i.some.1);
      kept = λ met keeps. subst (λ (xs : List Sign). Keeps xs c.tell_line.new.self) (sym (ap (met_after met) more ∙ met_more met signs one)) (told.kept (met_after met signs) (i.kept met keeps));
      written = λ met keeps. subst (λ (xs : List ℕ). Appends (g.O.Sink.taken c.args.out.now) (g.O.Sink.taken c.tell_line.new.out) xs) (sym (ap (signs_text m met) more ∙ text_more m met signs one))
          (Appends-trans _ _ _ _ _ (i.written met keeps) (told.all (met_after met signs) (i.kept met keeps)));
      room = λ n room. let size = length-append c.loop-line.yielded (c.in-Some.line ∷ []) in c.tell_line.ensures.room n (i.room (suc n) (room_less c.args.self.now _ _ room (omega (arith, size))));
      later = let cause = c.tell_line.ensures.cause.later in omega (arith, i.later, cause);
    }

pub returns-clause-kept : goal.returns-clause-kept
returns-clause-kept g c met keeps =
    let all : List LineSpan = line_spans c.args.payload.now in
    let road = YieldsList-from_first span_of lines_left all (ap lines_left c.into_iter-line-iterator.ensures.into_iter_gives ∙ c.lines-line-items.ensures) in
    let end = YieldsList-end road c.loop-line.yielded _ c.loop-line.yielded_by c.next.result c.next.new.self c.in-None.is c.next.ensures.steps in
    subst (λ (spans : List LineSpan). Keeps (met_after met (signs_along c.args.group c.args.mark.now.tick spans)) c.loop-line.self) end.0 (c.loop-line.invariant.kept met keeps)

pub returns-clause-all : goal.returns-clause-all
returns-clause-all g c met keeps =
    let all : List LineSpan = line_spans c.args.payload.now in
    let road = YieldsList-from_first span_of lines_left all (ap lines_left c.into_iter-line-iterator.ensures.into_iter_gives ∙ c.lines-line-items.ensures) in
    let end = YieldsList-end road c.loop-line.yielded _ c.loop-line.yielded_by c.next.result c.next.new.self c.in-None.is c.next.ensures.steps in
    subst (λ (spans : List LineSpan). Appends (g.O.Sink.taken c.args.out.now) (g.O.Sink.taken c.loop-line.out) (signs_text c.args.mark.now met (signs_along c.args.group c.args.mark.now.tick spans))) end.0
    (c.loop-line.invariant.written met keeps)

pub returns-clause-front : goal.returns-clause-front
returns-clause-front g c met keeps =
    let all : List LineSpan = line_spans c.args.payload.now in
    let road = YieldsList-from_first span_of lines_left all (ap lines_left c.into_iter-line-iterator.ensures.into_iter_gives ∙ c.lines-line-items.ensures) in
    let end = YieldsList-end road c.loop-line.yielded _ c.loop-line.yielded_by c.next.result c.next.new.self c.in-None.is c.next.ensures.steps in
    let m : Mark = c.args.mark.now in
    let signs : List Sign = signs_along c.args.group m.tick (map span_of c.loop-line.yielded) in
    let text : List ℕ = signs_text m met signs in
    (text, [], ap (λ (spans : List LineSpan). signs_text m met (signs_along c.args.group m.tick spans)) (sym end.0) ∙ sym (append-nil text), c.loop-line.invariant.written met keeps)
