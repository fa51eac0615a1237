use Rattle.std.proofs.Common.{◌∙◌, ℕ, List, [], map, length, sym, ap, subst, arith}
use Rattle.std.proofs.lemmas.List.{append-nil}
use Rattle.std.proofs.lemmas.Iterator.Consumers.{YieldsList-from_first, YieldsList-so_far, YieldsList-turn, YieldsList-end}
use Rattle.std.proofs.KnownBytes.{Appends-trans}
use Rattle.std.specs.Io.KnownBytes.{Appends}
use Rattle.vdr_terms.specs.Records.{Record}
use Rattle.vdr_datagram.specs.Verdicts.{LineSpan, line_spans}
use Rattle.vdr_datagram.specs.Views.{lines_left, span_of}
use Rattle.vdr_outside.proofs.Known.{front-more}
use Rattle.vdr_ais.specs.Lines.{Line, line_in}
use Rattle.vdr_ais.specs.Pending.{HasPlace, HasRead}
use Rattle.vdr_rows.specs.Tables.{back_by, lines_rows}
use Rattle.vdr_rows.specs.Texts.{rows_text}
use Rattle.vdr_rows.proofs.LineLemmas.{back_more, found_at, one_text, text_at, text_more}
use Rattle.vdr_rows.proofs.lines.print_lines.Goals as goal

pub print_line-requires : goal.print_line-requires
print_line-requires g c =
    let all : List LineSpan = line_spans c.args.payload.now in
    let road = YieldsList-from_first span_of lines_left all (ap lines_left c.into_iter-line-iterator.ensures.into_iter_gives ∙ c.lines-line-items.ensures) in
    let turn = YieldsList-turn road c.loop-line.yielded _ c.loop-line.yielded_by c.next.result c.next.new.self c.in-Some.line c.in-Some.is c.next.ensures.steps in
    λ part carried. c.loop-line.invariant.places part.key
    (found_at (λ (l : Line). HasPlace c.args.unfinished.now l.key) (λ (s : LineSpan). line_in c.args.item.now.group s.verdict) all (length c.loop-line.yielded) (span_of c.in-Some.line) part c.requires turn.0 turn.1 carried)

pub returns-in_err-print_line-clause-front : goal.returns-in_err-print_line-clause-front
returns-in_err-print_line-clause-front g c = λ back h.
    let r : Record = c.args.item.now in
    let all : List LineSpan = line_spans c.args.payload.now in
    let road = YieldsList-from_first span_of lines_left all (ap lines_left c.into_iter-line-iterator.ensures.into_iter_gives ∙ c.lines-line-items.ensures) in
    let so_far = YieldsList-so_far road c.loop-line.yielded _ c.loop-line.yielded_by in
    let turn = YieldsList-turn road c.loop-line.yielded _ c.loop-line.yielded_by c.next.result c.next.new.self c.in-Some.line c.in-Some.is c.next.ensures.steps in
    let before : List Line = back_by back r.group (map span_of c.loop-line.yielded) in
    front-more _ _ _ (rows_text (lines_rows back r (map span_of c.loop-line.yielded))) (one_text before r (span_of c.in-Some.line)) _ _ (text_at back r all c.loop-line.yielded c.in-Some.line so_far turn)
    (c.loop-line.invariant.written back h)
    (c.in_err-print_line.ensures.front before (c.loop-line.invariant.read back h))

pub loop-line-preserved : goal.loop-line-preserved
loop-line-preserved g c =
    let r : Record = c.args.item.now in
    let now = c.loop-line.invariant in
    record {
      read = λ back h.
          let before : List Line = back_by back r.group (map span_of c.loop-line.yielded) in
          subst (λ (lines : List Line). HasRead lines c.print_line.new.unfinished) (sym (back_more back r.group c.loop-line.yielded c.in-Some.line)) (c.print_line.ensures.read before (now.read back h));
      written = λ back h.
          let before : List Line = back_by back r.group (map span_of c.loop-line.yielded) in
          subst (λ (xs : List ℕ). Appends (g.O.Sink.taken c.args.out.now) (g.O.Sink.taken c.print_line.new.out) xs) (sym (text_more back r c.loop-line.yielded c.in-Some.line))
          (Appends-trans _ _ _ _ _ (now.written back h) (c.in_ok-print_line.ensures.all before (now.read back h)));
      places = λ key has. c.print_line.ensures.places key (now.places key has);
      later = let more = c.print_line.ensures.cause.later in omega (arith, now.later, more);
    }

pub returns-clause-read : goal.returns-clause-read
returns-clause-read g c = λ back h.
    let all : List LineSpan = line_spans c.args.payload.now in
    let road = YieldsList-from_first span_of lines_left all (ap lines_left c.into_iter-line-iterator.ensures.into_iter_gives ∙ c.lines-line-items.ensures) in
    let end = YieldsList-end road c.loop-line.yielded _ c.loop-line.yielded_by c.next.result c.next.new.self c.in-None.is c.next.ensures.steps in
    subst (λ (spans : List LineSpan). HasRead (back_by back c.args.item.now.group spans) c.loop-line.unfinished) end.0 (c.loop-line.invariant.read back h)

pub returns-clause-all : goal.returns-clause-all
returns-clause-all g c = λ back h.
    let all : List LineSpan = line_spans c.args.payload.now in
    let road = YieldsList-from_first span_of lines_left all (ap lines_left c.into_iter-line-iterator.ensures.into_iter_gives ∙ c.lines-line-items.ensures) in
    let end = YieldsList-end road c.loop-line.yielded _ c.loop-line.yielded_by c.next.result c.next.new.self c.in-None.is c.next.ensures.steps in
    subst (λ (spans : List LineSpan). Appends (g.O.Sink.taken c.args.out.now) (g.O.Sink.taken c.loop-line.out) (rows_text (lines_rows back c.args.item.now spans))) end.0 (c.loop-line.invariant.written back h)

pub returns-clause-front : goal.returns-clause-front
returns-clause-front g c = λ back h.
    let all : List LineSpan = line_spans c.args.payload.now in
    let done : List ℕ = rows_text (lines_rows back c.args.item.now (map span_of c.loop-line.yielded)) in
    let road = YieldsList-from_first span_of lines_left all (ap lines_left c.into_iter-line-iterator.ensures.into_iter_gives ∙ c.lines-line-items.ensures) in
    let end = YieldsList-end road c.loop-line.yielded _ c.loop-line.yielded_by c.next.result c.next.new.self c.in-None.is c.next.ensures.steps in
    (done, [], ap (λ (spans : List LineSpan). rows_text (lines_rows back c.args.item.now spans)) (sym end.0) ∙ sym (append-nil done), c.loop-line.invariant.written back h)
