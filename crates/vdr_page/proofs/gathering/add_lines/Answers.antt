use Rattle.std.proofs.Common.{◌≡◌, ◌∙◌, ◌++◌, ℕ, List, map, length, option_map, sym, ap, subst}
use Rattle.std.proofs.lemmas.Iterator.Consumers.{YieldsList-from_first, YieldsList-turn, YieldsList-end}
use Rattle.vdr_datagram.specs.Verdicts.{LineSpan, line_spans}
use Rattle.vdr_datagram.specs.Views.{lines_left, span_of}
use Rattle.vdr_ais.specs.Lines.{Line, line_in}
use Rattle.vdr_ais.specs.Pending.{HasPlace, HasRead}
use Rattle.vdr_ais.specs.Views.{message_of}
use Rattle.vdr_rows.specs.Tables.{back_by, ended_at}
use Rattle.vdr_rows.proofs.LineLemmas.{back_more, found_at}
use Rattle.vdr_page.specs.Tellings.{lines_tellings}
use Rattle.vdr_page.specs.TellingViews.{telling_of}
use Rattle.vdr_page.proofs.Gathered.{tellings_more}
use Rattle.vdr_page.proofs.gathering.add_lines.Goals as goal

pub message_at-ended-requires : goal.message_at-ended-requires
message_at-ended-requires c =
    let all : List LineSpan = line_spans c.args.payload.now in
    let road = YieldsList-from_first span_of lines_left all (ap lines_left c.into_iter-line-iterator.ensures.into_iter_gives ∙ c.lines-line-items.ensures) in
    let turn = YieldsList-turn road c.loop-line.yielded _ c.loop-line.yielded_by c.next.result c.next.new.self c.in-Some.line c.in-Some.is c.next.ensures.steps in
    λ part carried. c.loop-line.invariant.places part.key
    (found_at (λ (l : Line). HasPlace c.args.unfinished.now l.key) (λ (s : LineSpan). line_in c.args.group s.verdict) all (length c.loop-line.yielded) (span_of c.in-Some.line) part c.requires.room turn.0 turn.1 carried)

pub loop-line-preserved : goal.loop-line-preserved
loop-line-preserved c =
    let group : ℕ = c.args.group in
    let now = c.loop-line.invariant in
    record {
      read = λ back h.
          subst (λ (lines : List Line). HasRead lines c.message_at-ended.new.unfinished) (sym (back_more back group c.loop-line.yielded c.in-Some.line))
          (c.message_at-ended.ensures.read (back_by back group (map span_of c.loop-line.yielded)) (now.read back h));
      told = λ back h.
          let before : List Line = back_by back group (map span_of c.loop-line.yielded) in
          let ended : option_map message_of c.message_at-ended.result ≡ ended_at before group (span_of c.in-Some.line).verdict = c.message_at-ended.ensures.ended before (now.read back h) in
          tellings_more back group c.loop-line.yielded c.in-Some.line _ _ _ _ ended (now.told back h) c.in_ok-add_line.ensures;
      places = λ key has. c.message_at-ended.ensures.places key (now.places key has);
    }

pub returns-clause-read : goal.returns-clause-read
returns-clause-read c = λ back h.
    let all : List LineSpan = line_spans c.args.payload.now in
    let road = YieldsList-from_first span_of lines_left all (ap lines_left c.into_iter-line-iterator.ensures.into_iter_gives ∙ c.lines-line-items.ensures) in
    let end = YieldsList-end road c.loop-line.yielded _ c.loop-line.yielded_by c.next.result c.next.new.self c.in-None.is c.next.ensures.steps in
    subst (λ (spans : List LineSpan). HasRead (back_by back c.args.group spans) c.loop-line.unfinished) end.0 (c.loop-line.invariant.read back h)

pub returns-clause-told : goal.returns-clause-told
returns-clause-told c = λ back h.
    let all : List LineSpan = line_spans c.args.payload.now in
    let road = YieldsList-from_first span_of lines_left all (ap lines_left c.into_iter-line-iterator.ensures.into_iter_gives ∙ c.lines-line-items.ensures) in
    let end = YieldsList-end road c.loop-line.yielded _ c.loop-line.yielded_by c.next.result c.next.new.self c.in-None.is c.next.ensures.steps in
    subst (λ (spans : List LineSpan). map telling_of c.loop-line.into.items ≡ map telling_of c.args.into.now.items ++ lines_tellings back c.args.group spans) end.0 (c.loop-line.invariant.told back h)
