use Rattle.std.proofs.Common.{◌≡◌, ◌∙◌, ◌++◌, ℕ, Option, ap, false, option_and_then, option_map, option_to_list, sym, subst}
use Rattle.std.specs.Prelude.{OnOk}
use Rattle.std.specs.Io.KnownBytes.{Appends}
use Rattle.vdr_datagram.specs.Verdicts.{LineReading}
use Rattle.vdr_datagram.specs.Views.{verdict_of}
use Rattle.vdr_ais.specs.Bits.{Message}
use Rattle.vdr_ais.specs.Views.{message_of}
use Rattle.vdr_outside.specs.Writes.{AppendsFront}
use Rattle.vdr_terms.specs.Records.{Record}
use Rattle.vdr_ais.specs.Lines.{Line}
use Rattle.vdr_ais.specs.Messages.{message_behind}
use Rattle.vdr_ais.specs.Pending.{HasRead}
use Rattle.vdr_rows.specs.Seeking.{is_carrier}
use Rattle.vdr_rows.specs.Tables.{back_with, ended_at, line_rows}
use Rattle.vdr_rows.specs.Texts.{rows_text}
use Rattle.vdr_rows.proofs.Carried.{nothing_carried}
use Rattle.vdr_rows.proofs.lines.print_line.Goals as goal

pub returns-then-not-is_carrier-clause-read : goal.returns-then-not-is_carrier-clause-read
returns-then-not-is_carrier-clause-read g c = λ back h.
    let no : is_carrier (verdict_of c.args.verdict.now) ≡ false = sym c.is_carrier.ensures ∙ c.if-not-is_carrier.true in
    subst (λ (o : Option Line). HasRead (option_to_list o ++ back) c.args.unfinished.now) (sym (nothing_carried c.args.item.now.group (verdict_of c.args.verdict.now) no)) h

pub returns-then-not-is_carrier-clause-all : goal.returns-then-not-is_carrier-clause-all
returns-then-not-is_carrier-clause-all g c = λ back h.
    let no : is_carrier (verdict_of c.args.verdict.now) ≡ false = sym c.is_carrier.ensures ∙ c.if-not-is_carrier.true in
    subst (λ (o : Option Line). OnOk c.print_said.result (Appends (g.O.Sink.taken c.args.out.now) (g.O.Sink.taken c.print_said.new.out) (rows_text (line_rows c.args.item.now (verdict_of c.args.verdict.now) (option_and_then (message_behind back) o)))))
    (sym (nothing_carried c.args.item.now.group (verdict_of c.args.verdict.now) no)) c.print_said.ensures.all

pub returns-then-not-is_carrier-clause-front : goal.returns-then-not-is_carrier-clause-front
returns-then-not-is_carrier-clause-front g c = λ back h.
    let no : is_carrier (verdict_of c.args.verdict.now) ≡ false = sym c.is_carrier.ensures ∙ c.if-not-is_carrier.true in
    subst (λ (o : Option Line). AppendsFront (g.O.Sink.taken c.args.out.now) (g.O.Sink.taken c.print_said.new.out) (rows_text (line_rows c.args.item.now (verdict_of c.args.verdict.now) (option_and_then (message_behind back) o))))
    (sym (nothing_carried c.args.item.now.group (verdict_of c.args.verdict.now) no)) c.print_said.ensures.front

pub print_carrier-requires : goal.print_carrier-requires
print_carrier-requires g c = sym c.is_carrier.ensures ∙ c.if-not-is_carrier.false

pub returns-clause-read : goal.returns-clause-read
returns-clause-read g c = λ back h.
    let group : c.item.inside.group ≡ c.args.item.now.group = ap (λ (r : Record). r.group) c.item.view_is in
    subst (λ (n : ℕ). HasRead (back_with back n (verdict_of c.args.verdict.now)) c.take_line-ended.new.self) group (c.take_line-ended.ensures.read back h)

pub returns-clause-all : goal.returns-clause-all
returns-clause-all g c = λ back h.
    let r : Record = c.args.item.now in
    let v : LineReading = verdict_of c.args.verdict.now in
    let group : c.item.inside.group ≡ r.group = ap (λ (e : Record). e.group) c.item.view_is in
    let ended : option_map message_of c.take_line-ended.result ≡ ended_at back r.group v =
    subst (λ (n : ℕ). option_map message_of c.take_line-ended.result ≡ ended_at back n v) group (c.take_line-ended.ensures.ended back h) in
    subst (λ (o : Option Message). OnOk c.print_carrier.result (Appends (g.O.Sink.taken c.args.out.now) (g.O.Sink.taken c.print_carrier.new.out) (rows_text (line_rows r v o)))) ended c.print_carrier.ensures.all

pub returns-clause-front : goal.returns-clause-front
returns-clause-front g c = λ back h.
    let r : Record = c.args.item.now in
    let v : LineReading = verdict_of c.args.verdict.now in
    let group : c.item.inside.group ≡ r.group = ap (λ (e : Record). e.group) c.item.view_is in
    let ended : option_map message_of c.take_line-ended.result ≡ ended_at back r.group v =
    subst (λ (n : ℕ). option_map message_of c.take_line-ended.result ≡ ended_at back n v) group (c.take_line-ended.ensures.ended back h) in
    subst (λ (o : Option Message). AppendsFront (g.O.Sink.taken c.args.out.now) (g.O.Sink.taken c.print_carrier.new.out) (rows_text (line_rows r v o))) ended c.print_carrier.ensures.front
