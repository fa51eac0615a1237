use Rattle.std.proofs.Common.{◌≡◌, ◌∙◌, [], ℕ, List, Option, option_map, ap, sym, subst}
use Rattle.std.specs.Prelude.{OnOk}
use Rattle.std.specs.Io.KnownBytes.{Appends}
use Rattle.std.proofs.KnownBytes.{Appends-nil}
use Rattle.vdr_datagram.specs.Verdicts.{LineReading}
use Rattle.vdr_datagram.specs.Views.{verdict_of}
use Rattle.vdr_ais.specs.declared.message.Message.{Message}
use Rattle.vdr_ais.specs.Views.{message_of}
use Rattle.vdr_outside.specs.Writes.{AppendsFront}
use Rattle.vdr_terms.specs.Records.{Record}
use Rattle.vdr_rows.specs.Seeking.{carried_rows}
use Rattle.vdr_rows.specs.Tables.{line_rows}
use Rattle.vdr_rows.specs.Texts.{rows_text}
use Rattle.vdr_rows.proofs.Carried.{ended_rows, no_rows}
use Rattle.vdr_rows.proofs.lines.print_carrier.Goals as goal

pub returns-in-Some-clause-all : goal.returns-in-Some-clause-all
returns-in-Some-clause-all g c =
    let r : Record = c.args.item.now in
    let v : LineReading = verdict_of c.args.verdict.now in
    let rows : rows_text (line_rows r v (option_map message_of c.args.ended.now)) ≡ rows_text (carried_rows r v (message_of c.in-Some.message)) =
    ap (λ (o : Option Message). rows_text (line_rows r v (option_map message_of o))) c.in-Some.is ∙ ap rows_text (ended_rows r v (message_of c.in-Some.message) c.requires) in
    subst (λ (text : List ℕ). OnOk c.print_ended.result (Appends (g.O.Sink.taken c.args.out.now) (g.O.Sink.taken c.print_ended.new.out) text)) (sym rows) c.print_ended.ensures.all

pub returns-in-Some-clause-front : goal.returns-in-Some-clause-front
returns-in-Some-clause-front g c =
    let r : Record = c.args.item.now in
    let v : LineReading = verdict_of c.args.verdict.now in
    let rows : rows_text (line_rows r v (option_map message_of c.args.ended.now)) ≡ rows_text (carried_rows r v (message_of c.in-Some.message)) =
    ap (λ (o : Option Message). rows_text (line_rows r v (option_map message_of o))) c.in-Some.is ∙ ap rows_text (ended_rows r v (message_of c.in-Some.message) c.requires) in
    subst (λ (text : List ℕ). AppendsFront (g.O.Sink.taken c.args.out.now) (g.O.Sink.taken c.print_ended.new.out) text) (sym rows) c.print_ended.ensures.front

pub returns-in-None-clause-all : goal.returns-in-None-clause-all
returns-in-None-clause-all g c =
    let r : Record = c.args.item.now in
    let v : LineReading = verdict_of c.args.verdict.now in
    let rows : rows_text (line_rows r v (option_map message_of c.args.ended.now)) ≡ [] =
    ap (λ (o : Option Message). rows_text (line_rows r v (option_map message_of o))) c.in-None.is ∙ ap rows_text (no_rows r v c.requires) in
    subst (λ (text : List ℕ). Appends (g.O.Sink.taken c.args.out.now) (g.O.Sink.taken c.args.out.now) text) (sym rows) (Appends-nil (g.O.Sink.taken c.args.out.now))

pub returns-in-None-clause-front : goal.returns-in-None-clause-front
returns-in-None-clause-front g c =
    let r : Record = c.args.item.now in
    let v : LineReading = verdict_of c.args.verdict.now in
    let rows : rows_text (line_rows r v (option_map message_of c.args.ended.now)) ≡ [] =
    ap (λ (o : Option Message). rows_text (line_rows r v (option_map message_of o))) c.in-None.is ∙ ap rows_text (no_rows r v c.requires) in
    ([], [], rows, Appends-nil (g.O.Sink.taken c.args.out.now))
