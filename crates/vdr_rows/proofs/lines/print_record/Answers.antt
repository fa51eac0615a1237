use Rattle.std.proofs.Common.{All, subst, sym}
use Rattle.std.specs.Prelude.{OnOk}
use Rattle.std.specs.Io.KnownBytes.{Appends}
use Rattle.vdr_terms.specs.Records.{Content}
use Rattle.vdr_outside.specs.Writes.{AppendsFront}
use Rattle.vdr_ais.specs.Lines.{lines_of}
use Rattle.vdr_ais.specs.Pending.{HasPlace, HasRead}
use Rattle.vdr_rows.specs.Tables.{back_behind, content_rows}
use Rattle.vdr_rows.specs.Texts.{rows_text}
use Rattle.vdr_rows.proofs.lines.print_record.Goals as goal

pub print_lines-requires : goal.print_lines-requires
print_lines-requires g c =
    subst (λ (content : Content). All (λ line. HasPlace c.args.unfinished.now line.key) (lines_of c.args.item.now.group content)) (sym c.in-Datagram.ensures.said) c.requires

pub returns-in-Datagram-clause-read : goal.returns-in-Datagram-clause-read
returns-in-Datagram-clause-read g c = λ back h.
    subst (λ (content : Content). OnOk c.print_lines.result (HasRead (back_behind back c.args.item.now.group content) c.print_lines.new.unfinished)) c.in-Datagram.ensures.said (c.print_lines.ensures.read back h)

pub returns-in-Datagram-clause-all : goal.returns-in-Datagram-clause-all
returns-in-Datagram-clause-all g c = λ back h.
    subst (λ (content : Content). OnOk c.print_lines.result (Appends (g.O.Sink.taken c.args.out.now) (g.O.Sink.taken c.print_lines.new.out) (rows_text (content_rows back c.args.item.now content)))) c.in-Datagram.ensures.said
    (c.print_lines.ensures.all back h)

pub returns-in-Datagram-clause-front : goal.returns-in-Datagram-clause-front
returns-in-Datagram-clause-front g c = λ back h.
    subst (λ (content : Content). AppendsFront (g.O.Sink.taken c.args.out.now) (g.O.Sink.taken c.print_lines.new.out) (rows_text (content_rows back c.args.item.now content))) c.in-Datagram.ensures.said
    (c.print_lines.ensures.front back h)
