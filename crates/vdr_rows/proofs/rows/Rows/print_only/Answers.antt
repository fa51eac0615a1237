use Rattle.std.proofs.Common.{refl, option_map}
use Rattle.vdr_datagram.specs.Views.{verdict_of}
use Rattle.vdr_ais.specs.Views.{message_of}
use Rattle.vdr_rows.specs.Tables.{header_behind, line_rows}
use Rattle.vdr_rows.specs.Texts.{rows_text}
use Rattle.vdr_rows.proofs.Printing.{first_front, last_all, last_front}
use Rattle.vdr_rows.proofs.rows.Rows.print_only.Goals as goal

pub returns-in_err-print_header-clause-front : goal.returns-in_err-print_header-clause-front
returns-in_err-print_header-clause-front g c = λ seen h.
    first_front _ _ (header_behind seen) (rows_text (line_rows c.args.item.now (verdict_of c.args.line.now) (option_map message_of c.args.ended.now))) _ refl (c.in_err-print_header.ensures.front seen h)

pub returns-clause-all : goal.returns-clause-all
returns-clause-all g c = λ seen h.
    last_all _ _ _ _ (header_behind seen) (rows_text (line_rows c.args.item.now (verdict_of c.args.line.now) (option_map message_of c.args.ended.now))) _ refl (c.in_ok-print_header.ensures.all seen h) c.print_carrier.ensures.all

pub returns-clause-front : goal.returns-clause-front
returns-clause-front g c = λ seen h.
    last_front _ _ _ (header_behind seen) (rows_text (line_rows c.args.item.now (verdict_of c.args.line.now) (option_map message_of c.args.ended.now))) _ refl (c.in_ok-print_header.ensures.all seen h) c.print_carrier.ensures.front
