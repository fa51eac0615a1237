use Rattle.std.proofs.Common.{[], ap, sym}
use Rattle.std.proofs.KnownBytes.{Appends-nil}
use Rattle.vdr_ais.specs.Views.{message_of}
use Rattle.vdr_rows.specs.Reported.{kind_of, report_values}
use Rattle.vdr_rows.specs.Tables.{rows_of}
use Rattle.vdr_rows.specs.Texts.{rows_text}
use Rattle.vdr_rows.specs.Views.{heading_said}
use Rattle.vdr_rows.proofs.reported.print_message.Goals as goal

pub returns-in-None-clause-front : goal.returns-in-None-clause-front
returns-in-None-clause-front g c =
    ([], [], ap (λ o. rows_text (rows_of (heading_said c.args.heading.now) (report_values (kind_of (message_of c.args.message.now)) o))) (sym c.in-None.ensures), Appends-nil (g.O.Sink.taken c.args.out.now))
