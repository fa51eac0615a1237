use Rattle.vdr_export.proofs.Paging.{handed_any}
use Rattle.vdr_export.proofs.pages.print_rows.Goals as goal

pub returns-clause-handed : goal.returns-clause-handed
returns-clause-handed g c = handed_any c.visit_buffered.result (c.visit_buffered.ensures.handed (record c.new-printer.result { survey = c.args.survey }) c.new-printer.ensures)
