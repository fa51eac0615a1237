use Rattle.std.proofs.Common.{◌∙◌, ap}
use Rattle.std.proofs.lemmas.Result.{on_ok_weaker}
use Rattle.vdr_page.specs.Gaps.{gap_rows}
use Rattle.vdr_page.specs.Runs.{open_rows}
use Rattle.vdr_page.proofs.Opening.{joined}
use Rattle.vdr_page.proofs.ledger.Ledger.push_open.Goals as goal

pub returns : goal.returns
returns c step o keeps =
    on_ok_weaker c.push_gaps.result
    (λ last. joined c.args.text.now.items (open_rows c.rows.result.now) (gap_rows c.args.self.now.slots) (open_rows o.rows) (gap_rows o.marks) c.push_open_runs.new.text.items c.push_gaps.new.text.items
    c.in_ok-push_open_runs.ensures last (ap open_rows (c.rows.ensures ∙ keeps.rows_are)) (ap gap_rows keeps.marks_are))
    c.push_gaps.ensures
