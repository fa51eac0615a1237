use Rattle.std.proofs.Common.{◌∙◌}
use Rattle.std.proofs.lemmas.Result.{on_ok_weaker}
use Rattle.vdr_page.proofs.Holding.{last_told}
use Rattle.vdr_page.proofs.printer.PagePrinter.close.Goals as goal

pub returns-clause-text : goal.returns-clause-text
returns-clause-text c survey seen told =
    on_ok_weaker c.push_end.result
    (λ ended. last_told survey c.rows.result.now seen _ _ _ _ _ (c.rows.ensures ∙ told.sources_are) c.clear.ensures.items (c.in_ok-push_open.ensures _ _ told.open_is) (c.in_ok-push_watch_end.ensures.text seen told.watch_is) c.in_ok-push_sources.ensures ended)
    c.push_end.ensures
