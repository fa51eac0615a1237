use Rattle.std.proofs.Common.{◌++◌}
use Rattle.vdr_entry.specs.Queries.{asked}
use Rattle.vdr_vault.proofs.Stretched.{closed_on, order_on, still_held, still_later}
use Rattle.vdr_vault.proofs.stretch.law_of_stretches.Goals as goal

pub returns-clause-later : goal.returns-clause-later
returns-clause-later g c opening before later query s vault placed readable closed =
    still_later opening before later (asked query) s (order_on opening (before ++ later) vault placed (g.M.Media.disk c.args.media.now) readable query.medium) closed

pub returns-clause-onward : goal.returns-clause-onward
returns-clause-onward g c opening events query s t up same closed = closed_on opening events (asked query) s t up same closed

pub returns-clause-held : goal.returns-clause-held
returns-clause-held g c opening events query s vault placed readable holds = still_held opening events vault placed (g.M.Media.disk c.args.media.now) readable query s holds
