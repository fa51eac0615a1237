use Rattle.vdr_durability.specs.Playback.{medium_of}
use Rattle.vdr_entry.specs.Queries.{asked}
use Rattle.vdr_vault.specs.Plays.{ring_for}
use Rattle.vdr_vault.proofs.Budgeting.{span_same, whole_of_segments}
use Rattle.vdr_vault.proofs.Coming.{holds_on}
use Rattle.vdr_vault.proofs.play.law_of_budgets.Goals as goal

pub returns : goal.returns
returns g c query opening events vault placed readable =
    let tells = (holds_on opening events vault placed (g.M.Media.disk c.args.media.now) readable query.medium).reads.directory in
    whole_of_segments (asked query) vault placed (span_same vault placed (asked query).medium tells.ending)
    (λ span. c.law_of_budget.ensures (asked query) span (ring_for vault (asked query)) (placed (medium_of (asked query).medium)) tells)
