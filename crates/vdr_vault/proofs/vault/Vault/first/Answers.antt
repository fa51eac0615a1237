use Rattle.std.proofs.Common.{Option, subst}
use Rattle.vdr_durability.specs.Playback.{medium_of, selected}
use Rattle.vdr_entry.specs.Queries.{asked}
use Rattle.vdr_ring.specs.declared.cursor.Standing.{Standing}
use Rattle.vdr_ring.specs.Budgets.{Spends}
use Rattle.vdr_vault.specs.Plays.{budget_for}
use Rattle.vdr_vault.proofs.Coming.{selected_to_come}
use Rattle.vdr_vault.proofs.Stepping.{steps_first}
use Rattle.vdr_vault.proofs.vault.Vault.first.Goals as goal

pub returns-clause-plays : goal.returns-clause-plays
returns-clause-plays g c opening events placed told stands =
    c.next.ensures.plays opening events placed (selected opening events (asked c.args.query.now)) told stands
    (selected_to_come opening events c.args.self.now placed (g.M.Media.disk c.args.media.now) stands (c.law_of_playback.ensures.retained opening events) c.args.query.now c.new.result c.new.ensures.standing)

pub returns-clause-spends : goal.returns-clause-spends
returns-clause-spends g c =
    let query = asked c.args.query.now in
    subst (λ (o : Option Standing). Spends (medium_of query.medium) (budget_for c.args.self.now query o) (budget_for c.next.new.self query c.next.new.cursor.standing) (g.M.Media.bytes_read c.args.media.now)
    (g.M.Media.bytes_read c.next.new.media) c.next.result) c.new.ensures.standing c.next.ensures.spends

pub returns-clause-steps : goal.returns-clause-steps
returns-clause-steps g c =
    steps_first g.M.Media (asked c.args.query.now) c.args.self.now c.next.new.self c.new.result c.next.new.cursor c.args.media.now c.next.new.media
    c.next.result c.new.ensures.standing c.new.ensures.slot
    c.next.ensures.steps
