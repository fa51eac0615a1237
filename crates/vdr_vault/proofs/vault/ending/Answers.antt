use Rattle.vdr_terms.specs.Records.{last}
use Rattle.vdr_directory.specs.Sequence.{all_records}
use Rattle.vdr_vault.proofs.vault.ending.Goals as goal
use Rattle.vdr_vault.proofs.ShownPlaces.{next_is, next_is_low, next_known_low}

pub returns-in-Some-clause-next_place : goal.returns-in-Some-clause-next_place
returns-in-Some-clause-next_place c placed bytes tells holds =
    next_is (last (all_records placed)) c.last.result _ _ _ _ (c.last.ensures.last placed tells) c.in-Some.is c.saturating_add.ensures (next_is_low _ _ placed bytes holds)

pub returns-in-Some-clause-next_known : goal.returns-in-Some-clause-next_known
returns-in-Some-clause-next_known c known bytes tells are =
    next_is (last (all_records known)) c.last.result _ _ _ _ (c.last.ensures.known known tells) c.in-Some.is c.saturating_add.ensures (next_known_low _ _ known bytes are)
