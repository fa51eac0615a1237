use Rattle.vdr_vault.proofs.Lives.{life_incidents, life_ours, life_places, life_stopped, life_windows}
use Rattle.vdr_vault.proofs.life_law.law_of_lives.Goals as goal

pub returns-clause-ours : goal.returns-clause-ours
returns-clause-ours c = life_ours

pub returns-clause-windows : goal.returns-clause-windows
returns-clause-windows c = life_windows

pub returns-clause-incidents : goal.returns-clause-incidents
returns-clause-incidents c = life_incidents

pub returns-clause-places : goal.returns-clause-places
returns-clause-places c = life_places

pub returns-clause-stopped : goal.returns-clause-stopped
returns-clause-stopped c = life_stopped
