use Rattle.std.proofs.Common.{inl}
use Rattle.vdr_vault.proofs.Ours.{ours_at_rest, ours_on, ours_sound}
use Rattle.vdr_vault.proofs.life_law.law_of_ours.Goals as goal

pub returns-clause-on : goal.returns-clause-on
returns-clause-on g c = ours_on (g.M.Media.disk c.args.before.now) (g.M.Media.disk c.args.after.now)

pub returns-clause-stopped : goal.returns-clause-stopped
returns-clause-stopped g c image stays left rest = ours_at_rest image (g.M.Media.disk c.args.started.now) (stays.each image left) rest

pub returns-clause-begun : goal.returns-clause-begun
returns-clause-begun g c image unformatted rest = ours_at_rest image (g.M.Media.disk c.args.started.now) (inl unformatted) rest

pub returns-clause-sound : goal.returns-clause-sound
returns-clause-sound g c = ours_sound (g.M.Media.disk c.args.started.now)
