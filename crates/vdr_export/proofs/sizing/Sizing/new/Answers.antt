use Rattle.std.proofs.Common.{refl}
use Rattle.vdr_export.proofs.sizing.Sizing.new.Goals as goal

pub returns : goal.returns
unfolding Rattle.vdr_export.specs.Sounds.sound_after
returns c = record { uniform = refl; rate = refl; track = c.new.ensures; bytes = refl }
