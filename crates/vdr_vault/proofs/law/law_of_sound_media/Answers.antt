use Rattle.vdr_vault.proofs.SoundMedia.{sound_as, sound_nothing}
use Rattle.vdr_vault.proofs.law.law_of_sound_media.Goals as goal

pub returns-clause-empty : goal.returns-clause-empty
returns-clause-empty c = sound_nothing

pub returns-clause-same : goal.returns-clause-same
returns-clause-same c = sound_as
