use Rattle.std.proofs.Common.{◌≡◌, ◌↔◌, ◌∷◌, length, true, false}
use Rattle.vdr_outside.specs.Disk.{Overwritten, content}
use Rattle.vdr_memory.specs.Media.{disk_of}
use Rattle.vdr_memory.specs.Steps.{Left}
use Rattle.vdr_memory.specs.Steps.Step.{write, sync}
use Rattle.vdr_memory.proofs.Changes.{along}
use Rattle.vdr_memory.proofs.laws.law_of_images.Goals as goal

pub returns-clause-writes : goal.returns-clause-writes
returns-clause-writes c old next new m at bytes done r i =
    along (λ start steps. Left start steps i ↔ Overwritten m at (length bytes) (disk_of old).now i) old.trace.start new.trace.start (write m at bytes done ∷ old.trace.steps) new.trace.steps r.grows.start r.grows.steps ((λ left. left), (λ left. left))

pub returns-clause-syncs : goal.returns-clause-syncs
returns-clause-syncs c old next new m r i =
    along (λ start steps. Left start steps i ↔ ((disk_of old).now i × (content i m ≡ content (disk_of old).reads m))) old.trace.start new.trace.start (sync m true ∷ old.trace.steps) new.trace.steps r.grows.start r.grows.steps ((λ left. left), (λ left. left))

pub returns-clause-failed_syncs : goal.returns-clause-failed_syncs
returns-clause-failed_syncs c old next new m r i =
    along (λ start steps. Left start steps i ↔ (disk_of old).now i) old.trace.start new.trace.start (sync m false ∷ old.trace.steps) new.trace.steps r.grows.start r.grows.steps ((λ left. left), (λ left. left))

pub returns-clause-lost : goal.returns-clause-lost
returns-clause-lost c old new stays i =
    along (λ start steps. Left start steps i ↔ (disk_of old).now i) old.trace.start new.trace.start old.trace.steps new.trace.steps stays.start stays.steps ((λ left. left), (λ left. left))
