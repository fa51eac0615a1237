use Rattle.std.proofs.Common.{◌⊎◌, ℕ, List, Contains, refl, subst}
use Rattle.vdr_memory.specs.Counts.{changes, total}
use Rattle.vdr_memory.specs.Media.{IsFailing, IsReached}
use Rattle.vdr_memory.proofs.media.MemoryMediaMedia.read.Goals as goal

pub returns-then-is_failing-clause-fails : goal.returns-then-is_failing-clause-fails
returns-then-is_failing-clause-fails c =
    let made = c.self.inside.made in
    let stop = c.self.inside.stop in
    let fails = subst (λ (l : List ℕ). Contains l (total made) ⊎ IsReached stop (changes made)) c.deref.ensures.value (c.is_failing.ensures.0 c.if-is_failing.true) in
    ((λ same. subst IsFailing c.self.view_is fails), (λ failing. refl))
