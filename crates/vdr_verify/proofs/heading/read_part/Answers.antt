use Rattle.std.proofs.Common.{arith, length, refl}
use Rattle.vdr_verify.proofs.Heads.{refuses_none}
use Rattle.vdr_verify.proofs.heading.read_part.Goals as goal

pub returns-in-Ok-None-clause-reads : goal.returns-in-Ok-None-clause-reads
returns-in-Ok-None-clause-reads g c = λ first before stands is fits.
    refuses_none _ _ _ before _ _ (length c.part.new.into) stands is refl (λ x legal. omega (arith, c.part.auto.into, fits x legal)) (rw c.in-Ok-None.field-0-is at c.in-Ok-None.ensures.takes)
