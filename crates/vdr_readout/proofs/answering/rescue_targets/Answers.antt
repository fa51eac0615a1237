use Rattle.std.proofs.Common.{ℤ, ap, ◌∙◌, w64}
use Rattle.std.proofs.lemmas.Int.{to_z-of_z}
use Rattle.vdr_readout.specs.Targets.{up_to}
use Rattle.vdr_readout.proofs.ReadingLemmas.{rescue_known, same_rescued}
use Rattle.vdr_readout.proofs.answering.rescue_targets.Goals as goal

pub returns-clause-owed : goal.returns-clause-owed
returns-clause-owed g c =
    same_rescued _ _ _ _ _ (c.up_to-wanted.ensures ∙ ap (λ (stamp : ℤ). up_to c.args.medium stamp) (to_z-of_z w64 c.args.at c.ranges.at)) _ _ (c.rescue_out.ensures.rescues c.new.result c.new.ensures)

pub returns-clause-known : goal.returns-clause-known
returns-clause-known g c = rescue_known _ _ _ _ _ _ (c.rescue_out.ensures.rescues c.new.result c.new.ensures)
