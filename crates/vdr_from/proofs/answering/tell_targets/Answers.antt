use Rattle.std.proofs.Common.{ℤ, ap, ◌∙◌, w64}
use Rattle.std.proofs.lemmas.Int.{to_z-of_z}
use Rattle.vdr_readout.specs.Targets.{up_to}
use Rattle.vdr_from.proofs.OwedLemmas.{same_told}
use Rattle.vdr_from.proofs.answering.tell_targets.Goals as goal

pub returns-clause-owed : goal.returns-clause-owed
returns-clause-owed g c kept =
    same_told _ _ _ _ _ _ (c.up_to-wanted.ensures ∙ ap (λ (stamp : ℤ). up_to c.args.medium stamp) (to_z-of_z w64 c.args.at c.ranges.at)) _ _ (c.tell_held.ensures.tells c.new.result c.new.ensures kept)
