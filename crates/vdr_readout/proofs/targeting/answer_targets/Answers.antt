use Rattle.std.proofs.Common.{refl, w64}
use Rattle.std.proofs.lemmas.Int.{to_z-of_z}
use Rattle.vdr_ais.specs.Targets.{targets_of, targets_text}
use Rattle.vdr_readout.proofs.TableLemmas.{same_stamp, table_known, table_owed}
use Rattle.vdr_readout.proofs.targeting.answer_targets.Goals as goal

pub returns-clause-owed : goal.returns-clause-owed
returns-clause-owed g c =
    same_stamp _ _ (to_z-of_z w64 c.args.at c.ranges.at)
    (table_owed refl (λ records. targets_text (targets_of records)) (λ records. targets_text (targets_of records)) (λ records. refl) (c.read_out.ensures.reads c.new.result c.new.ensures)
    (c.law_of_openings.ensures (g.M.Media.disk c.args.world.now.media).reads))

pub returns-clause-known : goal.returns-clause-known
returns-clause-known g c =
    table_known refl (λ records. targets_text (targets_of records)) (λ records. targets_text (targets_of records)) (λ records. refl) (c.read_out.ensures.reads c.new.result c.new.ensures)
    (c.law_of_openings.ensures (g.M.Media.disk c.args.world.now.media).reads)
