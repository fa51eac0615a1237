use Rattle.vdr_readout.proofs.LineLemmas.{lines_known, selected_owed}
use Rattle.vdr_readout.proofs.selecting.answer_values.Goals as goal

pub returns-clause-owed : goal.returns-clause-owed
returns-clause-owed g c = selected_owed (c.read_out.ensures.reads c.new.result c.new.ensures) (c.law_of_openings.ensures (g.M.Media.disk c.args.world.now.media).reads)

pub returns-clause-known : goal.returns-clause-known
returns-clause-known g c = lines_known (c.read_out.ensures.reads c.new.result c.new.ensures)
