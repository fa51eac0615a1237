use Rattle.std.proofs.Common.{refl}
use Rattle.vdr_readout.proofs.PlayLemmas.{play_known, plays_owed}
use Rattle.vdr_readout.proofs.playing.answer_play.Goals as goal

pub returns-clause-owed : goal.returns-clause-owed
returns-clause-owed g c = plays_owed c.new.ensures (c.read_out.ensures.reads c.new.result refl) (c.law_of_openings.ensures (g.M.Media.disk c.args.world.now.media).reads)

pub returns-clause-known : goal.returns-clause-known
returns-clause-known g c = play_known c.new.ensures (c.read_out.ensures.reads c.new.result refl) (c.law_of_openings.ensures (g.M.Media.disk c.args.world.now.media).reads)
