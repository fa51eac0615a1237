use Rattle.vdr_recorder.proofs.Chains.{all_live}
use Rattle.vdr_recorder.proofs.law.law_of_chains.Goals as goal

pub returns : goal.returns
returns g c = record { lives = λ config text runs told lived. all_live g.M.Media.disk config text runs c.args.media.now told lived }
