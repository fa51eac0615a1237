use Rattle.vdr_config.specs.Sizes.{sizes_of}
use Rattle.vdr_config.proofs.Windows.{each_of}
use Rattle.vdr_config.proofs.fit.fits.Goals as goal

pub returns-clause-each : goal.returns-clause-each
returns-clause-each c = each_of (sizes_of c.args.config.now) c.args.sizes.now _ c.tested.ensures
