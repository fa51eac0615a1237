use Rattle.vdr_meter.proofs.Measured.{measures_new}
use Rattle.vdr_meter.proofs.meter.Meter.new.Goals as goal

pub returns-clause-nothing : goal.returns-clause-nothing
returns-clause-nothing c records none = measures_new c.config.inside.groups records none
