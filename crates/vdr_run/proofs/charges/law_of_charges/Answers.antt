use Rattle.vdr_run.proofs.Sizes.{bytes_anywhere, bytes_grow, bytes_most}
use Rattle.vdr_run.proofs.charges.law_of_charges.Goals as goal

pub returns-clause-anywhere : goal.returns-clause-anywhere
returns-clause-anywhere c = bytes_anywhere

pub returns-clause-grow : goal.returns-clause-grow
returns-clause-grow c = bytes_grow

pub returns-clause-most : goal.returns-clause-most
returns-clause-most c = bytes_most
