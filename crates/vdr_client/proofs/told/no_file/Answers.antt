use Rattle.std.proofs.Common.{codes}
use Rattle.vdr_client.proofs.Stripped.{found, none}
use Rattle.vdr_client.proofs.told.no_file.Goals as goal

pub returns-clause-told : goal.returns-clause-told
returns-clause-told c = found (codes "REFUSED 14 ") c.args.line.now c.strip_prefix.result c.strip_prefix.ensures.cases

pub returns-clause-none : goal.returns-clause-none
returns-clause-none c = none (codes "REFUSED 14 ") c.args.line.now c.strip_prefix.result c.strip_prefix.ensures.cases
