use Rattle.std.proofs.Common.{◌∙◌}
use Rattle.vdr_reply.proofs.Told.{there_so}
use Rattle.vdr_reply.proofs.telling.is_there.Goals as goal

pub returns : goal.returns
returns c = c.is_ok.ensures.value ∙ there_so _ _ c.accept.result c.accept.ensures
