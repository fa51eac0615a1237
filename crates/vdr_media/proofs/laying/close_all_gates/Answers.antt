use Rattle.std.proofs.lemmas.Result.{on_ok_weaker}
use Rattle.vdr_media.proofs.Behind.{behind_join}
use Rattle.vdr_media.proofs.Closing.{closes_all}
use Rattle.vdr_media.proofs.laying.close_all_gates.Goals as goal

pub returns-clause-writes : goal.returns-clause-writes
returns-clause-writes g c = behind_join _ _ _ _ c.close_gates.ensures.writes c.close_gates-2.ensures.writes

pub returns-clause-closed : goal.returns-clause-closed
returns-clause-closed g c =
    on_ok_weaker c.close_gates-2.result (λ second told. closes_all _ _ _ _ _ (c.in_ok-close_gates.ensures.closed told) (second told)) c.close_gates-2.ensures.closed
