-- What was gathered is written however the reading ended, unless the output failed.
use Rattle.vdr_import.proofs.Gathering.{causes_so, failed_so, imports_so}
use Rattle.vdr_import.proofs.importing.import_with.Goals as goal

pub returns-then-failed_at_output-clause-imports : goal.returns-then-failed_at_output-clause-imports
returns-then-failed_at_output-clause-imports g c =
    failed_so _ _ _ _ _ c.gather_feed-ended.result (c.failed_at_output.ensures.told c.if-failed_at_output.true) c.gather_feed-ended.ensures.gathers

pub returns-clause-imports : goal.returns-clause-imports
returns-clause-imports g c =
    imports_so _ _ _ _ _ _ _ c.gather_feed-ended.result c.ended_by.result c.hand_on.result c.gather_feed-ended.ensures.gathers c.hand_on.ensures.handed c.hand_on.ensures.none
    (c.failed_at_output.ensures.none c.if-failed_at_output.false) c.ended_by.ensures.same c.ended_by.ensures.blamed

pub returns-clause-causes : goal.returns-clause-causes
returns-clause-causes g c =
    causes_so _ _ _ _ _ c.gather_feed-ended.result c.ended_by.result c.hand_on.result c.gather_feed-ended.ensures.causes c.hand_on.ensures.cause c.ended_by.ensures.same c.ended_by.ensures.blamed
