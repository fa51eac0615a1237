use Rattle.vdr_segment.proofs.ChangeLemmas.{segment_kept, segment_appended, summarized}
use Rattle.vdr_segment.proofs.law.law_of_writes.Goals as goal

pub returns-clause-behind : goal.returns-clause-behind
returns-clause-behind c = segment_kept

pub returns-clause-batch : goal.returns-clause-batch
returns-clause-batch c = segment_appended

pub returns-clause-summary : goal.returns-clause-summary
returns-clause-summary c = summarized
