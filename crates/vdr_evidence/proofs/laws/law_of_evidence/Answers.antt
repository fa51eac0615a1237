use Rattle.vdr_evidence.proofs.Contents.{one_content}
use Rattle.vdr_evidence.proofs.Parts.{evidence_is_written}
use Rattle.vdr_evidence.proofs.laws.law_of_evidence.Goals as goal

pub returns : goal.returns
returns c = record { written = evidence_is_written; one = one_content }
