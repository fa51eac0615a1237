use Rattle.vdr_verify.proofs.Exclusion.{no_evidence_stops, one_content_each}
use Rattle.vdr_verify.proofs.laws.law_of_verification.Goals as goal

pub returns-clause-one : goal.returns-clause-one
returns-clause-one c = one_content_each

pub returns-clause-accepted : goal.returns-clause-accepted
returns-clause-accepted c = no_evidence_stops
