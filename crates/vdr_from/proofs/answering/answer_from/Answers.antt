use Rattle.std.proofs.Common.{Result, refl, subst}
use Rattle.vdr_verify.specs.Stored.{ReadsFile}
use Rattle.vdr_verify.specs.declared.evidence.Evidence.{Evidence}
use Rattle.vdr_verify.specs.declared.refused.VerifyRefused.{VerifyRefused}
use Rattle.vdr_readout.specs.Readings.{plain_reading}
use Rattle.vdr_from.proofs.OwedLemmas.{refused_owed}
use Rattle.vdr_from.proofs.answering.answer_from.Goals as goal

pub returns-in-Err-clause-owed : goal.returns-in-Err-clause-owed
returns-in-Err-clause-owed g c =
    rw c.status_of_verify.ensures
    (refused_owed (g.F.StoredFile.whole c.args.file.now) _ _ (plain_reading c.args.reading) c.in-Err.refused
    (subst (λ (o : Result Evidence VerifyRefused). ReadsFile (g.F.StoredFile.whole c.args.file.now) o) c.in-Err.is c.read_evidence.ensures.reads) refl)
