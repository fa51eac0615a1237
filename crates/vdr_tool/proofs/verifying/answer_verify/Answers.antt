use Rattle.std.proofs.Common.{Err, Ok, inl, inr, refl, ⊎_elim}
use Rattle.vdr_tool.proofs.VerifyLemmas.{verify_owes}
use Rattle.vdr_tool.proofs.verifying.answer_verify.Goals as goal

pub returns-in-Ok-clause-owed : goal.returns-in-Ok-clause-owed
returns-in-Ok-clause-owed g c = verify_owes _ _ _ (Ok c.in-Ok.field-0) refl c.in-Ok.ensures.verifies c.in-Ok.ensures.causes (inl tt) c.law_of_verification.ensures.accepted

pub returns-in-Err-clause-owed : goal.returns-in-Err-clause-owed
returns-in-Err-clause-owed g c =
    verify_owes _ _ _ (Err c.in-Err.refused) c.status_of_verify.ensures c.in-Err.ensures.verifies c.in-Err.ensures.causes
    (⊎_elim (λ own. inl own) (λ same. inr (λ i. record { taken = g.O.Sink.taken (same i); faults = g.O.Sink.faults (same i) })) c.in-Err.ensures.silent) c.law_of_verification.ensures.accepted
