use Rattle.std.proofs.Common.{Err, Ok, inl, inr, refl, ⊎_elim}
use Rattle.vdr_tool.proofs.CaptureLemmas.{count_owes}
use Rattle.vdr_tool.proofs.counting_packets.answer_packets.Goals as goal

pub returns-in-Ok-clause-owed : goal.returns-in-Ok-clause-owed
returns-in-Ok-clause-owed g c =
    let law = c.law_of_captures.ensures in
    count_owes _ _ _ (Ok c.in-Ok.field-0) refl c.in-Ok.ensures.counts c.in-Ok.ensures.causes (inl tt) law.whole law.refusal

pub returns-in-Err-clause-owed : goal.returns-in-Err-clause-owed
returns-in-Err-clause-owed g c =
    let law = c.law_of_captures.ensures in
    count_owes _ _ _ (Err c.in-Err.refused) c.status_of.ensures c.in-Err.ensures.counts c.in-Err.ensures.causes
    (⊎_elim (λ own. inl own) (λ same. inr (λ i. record { taken = g.O.Sink.taken (same i); faults = g.O.Sink.faults (same i) })) c.in-Err.ensures.silent) law.whole law.refusal
