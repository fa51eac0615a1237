use Rattle.std.proofs.lemmas.Result.{err_from_is_err_and}
use Rattle.vdr_terms.proofs.Results.{same_err}
use Rattle.vdr_media.proofs.Behind.{behind_join}
use Rattle.vdr_remake.proofs.Behind.{behind_still}
use Rattle.vdr_remake.proofs.Causes.{rose_later, rose_second, rose_wider}
use Rattle.vdr_remake.proofs.copying.copy_slot.Goals as goal

pub returns-in_err-take_slot-clause-damaged : goal.returns-in_err-take_slot-clause-damaged
returns-in_err-take_slot-clause-damaged g c =
    let p = err_from_is_err_and c.from_residual.result c.from_residual.ensures.1 in
    rw (p.1, p.2) (λ m offset e. c.in_err-take_slot.ensures.damaged m offset (same_err _ _ e))

pub returns-in_err-take_slot-clause-cause : goal.returns-in_err-take_slot-clause-cause
returns-in_err-take_slot-clause-cause g c =
    let p = err_from_is_err_and c.from_residual.result c.from_residual.ensures.1 in
    rw (p.1, p.2) (rose_wider _ _ _ _ _ _ (λ e. same_err _ _ e) c.in_err-take_slot.ensures.cause)

pub returns-in_err-put_slot-clause-writes : goal.returns-in_err-put_slot-clause-writes
returns-in_err-put_slot-clause-writes g c = behind_join _ _ _ _ (behind_still _ _ _ c.take_slot.ensures.unchanged) c.put_slot.ensures.writes

pub returns-in_err-put_slot-clause-cause : goal.returns-in_err-put_slot-clause-cause
returns-in_err-put_slot-clause-cause g c =
    rose_later _ _ _ _ _ c.take_slot.ensures.cause.later (rose_second _ _ c.in_err-put_slot.ensures.cause.later _ _ _ (λ is. c.in_err-put_slot.ensures.cause.failed))

pub returns-clause-writes : goal.returns-clause-writes
returns-clause-writes g c = behind_join _ _ _ _ (behind_still _ _ _ c.take_slot.ensures.unchanged) c.put_slot.ensures.writes
