use Rattle.std.proofs.Common.{subst}
use Rattle.vdr_outside.specs.Disk.{Image}
use Rattle.vdr_media.specs.Formatted.{IsFormatted}
use Rattle.vdr_opening.specs.Refusals.{IsRefused}
use Rattle.vdr_opening.proofs.Rings.{open_cause}
use Rattle.vdr_info.proofs.InfoLemmas.{cause_behind}
use Rattle.vdr_info.proofs.info.read_info.Goals as goal

pub returns-in_err-sync_both-clause-cause : goal.returns-in_err-sync_both-clause-cause
returns-in_err-sync_both-clause-cause g c = open_cause _ _ _ c.in_err-sync_both.ensures.cause.later (λ is. c.in_err-sync_both.ensures.cause.rose)

pub returns-clause-damaged : goal.returns-clause-damaged
returns-clause-damaged g c m offset e told =
    subst (λ (i : Image). IsFormatted i × IsRefused i m offset) (c.sync_both.ensures.reads told) (c.read_synced.ensures.refused.damaged m offset e told c.in_ok-sync_both.ensures.durable)

pub returns-clause-cause : goal.returns-clause-cause
returns-clause-cause g c = cause_behind _ _ _ _ c.sync_both.ensures.cause.later c.read_synced.ensures.cause
