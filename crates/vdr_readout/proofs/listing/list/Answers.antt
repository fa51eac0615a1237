use Rattle.std.proofs.lemmas.Result.{err_from_is_err_and}
use Rattle.vdr_readout.specs.Incidents.{CanList}
use Rattle.vdr_command.specs.Opened.{AreLooks}
use Rattle.vdr_command.specs.declared.status.Status.TheVariants.{Done, OutputFault}
use Rattle.vdr_command.proofs.OpenedLemmas.{no_looks, refused_ends}
use Rattle.vdr_readout.proofs.ListLemmas.{listed_ends}
use Rattle.vdr_readout.proofs.RefusedLemmas.{not_done}
use Rattle.vdr_readout.proofs.listing.list.Goals as goal

pub returns-in_err-recorder-clause-media : goal.returns-in_err-recorder-clause-media
returns-in_err-recorder-clause-media g c =
    let told = c.open.ensures in
    let p = err_from_is_err_and c.from_residual.result c.from_residual.ensures.1 in
    rw (p.1, p.2)
    (refused_ends CanList (λ m offset. ⊥) AreLooks _ _ c.open.result c.in_err-recorder.field-0.0 no_looks c.in_err-recorder.was told.refused.unformatted told.refused.damaged told.refused.untouched told.refused.blank told.writes.others told.writes.cause told.moments)

pub returns-in-Ok-clause-media : goal.returns-in-Ok-clause-media
returns-in-Ok-clause-media g c =
    let told = c.open.ensures in
    listed_ends _ _ c.open.result c.in_ok-recorder.recorder c.in_ok-recorder.was c.in_ok-recorder.recorder.vault c.in_ok-recorder.ensures.opened.parts
    (λ x t holds sound. let w = (c.in_ok-recorder.ensures.opened.opened x t holds sound).3.works c.in_ok-recorder.ensures.opened.works in (w.standing.placed, w.standing.stands)) told.writes.others told.moments Done tt

pub returns-clause-media : goal.returns-clause-media
returns-clause-media g c =
    let told = c.open.ensures in
    listed_ends _ _ c.open.result c.in_ok-recorder.recorder c.in_ok-recorder.was c.in_ok-recorder.recorder.vault c.in_ok-recorder.ensures.opened.parts
    (λ x t holds sound. let w = (c.in_ok-recorder.ensures.opened.opened x t holds sound).3.works c.in_ok-recorder.ensures.opened.works in (w.standing.placed, w.standing.stands)) told.writes.others told.moments OutputFault tt

pub returns-in_err-recorder-clause-missing : goal.returns-in_err-recorder-clause-missing
returns-in_err-recorder-clause-missing g c = c.open.ensures.missing

pub returns-in-Ok-clause-missing : goal.returns-in-Ok-clause-missing
returns-in-Ok-clause-missing g c = c.open.ensures.missing

pub returns-clause-missing : goal.returns-clause-missing
returns-clause-missing g c = c.open.ensures.missing

pub returns-in_err-recorder-clause-bytes : goal.returns-in_err-recorder-clause-bytes
returns-in_err-recorder-clause-bytes g c =
    let p = err_from_is_err_and c.from_residual.result c.from_residual.ensures.1 in
    rw (p.1, p.2) (λ worked. absurd (not_done c.in_err-recorder.field-0.0 worked))

pub returns-in-Ok-clause-bytes : goal.returns-in-Ok-clause-bytes
returns-in-Ok-clause-bytes g c worked x t holds = c.in_ok-recorder.ensures.bytes x t holds

pub returns-clause-bytes : goal.returns-clause-bytes
returns-clause-bytes g c worked x t holds = c.in_ok-recorder.ensures.bytes x t holds
