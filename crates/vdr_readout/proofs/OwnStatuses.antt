-- A visitor's own status says nothing of the media.
use Rattle.std.proofs.Common.{ℕ}
use Rattle.vdr_command.specs.Opened.{IfDamaged, IfNoIncident}
use Rattle.vdr_command.specs.Endings.{IsWorkDone}
use Rattle.vdr_readout.specs.Reads.{IsOwnStatus}
use Rattle.vdr_command.specs.declared.status.Status.{Status}
use Rattle.vdr_command.specs.declared.status.Status.TheVariants.{Done, Words, Config, Small, Unformatted, Formatted, Damaged, MediaFault, PortFault, LinkFault, InputFault, OutputFault, NoMemory, Feed, NoChannel, NoIncident, SaveRefused, Place, Tick, ExportKind, ExportNothing, ExportMixed, ExportLong, ExportPart, Capture, NoEvidence, Missing}

-- A visitor's own status says nothing of the media.
pub own_status : (status : Status) (P : ℕ → ℕ → Type 0) (Q : ℕ → Type 0) → IsOwnStatus status → IfDamaged status P × IfNoIncident status Q × (IsWorkDone status → ⊥)
own_status Done P Q own = absurd own
own_status Words P Q own = absurd own
own_status (Config n) P Q own = (tt, tt, λ done. done)
own_status (Small small) P Q own = (tt, tt, λ done. done)
own_status Unformatted P Q own = absurd own
own_status Formatted P Q own = (tt, tt, λ done. done)
own_status (Damaged k at) P Q own = absurd own
own_status MediaFault P Q own = absurd own
own_status (PortFault group) P Q own = (tt, tt, λ done. done)
own_status (LinkFault link) P Q own = (tt, tt, λ done. done)
own_status InputFault P Q own = (tt, tt, λ done. done)
own_status OutputFault P Q own = absurd own
own_status NoMemory P Q own = (tt, tt, λ done. done)
own_status (Feed n at) P Q own = (tt, tt, λ done. done)
own_status NoChannel P Q own = absurd own
own_status (NoIncident id) P Q own = absurd own
own_status (SaveRefused cause) P Q own = (tt, tt, λ done. done)
own_status Place P Q own = (tt, tt, λ done. done)
own_status Tick P Q own = (tt, tt, λ done. done)
own_status ExportKind P Q own = (tt, tt, λ done. done)
own_status ExportNothing P Q own = (tt, tt, λ done. done)
own_status (ExportMixed place) P Q own = (tt, tt, λ done. done)
own_status ExportLong P Q own = (tt, tt, λ done. done)
own_status (ExportPart number) P Q own = (tt, tt, λ done. done)
own_status (Missing place) P Q own = (tt, tt, λ done. done)
own_status (Capture number offset) P Q own = (tt, tt, λ done. done)
own_status (NoEvidence named offset) P Q own = (tt, tt, λ done. done)
