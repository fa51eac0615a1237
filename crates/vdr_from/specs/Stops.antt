-- How what stops a reading of a stored file ends the command (this project's profile).
use Rattle.std.specs.Prelude.{ℕ, Result, Ok, Err, ⊤}
use Rattle.vdr_export.specs.declared.refused.ExportRefused.{ExportRefused}
use Rattle.vdr_export.specs.declared.refused.ExportRefused.TheVariants as exports
use Rattle.vdr_visit.specs.declared.visit_refused.VisitRefused.{VisitRefused}
use Rattle.vdr_visit.specs.declared.visit_refused.VisitRefused.TheVariants as stops
use Rattle.vdr_command.specs.declared.status.EvidencePart.TheVariants.{Digest}
use Rattle.vdr_command.specs.declared.status.Status.{Status}
use Rattle.vdr_command.specs.declared.status.Status.TheVariants.{Done, InputFault, OutputFault, NoMemory, NoChannel, ExportNothing, ExportMixed, ExportLong, ExportPart, NoEvidence}

-- The file is another one by the time that it is read again: from this offset on it can't have the SHA-256 that it had.
abbrev pub changed_at : (offset : ℕ) → Status
changed_at offset = NoEvidence Digest offset

abbrev pub status_of_visit : {R : Type 0} → Result ⊤ (VisitRefused R) → Status
status_of_visit (Ok all) = Done
status_of_visit (Err stops.NoChannel) = NoChannel
status_of_visit (Err stops.NoIncident) = NoChannel
status_of_visit (Err stops.Fault) = InputFault
status_of_visit (Err (stops.Damaged m offset)) = changed_at offset
status_of_visit (Err stops.Output) = OutputFault
status_of_visit (Err (stops.Own reason)) = NoMemory

abbrev pub status_of_file : Result ⊤ ExportRefused → Status
status_of_file (Ok all) = Done
status_of_file (Err exports.Nothing) = ExportNothing
status_of_file (Err (exports.Mixed place)) = ExportMixed place
status_of_file (Err exports.Long) = ExportLong
status_of_file (Err (exports.Part number)) = ExportPart number
status_of_file (Err exports.Fault) = InputFault
status_of_file (Err (exports.Damaged m offset)) = changed_at offset
status_of_file (Err exports.Output) = OutputFault
status_of_file (Err exports.NoMemory) = NoMemory
