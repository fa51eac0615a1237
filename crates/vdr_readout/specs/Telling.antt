-- How one medium alone is refused, and how what was found on it is told.
use Rattle.std.specs.Prelude.{◌≡◌, ◌⊎◌, ℕ, List}
use Rattle.vdr_outside.specs.declared.fault.PartRefused.{PartRefused}
use Rattle.vdr_outside.specs.declared.fault.PartRefused.TheVariants as parts
use Rattle.vdr_rescue.specs.declared.findings.Finding.{Finding}
use Rattle.vdr_command.specs.Outside.{OutputFailed, OutputSeen, Prints, PrintsFront}
use Rattle.vdr_command.specs.declared.status.Status.{Status}
use Rattle.vdr_command.specs.declared.status.Status.TheVariants.{Damaged, MediaFault, OutputFault, NoMemory}
use Rattle.vdr_rescue.specs.Findings.{Account, AreFindings, findings_text, found_in}
use Rattle.vdr_readout.specs.Rescues.{status_found}

abbrev pub status_of_part : PartRefused → Status
status_of_part parts.NoMemory = NoMemory
status_of_part (parts.Damaged m offset) = Damaged m offset
status_of_part parts.Fault = MediaFault

-- The lines were printed and the command ends as they say; or the output failed.
abbrev pub TellsFindings : (m : ℕ) → List Finding → (was next : OutputSeen) → Status → Type 0
TellsFindings m findings was next status =
    ((status ≡ status_found m (found_in findings)) × Prints (findings_text findings) was next)
    ⊎ ((status ≡ OutputFault) × OutputFailed was next × PrintsFront (findings_text findings) was next)

-- So it is told what is known of a medium; or there was no memory, and nothing was printed.
abbrev pub TellsAlone : Account → (m : ℕ) → (was next : OutputSeen) → Status → Type 0
TellsAlone account m was next status =
    ((status ≡ NoMemory) × (next ≡ was)) ⊎ ((findings : List Finding) × AreFindings account findings × TellsFindings m findings was next status)
