-- What is refused where a visit stops.
use Rattle.std.specs.Prelude.{Option, Some, None}
use Rattle.vdr_visit.specs.declared.visit_refused.VisitRefused.{VisitRefused}
use Rattle.vdr_visit.specs.declared.visit_refused.VisitRefused.TheVariants as stops
use Rattle.vdr_export.specs.declared.refused.ExportRefused.{ExportRefused}
use Rattle.vdr_export.specs.declared.refused.ExportRefused.TheVariants.{Fault, Damaged, Output}

-- A channel or an incident that is lacking is no refusal of a file: whoever asks for the file asks for those first.
abbrev pub refusal_by : VisitRefused ExportRefused → Option ExportRefused
refusal_by stops.NoChannel = None
refusal_by stops.NoIncident = None
refusal_by stops.Fault = Some Fault
refusal_by (stops.Damaged m offset) = Some (Damaged m offset)
refusal_by stops.Output = Some Output
refusal_by (stops.Own refused) = Some refused
