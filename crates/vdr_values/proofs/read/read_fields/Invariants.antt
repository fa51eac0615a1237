use Rattle.std.proofs.Common.{length}
use Rattle.vdr_values.specs.Readings.{fields_behind, fields_of}
use Rattle.vdr_values.specs.Rows.{forms_of}
use Rattle.vdr_values.specs.Views.{row_of, values_of}
use Rattle.vdr_values.proofs.Along.{HasRead}
use Rattle.vdr_values.proofs.read.read_fields.Given as goal

abbrev pub invariant-loop-index : goal.invariant-loop-index
invariant-loop-index l = HasRead (forms_of (row_of l.row) (length (fields_of l.content))) (fields_of l.content) l.index (values_of l.values.items) (fields_behind l.rest)
