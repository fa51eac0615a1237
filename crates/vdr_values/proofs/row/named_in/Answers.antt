use Rattle.std.proofs.Common.{◌∙◌, ap, bytes_eq, option_map}
use Rattle.vdr_values.specs.Views.{row_of}
use Rattle.vdr_values.proofs.Lookups.{find-map}
use Rattle.vdr_values.proofs.row.named_in.Goals as goal

pub returns : goal.returns
returns c = ap (option_map row_of) c.found_in.ensures ∙ find-map row_of (λ r. bytes_eq r.formatter c.args.formatter.now) c.args.rows.now
