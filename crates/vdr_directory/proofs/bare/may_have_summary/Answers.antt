use Rattle.std.proofs.Common.{◌∙◌, ap, arith}
use Rattle.std.specs.Prelude.{Option, is_some}
use Rattle.vdr_index.specs.declared.extent.Extent.{Extent}
use Rattle.vdr_directory.proofs.Bringing.{one_behind}
use Rattle.vdr_directory.proofs.bare.may_have_summary.Goals as goal

pub returns-in-len1 : goal.returns-in-len1
returns-in-len1 c ps ends d =
    c.is_some.ensures ∙ ap (λ (o : Option Extent). is_some o) c.extent.ensures ∙ one_behind ps c.args.after.now _ (omega (arith, c.in-len1.len_at_least, c.in-len1.len_below)) ends d
