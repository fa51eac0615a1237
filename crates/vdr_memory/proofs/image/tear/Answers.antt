use Rattle.std.proofs.Common.{◌≡◌, sym, subst}
use Rattle.vdr_memory.specs.declared.image.Torn.{Torn}
use Rattle.vdr_memory.specs.Contents.{contents}
use Rattle.vdr_memory.specs.Images.{torn_by}
use Rattle.vdr_memory.specs.Traces.{step_of}
use Rattle.vdr_memory.proofs.Images.{torn_old}
use Rattle.vdr_memory.proofs.image.tear.Goals as goal

pub returns-in-Old : goal.returns-in-Old
returns-in-Old c =
    let image = contents c.args.image.now in
    let step = step_of c.args.call.medium c.args.call.work c.args.bytes.now c.args.call.done in
    subst (λ (torn : Torn). image ≡ torn_by torn step image) (sym c.in-Old.is) (sym (torn_old step image))
