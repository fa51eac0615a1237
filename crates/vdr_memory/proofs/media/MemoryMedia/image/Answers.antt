use Rattle.std.proofs.Common.{sym, subst}
use Rattle.std.proofs.lemmas.Result.{IfOk-weaker}
use Rattle.vdr_outside.specs.Disk.{Image}
use Rattle.vdr_memory.specs.Contents.{contents}
use Rattle.vdr_memory.specs.Media.{MediaInMemory, disk_of}
use Rattle.vdr_memory.specs.Steps.{Left}
use Rattle.vdr_memory.proofs.Chosen.{left_chosen}
use Rattle.vdr_memory.proofs.media.MemoryMedia.image.Goals as goal

pub returns-clause-left : goal.returns-clause-left
returns-clause-left c =
    let trace = c.self.inside.trace in
    let choices = c.args.choices.now in
    let rest = c.args.rest.now in
    IfOk-weaker c.image.result _ _
    (λ v is. subst (λ (s : MediaInMemory). (disk_of s).now (contents v.items)) c.self.view_is
    (subst (λ (i : Image). Left trace.start trace.steps i) (sym is) (left_chosen choices rest trace.start trace.steps))) c.image.ensures
