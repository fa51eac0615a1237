use Rattle.std.proofs.Common.{List, ℕ, length, map, Vec, ◌∙◌, ap}
use Rattle.std.specs.declared.alloc.Global.{Global}
use Rattle.std.proofs.lemmas.List.{with_items_is}
use Rattle.vdr_outside.specs.Disk.{Image}
use Rattle.vdr_outside.proofs.Bytes.{sizes_written}
use Rattle.vdr_memory.specs.Contents.{contents}
use Rattle.vdr_memory.proofs.ram.RamMediaMedia.write.Goals as goal

pub returns-clause-sizes : goal.returns-clause-sizes
returns-clause-sizes c =
    let new = c.overwrite_at.new.media in
    ap (λ (l : List (Vec ℕ Global)). map length (contents l)) (with_items_is c.self.inside.media new (c.overwrite_at.auto.media ∙ c.deref_mut.ensures.len))
    ∙ ap (λ (i : Image). map length i) c.overwrite_at.ensures
    ∙ sizes_written (contents c.deref_mut.result.now) c.args.m c.args.at c.args.bytes.now
    ∙ ap (λ (l : List (Vec ℕ Global)). map length (contents l)) c.deref_mut.ensures.value
    ∙ ap (λ (i : Image). map length i) c.self.view_is
