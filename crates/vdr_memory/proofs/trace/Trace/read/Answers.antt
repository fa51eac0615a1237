use Rattle.std.proofs.Common.{◌≡◌, ℕ, List, length, map, reverse, Vec, sym, ◌∙◌, ap, subst}
use Rattle.std.specs.declared.alloc.Global.{Global}
use Rattle.vdr_outside.specs.Disk.{Image, InRange}
use Rattle.vdr_memory.specs.Contents.{contents}
use Rattle.vdr_memory.specs.Laws.{reads_sized}
use Rattle.vdr_memory.specs.Traces.{TraceInMemory, steps_of}
use Rattle.vdr_memory.proofs.trace.Trace.read.Goals as goal

pub read_range-requires : goal.read_range-requires
read_range-requires c =
    let start = contents c.self.inside.start.items in
    let sizes : map length (contents c.deref.result.now) ≡ map length c.args.self.now.start =
    ap (λ (l : List (Vec ℕ Global)). map length (contents l)) c.deref.ensures.value
    ∙ ap (λ (i : Image). map length i) c.self.invariant.0
    ∙ reads_sized start (reverse (steps_of c.self.inside.calls.items c.self.inside.bytes.items))
    ∙ ap (λ (t : TraceInMemory). map length t.start) c.self.view_is in
    subst (λ (l : List ℕ). InRange l c.args.m c.args.at (length c.args.into.now)) (sym sizes) c.requires
