use Rattle.std.proofs.Common.{ℕ, List, length, map, get_or, ◌∙◌, ap}
use Rattle.vdr_outside.proofs.Bytes.{size_of}
use Rattle.vdr_memory.specs.Laws.{reads_sized}
use Rattle.vdr_memory.specs.Media.{MediaInMemory}
use Rattle.vdr_memory.specs.Steps.{reads_after}
use Rattle.vdr_memory.proofs.media.MemoryMediaMedia.size.Goals as goal

pub returns : goal.returns
returns c =
    let trace = c.self.inside.trace in
    ap (λ (l : List ℕ). length l) c.bytes_of.ensures
    ∙ size_of (reads_after trace.start trace.steps) c.args.m
    ∙ ap (λ (l : List ℕ). get_or l c.args.m 0) (reads_sized trace.start trace.steps ∙ ap (λ (s : MediaInMemory). map length s.trace.start) c.self.view_is)
