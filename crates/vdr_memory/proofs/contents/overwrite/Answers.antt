use Rattle.std.proofs.Common.{ℕ, ◌+◌, ◌-◌, List, ◌++◌, take, drop, ◌∙◌, ap, arith}
use Rattle.vdr_memory.proofs.Overwriting.{parts_over}
use Rattle.vdr_memory.proofs.contents.overwrite.Goals as goal

pub returns : goal.returns
returns c =
    let b = c.args.medium.now in
    let from = c.min-from.result in
    let count = c.min-count.result in
    ap (λ (l : List ℕ). take from b ++ (l ++ drop (from + count - from) (drop from b))) c.copy_from_slice.ensures.after
    ∙ parts_over b c.args.at from count (from + count - from) c.args.bytes.now c.min-from.ensures c.min-count.ensures (omega arith)
