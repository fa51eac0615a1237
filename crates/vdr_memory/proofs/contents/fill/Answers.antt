use Rattle.std.proofs.Common.{◌≡◌, ℕ, ◌+◌, ◌-◌, List, ◌++◌, length, take, drop, replicate, sym, ◌∙◌, ap, arith}
use Rattle.std.proofs.lemmas.List.{length-replicate, length-take-le, length-drop, take-replicate}
use Rattle.vdr_memory.proofs.Overwriting.{parts_over}
use Rattle.vdr_memory.proofs.contents.fill.Goals as goal

pub returns : goal.returns
returns c =
    let b = c.args.medium.now in
    let from = c.min-from.result in
    let count = c.min-count.result in
    let byte = c.args.byte in
    let n = from + count - from in
    let long : length (take n (drop from b)) ≡ count = length-take-le n (drop from b) (omega (arith, length-drop from b)) ∙ omega arith in
    let same : c.fill.new.self ≡ take count (replicate c.args.count byte) =
    c.fill.ensures.after (λ y is. is) ∙ ap (λ (k : ℕ). replicate k byte) long ∙ sym (take-replicate count c.args.count byte (omega arith)) in
    ap (λ (l : List ℕ). take from b ++ (l ++ drop n (drop from b))) same
    ∙ parts_over b c.args.at from count n (replicate c.args.count byte) c.min-from.ensures (omega (arith, length-replicate c.args.count byte)) (omega arith)
