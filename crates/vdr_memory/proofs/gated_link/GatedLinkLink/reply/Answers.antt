use Rattle.std.proofs.Common.{◌≡◌, ◌≤◌, ◌+◌, ◌-◌, ◌++◌, min, ℕ, List, take, length, sym, ◌∙◌, ap, arith, rules}
use Rattle.std.proofs.lemmas.List.{length-take, take_min}
use Rattle.std.proofs.Math.Seq.{take-append-add}
use Rattle.vdr_terms.proofs.Results.{of_ok}
use Rattle.vdr_memory.specs.Links.{GatedLinkInMemory}
use Rattle.vdr_memory.proofs.gated_link.GatedLinkLink.reply.Goals as goal

-- As many bytes as there is room for are the first 64 of all.
first_of_all : (old bytes new : List ℕ) (count : ℕ) → length old ≤ 64 → count ≡ min (length bytes) (64 - length old) → new ≡ old ++ take count bytes → new ≡ take 64 (old ++ bytes)
first_of_all old bytes new count within count_is is =
    let all : 64 ≡ length old + (64 - length old) = omega (arith, within) in
    let swapped : count ≡ min (64 - length old) (length bytes) = omega (arith, count_is) in
    is
    ∙ ap (λ (k : ℕ). old ++ take k bytes) swapped
    ∙ ap (λ (l : List ℕ). old ++ l) (take_min (64 - length old) bytes)
    ∙ sym (take-append-add old bytes (64 - length old))
    ∙ ap (λ (k : ℕ). take k (old ++ bytes)) (sym all)

pub returns-clause-answer : goal.returns-clause-answer
returns-clause-answer g c =
    let old = c.self.inside.answer.items in
    let within : length old ≤ 64 = search rules in
    let count : c.min-count.result ≡ min (length c.args.bytes.now) (64 - length old) = omega (arith, c.min-count.ensures, c.remaining_capacity.ensures) in
    let room : length old + length (take c.min-count.result c.args.bytes.now) ≤ 64 = omega (arith, within, count, length-take c.min-count.result c.args.bytes.now) in
    let is : c.try_extend_from_slice.new.self.items ≡ old ++ take c.min-count.result c.args.bytes.now = of_ok c.try_extend_from_slice.result (c.try_extend_from_slice.ensures.variant.1 room) c.try_extend_from_slice.ensures.ok in
    let whole : c.try_extend_from_slice.new.self.items ≡ take 64 (old ++ c.args.bytes.now) = first_of_all old c.args.bytes.now c.try_extend_from_slice.new.self.items c.min-count.result within count is in
    rw whole (ap (λ (s : GatedLinkInMemory). record s { answer = take 64 (s.answer ++ c.args.bytes.now) }) c.self.view_is)
