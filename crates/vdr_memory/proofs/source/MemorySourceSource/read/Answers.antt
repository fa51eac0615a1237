use Rattle.std.proofs.Common.{◌≡◌, ◌≤◌, ◌<◌, ◌+◌, ◌-◌, ◌++◌, min, ℕ, List, [], arith, take, drop, length, sym, ap, ◌∙◌}
use Rattle.std.proofs.lemmas.Grind.{common_steps}
use Rattle.std.proofs.lemmas.List.{length-drop, length-take, length-append, drop_all}
use Rattle.vdr_outside.proofs.Pieces.{count_is, gave_of}
use Rattle.vdr_memory.specs.Sources.{SourceInMemory}
use Rattle.vdr_memory.proofs.source.MemorySourceSource.read.Goals as goal

-- It gives nothing only where nothing is left, since a piece has a byte.
gave_none : (s slice into rest part : List ℕ) (given piece first n : ℕ) → 0 < piece → slice ≡ s → first ≡ min (length into) piece → n ≡ min first (length (take (length slice - given) (drop given slice)))
    → length part ≡ length (take n into) → n ≡ 0 → 0 < length (part ++ drop n into) → drop (given + n) s ≡ []
gave_none s slice into rest part given piece first n some same first_is n_is long none room =
    let all : n ≡ min first (length (drop given s)) = count_is s slice given first n same n_is in
    drop_all _ s (grind (arith, common_steps, length-append, length-take, length-drop, some, first_is, all, long, none, room))

pub returns-clause-bytes : goal.returns-clause-bytes
returns-clause-bytes c =
    let left : c.args.self.now.left ≡ drop c.self.inside.given c.self.inside.bytes.items = sym (ap (λ (s : SourceInMemory). s.left) c.self.view_is) in
    let count : c.min-count.result ≡ min c.min.result (length (drop c.self.inside.given c.self.inside.bytes.items)) =
    count_is c.self.inside.bytes.items c.deref-2.result.now c.self.inside.given c.min.result c.min-count.result c.deref-2.ensures.value c.min-count.ensures in
    let within : c.min-count.result ≤ length (drop c.self.inside.given c.self.inside.bytes.items) = omega (arith, count) in (
      left ∙ gave_of c.self.inside.bytes.items c.deref-2.result.now c.copy_from_slice.new.self (drop c.min-count.result c.args.into.now) c.self.inside.given c.min-count.result within c.deref-2.ensures.value c.copy_from_slice.ensures.after,
      gave_none c.self.inside.bytes.items c.deref-2.result.now c.args.into.now (drop c.min-count.result c.args.into.now) c.copy_from_slice.new.self c.self.inside.given c.self.inside.piece c.min.result c.min-count.result c.self.invariant.1 c.deref-2.ensures.value c.min.ensures c.min-count.ensures c.copy_from_slice.ensures.len,
    )
