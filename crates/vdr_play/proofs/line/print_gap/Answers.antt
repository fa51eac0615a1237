use Rattle.std.proofs.Common.{◌≡◌, rules, List, ℕ, ◌∷◌, [], subst}
use Rattle.std.specs.Prelude.{codes}
use Rattle.vdr_entry.specs.Lines.{spaced, words_of}
use Rattle.vdr_outside.specs.Writes.{AppendsFront}
use Rattle.vdr_play.proofs.line.print_gap.Goals as goal

pub returns-clause-front : goal.returns-clause-front
returns-clause-front g c =
    let text : List ℕ = spaced (c.as_bytes.result.now ∷ c.as_bytes-2.result.now ∷ c.as_slice.result.now ∷ codes "gap" ∷ c.as_bytes-3.result.now ∷ c.as_bytes-4.result.now ∷ c.as_bytes-5.result.now ∷ c.as_bytes-6.result.now ∷ []) in
    let same : text ≡ spaced (words_of c.args.item.now.content c.args.item.now) = search rules in
    let front : AppendsFront (g.O.Sink.taken c.args.out.now) (g.O.Sink.taken c.print_words.new.out) text = c.print_words.ensures.front in
    subst (λ (xs : List ℕ). AppendsFront (g.O.Sink.taken c.args.out.now) (g.O.Sink.taken c.print_words.new.out) xs) same front
