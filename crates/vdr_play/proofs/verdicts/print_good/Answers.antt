use Rattle.std.proofs.Common.{◌≡◌, List, ℕ, [], ◌∷◌, subst, rules}
use Rattle.std.specs.Prelude.{codes}
use Rattle.vdr_datagram.specs.Verdicts.LineReading.{Good}
use Rattle.vdr_tag.specs.Views.{values_of}
use Rattle.vdr_outside.specs.Writes.{AppendsFront}
use Rattle.vdr_values.specs.Readings.{reading}
use Rattle.vdr_values.specs.Texts.{reading_word}
use Rattle.vdr_play.specs.Verdicts.{indented, verdict_words}
use Rattle.vdr_play.proofs.verdicts.print_good.Goals as goal

pub returns-in-Some-clause-front : goal.returns-in-Some-clause-front
returns-in-Some-clause-front g c =
    let word : List ℕ = reading_word (reading c.args.sentence.now.content.now) in
    let words : List (List ℕ) = codes "good" ∷ c.unwrap_or-source.result.now ∷ c.as_bytes.result.now ∷ c.args.sentence.now.address.now ∷ word ∷ [] in
    let same : words ≡ verdict_words (Good (values_of c.args.tags.now) (record { start = c.args.sentence.now.start; content = c.args.sentence.now.content.now })) = search rules in
    subst (λ (ws : List (List ℕ)). AppendsFront (g.O.Sink.taken c.args.out.now) (g.O.Sink.taken c.print_sentence.new.out) (indented ws)) same c.print_sentence.ensures.front

pub returns-in-None-clause-front : goal.returns-in-None-clause-front
returns-in-None-clause-front g c =
    let word : List ℕ = reading_word (reading c.args.sentence.now.content.now) in
    let words : List (List ℕ) = codes "good" ∷ c.unwrap_or-source.result.now ∷ codes "-" ∷ c.args.sentence.now.address.now ∷ word ∷ [] in
    let same : words ≡ verdict_words (Good (values_of c.args.tags.now) (record { start = c.args.sentence.now.start; content = c.args.sentence.now.content.now })) = search rules in
    subst (λ (ws : List (List ℕ)). AppendsFront (g.O.Sink.taken c.args.out.now) (g.O.Sink.taken c.print_sentence-in-None.new.out) (indented ws)) same c.print_sentence-in-None.ensures.front
