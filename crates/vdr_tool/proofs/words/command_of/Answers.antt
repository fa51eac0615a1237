use Rattle.std.proofs.Common.{◌≡◌, ◌≢◌, ◌∙◌, ℕ, List, ◌∷◌, codes, map, sym, ap, subst, rules}
use Rattle.std.specs.Prelude.{IfSome, string_bytes}
use Rattle.vdr_tool.specs.Commands.{plain}
use Rattle.vdr_tool.specs.Runs.{Spells}
use Rattle.vdr_tool.proofs.WordLemmas.{no_words, nothing_in, plain_words}
use Rattle.vdr_tool.proofs.words.command_of.Goals as goal

pub returns-in_default-clause-found : goal.returns-in_default-clause-found
returns-in_default-clause-found c = λ command asks.
    absurd (no_words command (subst (λ words. Spells (map string_bytes words) command) (nothing_in c.args.words.now c.in_default.ensures.cases) asks))

pub returns-then-eq-clause-found : goal.returns-then-eq-clause-found
returns-then-eq-clause-found c = λ command asks.
    let word : string_bytes c.in-Some.word.now ≡ codes "rescue" = search rules in
    let all = ap (λ words. map string_bytes words) c.in-Some.ensures.cases.0 ∙ ap (λ (w : List ℕ). w ∷ map string_bytes c.in-Some.rest.now) word in
    c.rescue_of.ensures.found command (subst (λ words. Spells words command) all asks)

pub returns-then-eq-clause-only : goal.returns-then-eq-clause-only
returns-then-eq-clause-only c =
    let word : string_bytes c.in-Some.word.now ≡ codes "rescue" = search rules in
    let all = ap (λ words. map string_bytes words) c.in-Some.ensures.cases.0 ∙ ap (λ (w : List ℕ). w ∷ map string_bytes c.in-Some.rest.now) word in
    subst (λ (words : List (List ℕ)). IfSome c.rescue_of.result (λ command. Spells words (plain command))) (sym all) c.rescue_of.ensures.only

pub returns-clause-found : goal.returns-clause-found
returns-clause-found c = λ command asks.
    let other : string_bytes c.in-Some.word.now ≢ codes "rescue" = search rules in
    c.plain_command_of.ensures.found command (plain_words (string_bytes c.in-Some.word.now) (map string_bytes c.in-Some.rest.now) command other
    (subst (λ words. Spells (map string_bytes words) command) c.in-Some.ensures.cases.0 asks)) asks
