use Rattle.std.proofs.Common.{arith, ◌≡◌, ◌<◌, ◌^◌, ◌∙◌, ℕ, List, Some, Result, Ok, decimal, sym, ap}
use Rattle.std.proofs.lemmas.Fmt.{parse-decimal}
use Rattle.std.specs.Str.Parse.{ParsesUnsigned}
use Rattle.std.specs.Cmp.Lexicographic.{told_text}
use Rattle.vdr_tool.proofs.WordLemmas.{not_other}
use Rattle.vdr_live.proofs.turns.number_of.Goals.{then-n-least-via-then-n-least, then-n-least-via-else-n-least+then-most-n}
use Rattle.vdr_live.proofs.turns.number_of.Goals as goal

-- what is read of a number's own text
read_back : {E : Type 0} (n m : ℕ) (word : List ℕ) (r : Result ℕ E) → n < 2 ^ 64 → word ≡ decimal n → ParsesUnsigned 64 10 word r → r ≡ Ok m → m ≡ n
read_back n m word r small spelled reads is =
    let e : Ok m ≡ Ok n = sym is ∙ parse-decimal 64 n word r small (omega (arith, small)) spelled reads in cc

pub returns-in_default-clause-found : goal.returns-in_default-clause-found
returns-in_default-clause-found c = λ n low high spelled.
    let e : c.parse.result ≡ Ok n = parse-decimal 64 n c.args.word.now c.parse.result (omega (arith, high, c.ranges.most)) (omega (arith, high, c.ranges.most)) spelled c.parse.ensures.value.0 in
    absurd (c.in_default.not-Ok n e)

pub returns-then-n-least-clause-found : goal.returns-then-n-least-clause-found
returns-then-n-least-clause-found c = λ n low high spelled.
    let same : c.in-Ok.n ≡ n = read_back n c.in-Ok.n c.args.word.now c.parse.result (omega (arith, high, c.ranges.most)) spelled c.parse.ensures.value.0 c.in-Ok.is in
    let none : ⊥ = elim c.then-n-least.branch [ then-n-least-via-then-n-least w ↦ omega (arith, same, low, high, w.if-n-least.true) | then-n-least-via-else-n-least+then-most-n w ↦ omega (arith, same, low, high, w.if-most-n.true) ] in
    absurd none

pub returns-then-eq-clause-found : goal.returns-then-eq-clause-found
returns-then-eq-clause-found c = λ n low high spelled.
    ap (λ (m : ℕ). Some m) (read_back n c.in-Ok.n c.args.word.now c.parse.result (omega (arith, high, c.ranges.most)) spelled c.parse.ensures.value.0 c.in-Ok.is)

pub returns-else-eq-clause-found : goal.returns-else-eq-clause-found
returns-else-eq-clause-found c = λ n low high spelled.
    let same : c.in-Ok.n ≡ n = read_back n c.in-Ok.n c.args.word.now c.parse.result (omega (arith, high, c.ranges.most)) spelled c.parse.ensures.value.0 c.in-Ok.is in
    let written : c.format.result.now ≡ decimal c.in-Ok.n = c.format.ensures.text in
    absurd (not_other c.format.result.now c.args.word.now c.eq.result c.if-eq.false (told_text c.format.result.now c.args.word.now c.eq.result c.eq.ensures)
    (written ∙ (ap decimal same ∙ sym spelled)))
