use Rattle.std.proofs.Common.{[], ◌∷◌}
use Rattle.std.proofs.lemmas.Bool.{both_ways}
use Rattle.vdr_index.proofs.StretchLemmas.{stretch_more}
use Rattle.vdr_index.proofs.stretch.Stretch.with.Goals as goal

pub returns-then-self : goal.returns-then-self
returns-then-self c = λ rs r comes is one.
    stretch_more rs r c.args.self c.args.mark _ c.joined_summary-summary.result comes is (λ b. (c.if-self.true, c.follows.ensures.0 b), λ p. c.follows.ensures.1 p.1) (c.joined_summary-summary.ensures rs (r ∷ []) comes.summary one)

pub returns-else-self : goal.returns-else-self
returns-else-self c = λ rs r comes is one.
    stretch_more rs r c.args.self c.args.mark _ c.joined_summary-summary.result comes is (λ b. absurd (both_ways _ c.if-self.false b), λ p. p.0) (c.joined_summary-summary.ensures rs (r ∷ []) comes.summary one)
