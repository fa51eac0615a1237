use Rattle.std.proofs.Common.{refl, sym, ◌∙◌}
use Rattle.vdr_opening.proofs.Fronts.{are_same, differ}
use Rattle.vdr_rescue.proofs.JudgeLemmas.{clash}
use Rattle.vdr_rescue.proofs.alone.is_of_kind.Goals as goal

pub returns-then-ne : goal.returns-then-ne
returns-then-ne c = (λ e. absurd (clash e), λ s. absurd (differ _ _ _ c.ne.ensures c.if-ne.true (s ∙ sym c.as_slice.ensures)))

pub returns : goal.returns
returns c = (λ e. are_same _ _ _ c.ne.ensures c.if-ne.false ∙ c.as_slice.ensures, λ s. refl)
