use Rattle.std.proofs.Common.{refl, sym, ◌∙◌}
use Rattle.vdr_directory.proofs.Extents.{ticks_from_none, ticks_to_none}
use Rattle.vdr_directory.proofs.order.ticks_rise.Goals as goal

pub returns-in_default : goal.returns-in_default
returns-in_default c q p dq dp = (λ _. ticks_to_none q p _ dp (sym c.extent-2.ensures ∙ c.in_default.is-1), λ _. refl)

pub returns-in_default-2 : goal.returns-in_default-2
returns-in_default-2 c q p dq dp = (λ _. ticks_from_none q p _ dq (sym c.extent.ensures ∙ c.in_default.is-0), λ _. refl)
