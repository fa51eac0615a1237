use Rattle.std.proofs.Common.{◌<◌, ◌+◌, ℕ, sym, ◌∙◌, subst}
use Rattle.vdr_opening.proofs.ContentsHeld.{are_legal, are_formatted, one_config, one_configured_text, one_filled, one_incidents, one_placed_at}
use Rattle.vdr_opening.proofs.law.law_of_contents.Goals as goal

pub returns-clause-config : goal.returns-clause-config
returns-clause-config c image x y h k = (one_config (are_legal h) (are_legal k), one_configured_text (are_legal h) (are_legal k))

pub returns-clause-further : goal.returns-clause-further
returns-clause-further c image x y h k = h.further ∙ sym k.further

pub returns-clause-placed : goal.returns-clause-placed
returns-clause-placed c image x y h k m lt = one_placed_at (are_legal h) (are_legal k) m (subst (λ (n : ℕ). m < 2 + n) h.further lt)

pub returns-clause-table : goal.returns-clause-table
returns-clause-table c image x y h k = one_incidents (are_legal h) (are_legal k) h.table k.table

pub returns-clause-filled : goal.returns-clause-filled
returns-clause-filled c image x y h k m lt = one_filled h k m (subst (λ (n : ℕ). m < 2 + n) h.further lt)

pub returns-clause-formatted : goal.returns-clause-formatted
returns-clause-formatted c = are_formatted
