use Rattle.vdr_info.proofs.slots.is_segment.Goals as goal

pub returns-in-None : goal.returns-in-None
returns-in-None c = (λ e. let none : ⊥ = cc in absurd none, λ used. absurd (c.in-None.ensures.none used.header used.is))
