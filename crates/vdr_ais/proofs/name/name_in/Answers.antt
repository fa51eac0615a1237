use Rattle.std.proofs.Common.{◌∙◌, List, ℕ, take, ap, eqb}
use Rattle.std.specs.List.{position_or_len}
use Rattle.vdr_ais.specs.Reports.{name_in, trimmed}
use Rattle.vdr_ais.proofs.Names.{cut_twice}
use Rattle.vdr_ais.proofs.name.name_in.Goals as goal

pub returns : goal.returns
unfolding name_in
returns c =
    cut_twice _ _ _ _ _ _ _ c.as_slice.ensures.value c.name_end-end.ensures c.truncate.ensures.items c.as_slice-2.ensures.value c.trimmed_end-end.ensures c.truncate-2.ensures.items
    ∙ ap (λ (all : List ℕ). trimmed (take (position_or_len (λ c. eqb c 64) all) all)) c.letters-name.ensures
