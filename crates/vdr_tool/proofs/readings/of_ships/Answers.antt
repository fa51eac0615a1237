use Rattle.std.proofs.Common.{◌∙◌, ℤ, Some, sym, ap, rules, w64}
use mir.Val.{SFits}
use Rattle.std.proofs.lemmas.Int.{to_z-of_z}
use Rattle.vdr_readout.specs.Readings.{Reading}
use Rattle.vdr_readout.specs.Readings.Reading.{Targets}
use Rattle.vdr_tool.proofs.WordLemmas.{no_last, target_words, targets_of}
use Rattle.vdr_tool.proofs.readings.of_ships.Goals as goal

pub returns-in_err-medium-clause-found : goal.returns-in_err-medium-clause-found
returns-in_err-medium-clause-found c = λ reading spells.
    let h = target_words c.args.word.now c.args.name.now c.args.bound.now reading spells in
    no_last c.last_of.result (h.medium, h.at) c.in_err-medium.was (c.last_of.ensures.found h.medium h.at h.legal h.named h.spelled)

pub returns-clause-found : goal.returns-clause-found
returns-clause-found c = λ reading spells.
    let h = target_words c.args.word.now c.args.name.now c.args.bound.now reading spells in
    let fits : SFits w64 c.in_ok-medium.at = search rules in
    ap (λ (t : ℤ). Some (Targets c.in_ok-medium.medium t)) (to_z-of_z w64 c.in_ok-medium.at fits)
    ∙ ap targets_of (sym c.in_ok-medium.was ∙ c.last_of.ensures.found h.medium h.at h.legal h.named h.spelled)
    ∙ ap (λ (r : Reading). Some r) (sym h.is)
