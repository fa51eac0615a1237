use Rattle.std.proofs.Common.{◌≡◌, ◌++◌, ◌∷◌, [], ℕ, ℤ, List, Option, None, Some, IfSome, IfNone, pos, codes}
use Rattle.vdr_terms.specs.Stamps.{last_stamp}
use Rattle.vdr_entry.specs.declared.query.Medium.{Medium}
use Rattle.vdr_control.specs.Lines.{IsTargetsLine}
use Rattle.vdr_control.specs.Words.{words}
use Rattle.vdr_control.specs.Plays.{IsMedium, SpellsBound, medium_word}
use Rattle.vdr_control.proofs.IdLemmas.{if_none}
use Rattle.vdr_control.proofs.LineLemmas.{targets_line, targets_rest, targets_words}
use Rattle.vdr_control.proofs.line.read_targets_line.Goals as goal

module _ (line rest first second : List ℕ) (begins : line ≡ codes "TARGETS " ++ rest) (cut : words rest ≡ first ∷ second ∷ []) where
  found : (r : Option (Medium × ℤ)) → IfSome r (λ told. IsMedium told.0 × (first ≡ medium_word told.0) × SpellsBound (pos last_stamp) second told.1)
      → IfSome r (λ told. IsMedium told.0 × IsTargetsLine line told.0 told.1)
  found None told = tt
  found (Some x) told = (told.0, targets_line line rest first second x.0 x.1 begins cut told.1 told.2)

  none : (r : Option (Medium × ℤ)) → IfNone r ((asked : Medium) (at : ℤ) → IsMedium asked → first ≡ medium_word asked → SpellsBound (pos last_stamp) second at → ⊥)
      → IfNone r ((medium : Medium) (at : ℤ) → IsMedium medium → IsTargetsLine line medium at → ⊥)
  none (Some x) told = tt
  none None told = λ medium at legal asks. let w = targets_words line rest first second medium at begins cut asks in told medium at legal w.0 w.1

pub returns-in_err-medium-clause-none : goal.returns-in_err-medium-clause-none
returns-in_err-medium-clause-none c = if_none c.from_residual-in_err-medium.result
    (λ medium at legal asks. c.in_err-medium.ensures.none (medium_word medium) asks.bound (targets_rest c.args.line.now c.in_ok-rest.rest.now medium at c.in_ok-rest.ensures.found asks))

pub returns-clause-found : goal.returns-clause-found
returns-clause-found c = found c.args.line.now c.in_ok-rest.rest.now c.in_ok-medium.medium.now c.in_ok-medium.bound.now c.in_ok-rest.ensures.found c.in_ok-medium.ensures.found c.read_until.result c.read_until.ensures.found

pub returns-clause-none : goal.returns-clause-none
returns-clause-none c = none c.args.line.now c.in_ok-rest.rest.now c.in_ok-medium.medium.now c.in_ok-medium.bound.now c.in_ok-rest.ensures.found c.in_ok-medium.ensures.found c.read_until.result c.read_until.ensures.none
