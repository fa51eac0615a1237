use Rattle.std.proofs.Common.{◌≡◌, ◌++◌, ◌∙◌, sym, ap, drop, length, ℕ, List, Option, None, Some, IfNone}
use Rattle.std.proofs.Math.Seq.{drop-append_seam}
use Rattle.vdr_entry.specs.declared.query.Medium.{Medium}
use Rattle.vdr_control.specs.Plays.{IsMedium, medium_word}
use Rattle.vdr_control.proofs.line.medium_behind.Goals as goal

none : (line front rest : List ℕ) (r : Option Medium) → line ≡ front ++ rest → IfNone r ((medium : Medium) → IsMedium medium → rest ≡ medium_word medium → ⊥)
    → IfNone r ((medium : Medium) → IsMedium medium → line ≡ front ++ medium_word medium → ⊥)
none line front rest (Some found) is told = tt
none line front rest None is told = λ medium legal all.
    told medium legal (sym (drop-append_seam front rest) ∙ ap (λ (l : List ℕ). drop (length front) l) (sym is ∙ all) ∙ drop-append_seam front (medium_word medium))

pub returns-clause-none : goal.returns-clause-none
returns-clause-none c = none c.args.line.now c.args.front.now c.in_ok-rest.rest.now c.read_medium.result c.in_ok-rest.ensures.found c.read_medium.ensures.none
