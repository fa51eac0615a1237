use Rattle.std.proofs.Common.{◌≡◌, ◌∷◌, [], ℕ, refl, rules, arith}
use Rattle.vdr_verify.proofs.Heads.{medium_short, passed_on, read_so, refuses_other, stands_on, take_within}
use Rattle.vdr_verify.proofs.heading.read_medium.Goals as goal

pub returns-in_err-size-clause-stage : goal.returns-in_err-size-clause-stage
returns-in_err-size-clause-stage g c = λ first text stands.
    passed_on _ _ _ _ _ _ (text ∷ []) (λ (medium : ℕ) bytes. bytes ≡ medium ∷ []) c.read_part.result c.from_residual.result c.in_err-size.field-0.0 c.in_err-size.was (search rules)
    (c.read_part.ensures.reads first (text ∷ []) stands refl (medium_short text))

pub returns-in_default-clause-stage : goal.returns-in_default-clause-stage
returns-in_default-clause-stage g c = λ first text stands.
    let read = read_so _ _ _ _ _ _ _ _ c.in_ok-size.was (c.read_part.ensures.reads first (text ∷ []) stands refl (medium_short text)) in
    refuses_other _ _ _ _ _ (text ∷ []) _ _ 1 _ stands refl refl (medium_short text) (omega arith) (take_within c.in_ok-size.size 1 c.read_part.new.into c.read_part.auto.into) read (λ legal. c.in_default.ensures.none legal)

pub returns-clause-stage : goal.returns-clause-stage
returns-clause-stage g c = λ first text stands.
    let read = read_so _ _ _ _ _ _ _ _ c.in_ok-size.was (c.read_part.ensures.reads first (text ∷ []) stands refl (medium_short text)) in
    let found = c.in-Some.ensures.found in
    (_, found.1, stands_on _ _ _ _ _ (text ∷ []) _ stands read found.0)
