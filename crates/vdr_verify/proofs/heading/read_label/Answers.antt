use Rattle.std.proofs.Common.{◌≡◌, ◌∷◌, [], ℕ, refl, rules, arith}
use Rattle.arrayvec.specs.ArrayVec.{ArrayVec}
use Rattle.vdr_bytes.specs.Numbers.{le_u32}
use Rattle.vdr_verify.proofs.Heads.{label_short, passed_on, read_so, refuses_other, stands_on, take_within}
use Rattle.vdr_verify.proofs.heading.read_label.Goals as goal

pub returns-in_err-size-clause-stage : goal.returns-in_err-size-clause-stage
returns-in_err-size-clause-stage g c = λ first text medium stands.
    let before = text ∷ medium ∷ le_u32 c.args.incident ∷ [] in
    passed_on _ _ _ _ _ _ before (λ (label : ArrayVec ℕ) bytes. label.items ≡ bytes) c.read_part.result c.from_residual.result c.in_err-size.field-0.0 c.in_err-size.was (search rules)
    (c.read_part.ensures.reads first before stands refl (label_short text medium (le_u32 c.args.incident)))

pub returns-then-not-is_label_of-clause-stage : goal.returns-then-not-is_label_of-clause-stage
returns-then-not-is_label_of-clause-stage g c = λ first text medium stands.
    let before = text ∷ medium ∷ le_u32 c.args.incident ∷ [] in
    let fits = label_short text medium (le_u32 c.args.incident) in
    let read = read_so _ _ _ _ _ _ _ _ c.in_ok-size.was (c.read_part.ensures.reads first before stands refl fits) in
    refuses_other _ _ _ _ _ before _ _ 64 _ stands refl refl fits (omega arith) (take_within c.in_ok-size.size 64 c.read_part.new.into c.read_part.auto.into) read
    (c.is_label_of.ensures.other c.if-not-is_label_of.true)

pub returns-clause-stage : goal.returns-clause-stage
returns-clause-stage g c = λ first text medium stands.
    let before = text ∷ medium ∷ le_u32 c.args.incident ∷ [] in
    let fits = label_short text medium (le_u32 c.args.incident) in
    let read = read_so _ _ _ _ _ _ _ _ c.in_ok-size.was (c.read_part.ensures.reads first before stands refl fits) in
    (_, search rules, stands_on _ _ _ _ _ before _ stands read (c.is_label_of.ensures.legal c.if-not-is_label_of.false))
