use Rattle.std.proofs.Common.{◌≡◌, ◌∷◌, [], ℕ, refl, rules, arith}
use Rattle.vdr_bytes.specs.Numbers.{le_u32}
use Rattle.vdr_verify.proofs.Heads.{incident_legal, incident_other, incident_short, passed_on, read_so, refuses_other, stands_on, take_within}
use Rattle.vdr_verify.proofs.heading.read_incident.Goals as goal

pub returns-in_err-size-clause-stage : goal.returns-in_err-size-clause-stage
returns-in_err-size-clause-stage g c = λ first text read stands.
    let before = text ∷ (c.args.medium ∷ []) ∷ [] in
    passed_on _ _ _ _ _ _ before (λ (incident : ℕ) bytes. bytes ≡ le_u32 incident) c.read_part.result c.from_residual.result c.in_err-size.field-0.0 c.in_err-size.was (search rules)
    (c.read_part.ensures.reads first before stands refl (incident_short text (c.args.medium ∷ [])))

pub returns-in_default-clause-stage : goal.returns-in_default-clause-stage
returns-in_default-clause-stage g c = λ first text of_text stands.
    let before = text ∷ (c.args.medium ∷ []) ∷ [] in
    let fits = incident_short text (c.args.medium ∷ []) in
    let read = read_so _ _ _ _ _ _ _ _ c.in_ok-size.was (c.read_part.ensures.reads first before stands refl fits) in
    refuses_other _ _ _ _ _ before _ _ 4 _ stands refl refl fits (omega arith) (take_within c.in_ok-size.size 4 c.read_part.new.into c.read_part.auto.into) read
    (incident_other text _ c.args.medium _ c.args.config.now of_text (search rules) c.in_default.ensures.none)

pub returns-clause-stage : goal.returns-clause-stage
returns-clause-stage g c = λ first text of_text stands.
    let before = text ∷ (c.args.medium ∷ []) ∷ [] in
    let fits = incident_short text (c.args.medium ∷ []) in
    let read = read_so _ _ _ _ _ _ _ _ c.in_ok-size.was (c.read_part.ensures.reads first before stands refl fits) in
    let found = c.in-Some.ensures.found in
    (_, found.1, stands_on _ _ _ _ _ before _ stands read (incident_legal text _ c.args.medium _ c.in-Some.incident c.args.config.now of_text (search rules) (search rules) found.1 found.0))
