use Rattle.std.proofs.Common.{◌≡◌, ◌∷◌, [], refl, rules, arith}
use Rattle.vdr_verify.specs.Legal.{Asks}
use Rattle.vdr_verify.specs.declared.heading.Query.{Query}
use Rattle.vdr_verify.proofs.Heads.{passed_on, query_other, query_short, read_so, refuses_other, stands_on, take_within}
use Rattle.vdr_verify.proofs.heading.read_query.Goals as goal

pub returns-in_err-size-clause-stage : goal.returns-in_err-size-clause-stage
returns-in_err-size-clause-stage g c = λ first text medium incident label of_text stands.
    let before = text ∷ medium ∷ incident ∷ label ∷ [] in
    passed_on _ _ _ _ _ _ before (λ (query : Query) bytes. (query.text.items ≡ bytes) × Asks c.args.config.now bytes query.asked) c.read_part.result c.from_residual.result c.in_err-size.field-0.0 c.in_err-size.was (search rules)
    (c.read_part.ensures.reads first before stands refl (query_short text medium incident label))

pub returns-in_default-clause-stage : goal.returns-in_default-clause-stage
returns-in_default-clause-stage g c = λ first text medium incident label of_text stands.
    let before = text ∷ medium ∷ incident ∷ label ∷ [] in
    let fits = query_short text medium incident label in
    let read = read_so _ _ _ _ _ _ _ _ c.in_ok-size.was (c.read_part.ensures.reads first before stands refl fits) in
    refuses_other _ _ _ _ _ before _ _ 82 _ stands refl refl fits (omega arith) (take_within c.in_ok-size.size 82 c.read_part.new.into c.read_part.auto.into) read
    (query_other text _ c.args.config.now of_text c.in_default.ensures.none)

pub returns-clause-stage : goal.returns-clause-stage
returns-clause-stage g c = λ first text medium incident label of_text stands.
    let before = text ∷ medium ∷ incident ∷ label ∷ [] in
    let fits = query_short text medium incident label in
    let read = read_so _ _ _ _ _ _ _ _ c.in_ok-size.was (c.read_part.ensures.reads first before stands refl fits) in
    let found = c.in-Some.ensures.found in
    (_, (search rules, found), stands_on _ _ _ _ _ before _ stands read (record { config = c.args.config.now; read = of_text; asked = c.in-Some.asked; asks = found; short = take_within c.in_ok-size.size 82 c.read_part.new.into c.read_part.auto.into }))
