use Rattle.std.proofs.Common.{[], refl, rules, arith}
use Rattle.vdr_verify.specs.Heads.{IsTextOf}
use Rattle.vdr_verify.proofs.Heads.{passed_on, read_so, refuses_other, stands_on, take_within, text_short}
use Rattle.vdr_verify.proofs.heading.read_text.Goals as goal

pub returns-in_err-size-clause-stage : goal.returns-in_err-size-clause-stage
returns-in_err-size-clause-stage g c = λ first stands.
    passed_on _ _ _ _ _ _ [] IsTextOf c.read_part.result c.from_residual.result c.in_err-size.field-0.0 c.in_err-size.was (search rules) (c.read_part.ensures.reads first [] stands refl text_short)

pub returns-in_default-found-clause-stage : goal.returns-in_default-found-clause-stage
returns-in_default-found-clause-stage g c = λ first stands.
    let read = read_so _ _ _ _ _ _ _ _ c.in_ok-size.was (c.read_part.ensures.reads first [] stands refl text_short) in
    refuses_other _ _ _ _ _ [] _ _ 16_380 _ stands refl refl text_short (omega arith) (take_within c.in_ok-size.size 16_380 c.read_part.new.into c.read_part.auto.into) read (rw c.in_default-found.is at c.in-Ok.ensures.none)

pub returns-clause-stage : goal.returns-clause-stage
returns-clause-stage g c = λ first stands.
    let read = read_so _ _ _ _ _ _ _ _ c.in_ok-size.was (c.read_part.ensures.reads first [] stands refl text_short) in
    let is = rw c.in-Some.is at c.in-Ok.ensures.found in
    (_, record { text_is = c.in-Ok-copied.ensures; config_is = is; digest_is = c.digest-digest.ensures }, stands_on _ _ _ _ _ [] _ stands read (record { config = c.in-Some.config; read = is }))
