use Rattle.std.proofs.Common.{◌∙◌, ap, sym, subst, length, List, ℕ}
use Rattle.vdr_bytes.proofs.NumberLemmas.{length-le_u32}
use Rattle.vdr_verify.specs.Heads.{IsIdOn}
use Rattle.vdr_verify.proofs.Heads.{one_id}
use Rattle.vdr_verify.proofs.parts.incident_in.Goals as goal

pub returns-then-bytes-ne4-clause-none : goal.returns-then-bytes-ne4-clause-none
returns-then-bytes-ne4-clause-none c = λ id small spelled on. c.if-bytes-ne4.true (ap (λ (l : List ℕ). length l) spelled ∙ length-le_u32 id)

pub returns-else-is_id_on-clause-none : goal.returns-else-is_id_on-clause-none
returns-else-is_id_on-clause-none c = λ id small spelled on.
    c.is_id_on.ensures.other c.if-is_id_on.false
    (subst (λ (n : ℕ). IsIdOn c.args.medium c.args.slots n) (one_id id c.number_in-id.result small c.number_in-id.type_inv (sym spelled ∙ c.number_in-id.ensures)) on)
