use Rattle.std.proofs.Common.{◌∙◌, refl, arith}
use Rattle.vdr_incident.proofs.Spelling.{label_legal, numbers_legal, save_read}
use Rattle.vdr_incident.proofs.save.read_save.Goals as goal

pub returns-in_default-clause-none : goal.returns-in_default-clause-none
returns-in_default-clause-none c x s = c.in_default.ensures.none (label_legal c.args.bytes.now x s)

pub returns-then-not-are_in_range-clause-none : goal.returns-then-not-are_in_range-clause-none
returns-then-not-are_in_range-clause-none c x s =
    let yes = c.are_in_range.ensures.1 (numbers_legal c.args.bytes.now x _ _ _ _ s c.u64_at-a.ensures c.u64_at-b.ensures c.u64_at-tick.ensures c.u64_at-utc.ensures) in
    let none : ⊥ = cc in none

pub returns-clause-found : goal.returns-clause-found
returns-clause-found c =
    save_read c.args.bytes.now _ _ _ _ _ _ c.fits-bytes (omega (arith, c.told-bytes)) c.u64_at-a.ensures c.u64_at-b.ensures c.u64_at-tick.ensures c.u64_at-utc.ensures
    (omega (arith, c.u64_at-b.type_inv)) refl (c.kept.ensures ∙ c.in-Some.ensures.found.0) c.in-Some.ensures.found.1 (c.are_in_range.ensures.0 c.if-not-are_in_range.false)
