use Rattle.std.proofs.Common.{rules, w64}
use Rattle.std.proofs.lemmas.Int.{to_z-of_z}
use Rattle.std.proofs.lemmas.List.{take_rest}
use mir.Val.{SFits}
use Rattle.vdr_verify.proofs.Queries.{differ_so, same_so, stamps_at, stamps_joined}
use Rattle.vdr_verify.proofs.query.stamps_in.Goals as goal

pub returns-then-ne-2-clause-none : goal.returns-then-ne-2-clause-none
returns-then-ne-2-clause-none c = λ from to are.
    differ_so c.ne-2.result _ _ _ c.ne-2.ensures c.if-ne-2.true c.as_slice-2.ensures (stamps_at c.args.bounds.now from to are).next_space

pub returns-in_default-clause-none : goal.returns-in_default-clause-none
returns-in_default-clause-none c = λ from to are. c.in_default.ensures.none from are.first (stamps_at c.args.bounds.now from to are).first

pub returns-in_default-read_utc-clause-none : goal.returns-in_default-read_utc-clause-none
returns-in_default-read_utc-clause-none c = λ from to are. c.in_default-read_utc.ensures.none to are.second (rw take_rest (stamps_at c.args.bounds.now from to are).second)

pub returns-clause-found : goal.returns-clause-found
returns-clause-found c =
    let since : SFits w64 c.in-Some.from = search rules in
    let until : SFits w64 c.in-Some-read_utc.to = search rules in
    rw (to_z-of_z w64 c.in-Some.from since, to_z-of_z w64 c.in-Some-read_utc.to until)
    (stamps_joined c.args.bounds.now c.in-Some.from c.in-Some-read_utc.to c.in-Some.ensures.found.0 c.in-Some-read_utc.ensures.found.0 (same_so c.ne.result _ _ _ c.ne.ensures c.if-ne.false c.as_slice.ensures)
    c.in-Some.ensures.found.1 (same_so c.ne-2.result _ _ _ c.ne-2.ensures c.if-ne-2.false c.as_slice-2.ensures) (rw take_rest at c.in-Some-read_utc.ensures.found.1))
