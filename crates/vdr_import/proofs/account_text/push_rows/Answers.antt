-- One line more for each row.
use Rattle.std.proofs.Common.{◌≡◌, ◌++◌, ℕ, subst, arith, rules}
use Rattle.vdr_import.specs.AccountTexts.{left_below}
use Rattle.vdr_import.proofs.Lines.{grown_by, none_grown_left, left_more}
use Rattle.vdr_import.proofs.account_text.push_rows.Goals as goal

pub loop-row-init : goal.loop-row-init
loop-row-init c = record { grown = none_grown_left c.args.text.now.items c.args.account.now; short = search rules }

pub loop-row-preserved : goal.loop-row-preserved
loop-row-preserved c = record {
  grown = grown_by _ _ _ _ _ _ c.loop-row.invariant.grown c.push_left.ensures.grown (left_more c.loop-row.row c.left.result c.args.account.now c.left.ensures);
  short = omega (arith, c.push_left.ensures.short, c.loop-row.invariant.short);
}

pub returns-clause-grown : goal.returns-clause-grown
returns-clause-grown c =
    let end : c.loop-row.row ≡ 57 = omega (arith, c.loop-row-test.false, c.loop-row.auto.row-end) in
    subst (λ (n : ℕ). c.loop-row.text.items ≡ c.args.text.now.items ++ left_below n c.args.account.now) end c.loop-row.invariant.grown
