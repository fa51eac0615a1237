-- One line more for each group.
use Rattle.std.proofs.Common.{◌≡◌, ◌++◌, ℕ, subst, arith, rules}
use Rattle.vdr_import.specs.AccountTexts.{groups_below}
use Rattle.vdr_import.proofs.Lines.{grown_by, none_grown_groups, groups_more}
use Rattle.vdr_import.proofs.account_text.push_groups.Goals as goal

pub loop-group-init : goal.loop-group-init
loop-group-init c = record { grown = none_grown_groups c.args.text.now.items c.args.account.now; short = search rules }

pub loop-group-preserved : goal.loop-group-preserved
loop-group-preserved c = record {
  grown = grown_by _ _ _ _ _ _ c.loop-group.invariant.grown c.push_group.ensures.grown (groups_more c.loop-group.group c.whole.result c.cut.result c.args.account.now c.whole.ensures c.cut.ensures);
  short = omega (arith, c.push_group.ensures.short, c.loop-group.invariant.short);
}

pub returns-clause-grown : goal.returns-clause-grown
returns-clause-grown c =
    let end : c.loop-group.group ≡ 16 = omega (arith, c.loop-group-test.false, c.loop-group.auto.group-end) in
    subst (λ (n : ℕ). c.loop-group.text.items ≡ c.args.text.now.items ++ groups_below n c.args.account.now) end c.loop-group.invariant.grown
