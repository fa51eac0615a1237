use Rattle.std.proofs.Common.{◌++◌, Option, ap, ◌∙◌, arith}
use Rattle.vdr_rescue.specs.declared.lacking.Places.{Places}
use Rattle.vdr_rescue.specs.Lacking.{as_list}
use Rattle.vdr_rescue.proofs.LackLemmas.{missing_done, missing_more}
use Rattle.vdr_rescue.proofs.lacking.missing_of.Goals as goal

pub loop-i-preserved : goal.loop-i-preserved
loop-i-preserved c =
    missing_more c.args.owed c.args.pins.now c.args.heads.now c.args.told.now c.loop-i.gaps.items c.loop-i.before c.loop-i.beside c.loop-i.i _ _ _ _
    (omega (arith, c.requires, c.loop-i-test.true)) (omega (arith, c.loop-i-test.true)) c.loop-i.invariant
    (c.in_ok-add.ensures ∙ ap (λ (o : Option Places). c.loop-i.gaps.items ++ as_list o) c.lacks_at.ensures)
    _ _ c.before_next-before.ensures c.is_some-beside.ensures

pub returns : goal.returns
returns c =
    missing_done c.args.owed c.args.pins.now c.args.heads.now c.args.told.now c.loop-i.gaps.items c.loop-i.before c.loop-i.beside c.loop-i.i _ _
    (omega (arith, c.loop-i-test.false)) c.loop-i.invariant
    (c.in_ok-add-2.ensures ∙ ap (λ (o : Option Places). c.loop-i.gaps.items ++ as_list o) c.lacks_behind.ensures)
