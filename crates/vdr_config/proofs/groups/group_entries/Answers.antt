use Rattle.std.proofs.Common.{◌∷◌, [], length-append, arith}
use Rattle.std.proofs.lemmas.Result.{err_from_is_err_and}
use Rattle.std.proofs.lemmas.List.Elements.{All-push}
use Rattle.vdr_config.specs.Grammar.{group_at}
use Rattle.vdr_config.specs.Entries.{IsEntry}
use Rattle.vdr_config.proofs.Elements.{goes_on, ends, is_done}
use Rattle.vdr_config.proofs.groups.group_entries.Goals as goal

pub returns-in_err-group-clause-exact : goal.returns-in_err-group-clause-exact
returns-in_err-group-clause-exact c =
    let p = err_from_is_err_and c.from_residual.result c.from_residual.ensures.1 in
    rw (p.1, p.2) (ends group_at c.loop-i.groups.items c.args.values.now c.loop-i.i c.index-values-i.result c.in_err-group.field-0.0 _ c.loop-i-test.true c.index-values-i.is c.in_err-group.ensures.exact c.loop-i.invariant.told)

pub loop-i-preserved : goal.loop-i-preserved
loop-i-preserved c =
    let g = c.in_ok-group.group in
    record {
      told = rw c.in_ok-push.ensures.items (goes_on group_at c.loop-i.groups.items c.args.values.now c.loop-i.i c.index-values-i.result g _ c.loop-i-test.true c.index-values-i.is c.in_ok-group.ensures.exact c.loop-i.invariant.told);
      count = rw c.in_ok-push.ensures.items (omega (arith, length-append c.loop-i.groups.items (g ∷ []), c.loop-i.invariant.count));
      in_range = rw c.in_ok-push.ensures.items (All-push IsEntry c.loop-i.groups.items g c.loop-i.invariant.in_range c.in_ok-group.ensures.in_range);
    }

pub returns-clause-exact : goal.returns-clause-exact
returns-clause-exact c = is_done group_at c.loop-i.groups.items c.args.values.now c.loop-i.i _ c.loop-i-test.false c.loop-i.invariant.told
