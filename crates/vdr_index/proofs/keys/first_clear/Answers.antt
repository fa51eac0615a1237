use Rattle.std.proofs.Common.{◌∙◌, ap, find}
use Rattle.std.proofs.lemmas.List.{take_rest}
use Rattle.vdr_index.specs.Keys.{is_other}
use Rattle.vdr_index.proofs.Firsts.{clear_none, clear_some, clear_within}
use Rattle.vdr_index.proofs.keys.first_clear.Goals as goal

pub returns-clause-within : goal.returns-clause-within
returns-clause-within c = clear_within c.args.kept.now c.args.order.now c.requires c.count_kept.result c.count_kept.ensures c.args.but _ (c.first_but.ensures ∙ ap (find (is_other c.args.but)) (take_rest c.args.order.now c.count_kept.result))

pub returns-clause-some : goal.returns-clause-some
returns-clause-some c = clear_some c.args.kept.now c.args.order.now c.requires c.count_kept.result c.count_kept.ensures c.args.but _ (c.first_but.ensures ∙ ap (find (is_other c.args.but)) (take_rest c.args.order.now c.count_kept.result))

pub returns-clause-none : goal.returns-clause-none
returns-clause-none c = clear_none c.args.kept.now c.args.order.now c.requires c.count_kept.result c.count_kept.ensures c.args.but _ (c.first_but.ensures ∙ ap (find (is_other c.args.but)) (take_rest c.args.order.now c.count_kept.result))
