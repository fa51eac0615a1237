use Rattle.std.proofs.Common.{◌≡◌, ◌<◌, true, false, Option, Some, rules, sym, subst, arith}
use Rattle.atomic_table.specs.Table.{Me}
use Rattle.vdr_latch.specs.declared.view.View.{View}
use Rattle.vdr_latch.proofs.Looking.{looks}
use Rattle.vdr_latch.proofs.turn.enter.Goals as goal

pub load-serving-requires : goal.load-serving-requires
load-serving-requires g c =
    let P : Me (Option g.row.T.Denot) (View g.row.T-Event.Denot) → Type 0 = λ m. (0 < m.0.parts) × (m.0.ticket ≡ Some c.args.ticket) × (m.0.in_turn ≡ false) in
    let v = subst P (sym c.loop.invariant.2) c.requires.view in
    (search rules, omega arith, looks _ _ _ _ _ _ v.0 v.1 v.2)
