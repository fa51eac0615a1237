use Rattle.std.proofs.Common.{◌≡◌, ◌<◌, ◌+◌, ◌^◌, true, false, Option, None, rules, sym, subst, arith}
use Rattle.atomic_table.specs.Table.{Me}
use Rattle.vdr_latch.specs.declared.view.View.{View}
use Rattle.vdr_latch.proofs.Drawing.{draws}
use Rattle.vdr_latch.proofs.turn.draw.Goals as goal

pub compare_exchange-requires : goal.compare_exchange-requires
compare_exchange-requires g c =
    let P : Me (Option g.row.T.Denot) (View g.row.T-Event.Denot) → Type 0 = λ m. (0 < m.0.parts) × (m.0.ticket ≡ None) × (m.0.in_turn ≡ false) in
    let v = subst P (sym c.loop.invariant.2) c.requires.view in
    let small : c.peek-next.result + 1 < 2 ^ 64 = omega arith in
    (search rules, omega arith, draws _ _ _ _ _ _ v.0 v.1 v.2 small)
