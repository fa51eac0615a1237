use Rattle.std.proofs.Common.{◌≡◌, ℕ, ◌<◌, ◌+◌, ◌%◌, ◌^◌, true, false, Option, Some, None, List, [], ◌∷◌, rules, sym, ap, ◌∙◌, refl, subst, arith}
use mathlib.Core.Option.{none}
use Rattle.atomic_table.specs.Table.{Me, Allows, step, rest}
use Rattle.vdr_latch.specs.declared.view.View.{View}
use Rattle.vdr_latch.specs.Rule.{IsKept}
use Rattle.vdr_latch.specs.Steps.{Serves}
use Rattle.vdr_latch.proofs.Serving.{serves}
use Rattle.vdr_latch.proofs.turn.leave.Goals as goal

pub fetch_add-requires : goal.fetch_add-requires
fetch_add-requires g c =
    let v = c.args.seat.now.me.0 in
    let slots = c.args.words.now.table_id.slots in
    let is : c.exchange.new.seat.me ≡ (v, (0, Some c.args.value) ∷ []) = c.exchange.ensures.3 ∙ ap (λ (l : List (ℕ × Option g.row.T.Denot)). (v, (0, Some c.args.value) ∷ rest l)) c.requires.view.2 in
    let A : Me (Option g.row.T.Denot) (View g.row.T-Event.Denot) × List g.row.T-Event.Denot → Type 0 = λ y.
    Allows (IsKept g.T.Stepped.leaves g.T.Stepped.leading) slots c.exchange.new.seat.id y.0 0 (λ n. (n + 1) % 2 ^ 64) (Serves y.1 (step slots 0 1 0 none) y.0) in
    let e = c.requires.event in
    let allows = serves g.T.Stepped.leaves g.T.Stepped.leading slots c.exchange.new.seat.id v (Some c.args.value) c.args.value e.0 c.requires.view.0 c.requires.view.1 refl e.2 e.3 in
    (search rules, omega arith, subst A (λ i. (sym is i, sym e.1 i)) allows)
