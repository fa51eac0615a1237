use Rattle.std.proofs.Common.{◌≡◌, ◌<◌, ◌∙◌, List, ℕ, ap, arith, get_or, length, set, sym}
use Rattle.std.proofs.Math.Numerals.{add-one}
use Rattle.vdr_alerts.specs.Alerts.{Alert, behind_list}
use Rattle.vdr_alerts.proofs.Keeping.{at_next, one_over, over}
use Rattle.vdr_alerts.proofs.board.list_all.Goals as goal

pub loop-alert-preserved : goal.loop-alert-preserved
loop-alert-preserved c =
    let xs : List Alert = c.args.alerts.now in
    let i : ℕ = c.loop-alert.alert-index in
    let a : Alert = c.alert-item.result in
    let f : Alert → Alert = behind_list c.args.is_ended c.args.part.now c.args.reading.now.values in
    let lt : i < length xs = let below = c.loop-alert-test.true in omega (arith, below) in
    let here : get_or c.loop-alert.alerts i a ≡ get_or xs i a = ap (λ (ys : List Alert). get_or ys i a) c.loop-alert.invariant ∙ at_next f xs i a lt in
    ap (λ (ys : List Alert). set ys i c.list.new.self) c.loop-alert.invariant
    ∙ ap (λ (y : Alert). set (over f i xs) i y) (c.list.ensures ∙ ap f here)
    ∙ one_over f xs i a lt
    ∙ ap (λ (n : ℕ). over f n xs) (sym (add-one i))
