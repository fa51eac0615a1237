use Rattle.std.proofs.Common.{◌≡◌, ◌++◌, ℕ, suc, List, option_map, unwrap_or}
use mathlib.Core.List.{IsPrefix}
use Rattle.vdr_control.specs.Orders.{PlainOrder}
use Rattle.vdr_desk.specs.Answers.{HasTold}
use Rattle.vdr_desk.proofs.Conversing.{HasSent}
use Rattle.vdr_desk.proofs.telling.tell_on.Given as goal

abbrev pub invariant-loop-left : goal.invariant-loop-left
invariant-loop-left g l = record {
  pass : (l.pass.latch ≡ l.initial.pass.latch) × (l.pass.parts ≡ l.initial.pass.parts) × (l.pass.leads ≡ l.initial.pass.leads);
  seen : IsPrefix l.initial.pass.seen l.pass.seen;
  more : List ℕ;
  sent : HasSent g.L.Link l.initial.link l.link more;
  waits : (from : ℕ) × (order : PlainOrder) × (text : List ℕ) × HasTold (g.T.Answers.answers l.desk) (g.T.Answers.waits l.desk) from order l.pass.seen text l.left;
  told : (from : ℕ) (order : PlainOrder) (text : List ℕ) → HasTold (g.T.Answers.answers l.desk) (g.T.Answers.waits l.desk) from order l.initial.pass.seen text l.fn.left
      → HasTold (g.T.Answers.answers l.desk) (g.T.Answers.waits l.desk) from order l.pass.seen (text ++ more) l.left;
}

abbrev pub decreases-loop-left : goal.decreases-loop-left
decreases-loop-left g l = unwrap_or (option_map (λ rest. suc (g.T.Answers.left rest)) l.left) 0
