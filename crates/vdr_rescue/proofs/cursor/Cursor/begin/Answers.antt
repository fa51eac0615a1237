use Rattle.std.proofs.Common.{rules, ℕ, List, subst}
use Rattle.vdr_rescue.specs.Cursors.{CursorState}
use Rattle.vdr_rescue.specs.Judging.{Judges}
use Rattle.vdr_rescue.proofs.cursor.Cursor.begin.Goals as goal

pub returns : goal.returns
returns c = (
  c.judge-fault.result,
  subst (λ (v : CursorState). Judges v.buffer v.before v.reached c.args.head c.judge-fault.result) c.self.view_is
      (subst (λ (bs : List ℕ). Judges bs c.self.inside.before c.self.inside.reached c.args.head c.judge-fault.result) c.deref.ensures.value c.judge-fault.ensures.judges),
  search rules,
)
