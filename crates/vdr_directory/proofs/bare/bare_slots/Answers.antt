use Rattle.std.proofs.Common.{sym, ◌∙◌, ◌+◌, List, ℕ, None, subst}
use Rattle.vdr_directory.proofs.Bringing.{FoundBare, after_bare, ends_bare, found_all, found_bare, found_none, found_other}
use Rattle.vdr_directory.proofs.Passing.{next_here}
use Rattle.vdr_directory.proofs.bare.bare_slots.Goals as goal
use Rattle.vdr_directory.proofs.bare.bare_slots.Goals.{then-is_bare+in_ok-push, else-is_bare}

pub loop-i-init : goal.loop-i-init
loop-i-init c placed order d = subst (λ (bare : List ℕ). FoundBare placed c.args.opened.now 0 bare) (sym c.new-bare.ensures.items) (found_none placed _ (ends_bare None placed order) d)

pub loop-i-preserved : goal.loop-i-preserved
loop-i-preserved c placed order d =
    let h = c.loop-i.invariant placed order d in
    let n = next_here _ _ h.rest _ c.loop-i-test.true h.ahead in
    let is = c.is_bare.ensures n.here n.after (after_bare placed _ _ _ _ h n) n.described n.slice in
    elim c.if-is_bare.branch [
      | then-is_bare+in_ok-push w ↦ rw w.bare-is (subst (λ (bare : List ℕ). FoundBare placed c.args.opened.now (c.loop-i.i + 1) bare) (sym w.in_ok-push.ensures.items)
          (found_bare placed _ _ _ _ h n (sym is ∙ w.if-is_bare.true)))
      | else-is_bare w ↦ rw w.bare-is (found_other placed _ _ _ _ h n (sym is ∙ w.if-is_bare.false))
    ]

pub returns : goal.returns
returns c placed order d = found_all placed _ _ _ c.loop-i-test.false (c.loop-i.invariant placed order d)
