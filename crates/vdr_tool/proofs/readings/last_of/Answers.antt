use Rattle.std.proofs.Common.{◌∙◌, ℤ, Some, sym, ap, rules, w64}
use mir.Val.{SFits}
use Rattle.std.proofs.lemmas.Int.{to_z-of_z}
use Rattle.vdr_control.specs.Orders.{plain as plain_order}
use Rattle.vdr_tool.proofs.WordLemmas.{last_in, order_up_to, up_to_spelled}
use Rattle.vdr_tool.proofs.readings.last_of.Goals as goal

pub returns-in_err-medium-clause-found : goal.returns-in_err-medium-clause-found
returns-in_err-medium-clause-found c = λ asked until legal is spelled.
    absurd (c.in_err-medium.ensures.none (order_up_to asked until)
    (up_to_spelled c.as_bytes.result.now c.args.name.now c.as_bytes-2.result.now c.args.bound.now asked until c.as_bytes.ensures.value c.as_bytes-2.ensures.value legal is spelled))

pub returns-in-Play-clause-found : goal.returns-in-Play-clause-found
returns-in-Play-clause-found c = λ asked until legal is spelled.
    let same = c.law_of_plays.ensures _ _ _ _ (plain_order c.in_ok-medium.field-0) (order_up_to asked until) c.in_ok-medium.ensures.found
    (up_to_spelled c.as_bytes.result.now c.args.name.now c.as_bytes-2.result.now c.args.bound.now asked until c.as_bytes.ensures.value c.as_bytes-2.ensures.value legal is spelled) in
    let fits : SFits w64 c.in-Play.to = search rules in
    ap (λ (t : ℤ). Some (c.in-Play.medium, t)) (to_z-of_z w64 c.in-Play.to fits) ∙ ap last_in (ap plain_order (sym c.in-Play.is) ∙ same)
