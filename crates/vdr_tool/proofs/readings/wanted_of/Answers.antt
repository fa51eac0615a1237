use Rattle.std.proofs.Common.{◌≡◌, ◌∙◌, Option, Some, sym, ap, rules, w64, to_z, of_z}
use mir.Val.{SFits}
use Rattle.std.proofs.lemmas.Int.{to_z-of_z}
use Rattle.vdr_control.specs.Orders.{PlainOrder, plain as plain_order}
use Rattle.vdr_control.specs.Orders.PlainOrder.{Play as PlayOrder}
use Rattle.vdr_readout.specs.Reads.{AskedPlay}
use Rattle.vdr_tool.proofs.WordLemmas.{one_asked, spelled_along}
use Rattle.vdr_tool.proofs.readings.wanted_of.Goals as goal

pub returns-in_err-order-clause-found : goal.returns-in_err-order-clause-found
returns-in_err-order-clause-found c = λ asked spelled.
    let order : PlainOrder = PlayOrder asked.medium asked.channel asked.from asked.to in
    absurd (c.in_err-order.ensures.none order (spelled_along _ _ _ _ _ _ _ _ order (sym c.as_bytes.ensures.value) (sym c.as_bytes-2.ensures.value) (sym c.as_bytes-3.ensures.value) (sym c.as_bytes-4.ensures.value) spelled))

pub returns-in-Play-clause-found : goal.returns-in-Play-clause-found
returns-in-Play-clause-found c = λ asked spelled.
    let order : PlainOrder = PlayOrder asked.medium asked.channel asked.from asked.to in
    let same = c.law_of_plays.ensures _ _ _ _ (plain_order c.in_ok-order.order) order c.in_ok-order.ensures.found
    (spelled_along _ _ _ _ _ _ _ _ order (sym c.as_bytes.ensures.value) (sym c.as_bytes-2.ensures.value) (sym c.as_bytes-3.ensures.value) (sym c.as_bytes-4.ensures.value) spelled) in
    let first : SFits w64 c.in-Play.from = search rules in
    let last : SFits w64 c.in-Play.to = search rules in
    let kept_from : to_z w64 (of_z w64 c.in-Play.from) ≡ c.in-Play.from = to_z-of_z w64 c.in-Play.from first in
    let kept_to : to_z w64 (of_z w64 c.in-Play.to) ≡ c.in-Play.to = to_z-of_z w64 c.in-Play.to last in
    let kept : ◌≡◌ {A = Option AskedPlay} (Some (record { medium = c.in-Play.medium; channel = c.in-Play.channel.now; from = to_z w64 (of_z w64 c.in-Play.from); to = to_z w64 (of_z w64 c.in-Play.to) }))
    (Some (record { medium = c.in-Play.medium; channel = c.in-Play.channel.now; from = c.in-Play.from; to = c.in-Play.to })) =
    (λ i. Some (record { medium = c.in-Play.medium; channel = c.in-Play.channel.now; from = kept_from i; to = kept_to i })) in
    kept ∙ one_asked c.in-Play.medium c.in-Play.channel.now c.in-Play.from c.in-Play.to asked (ap plain_order (sym c.in-Play.is) ∙ same)
