use Rattle.std.proofs.Common.{◌∙◌, List, ℕ, ap, subst, sym}
use Rattle.std.specs.Io.KnownBytes.{Appends}
use Rattle.vdr_outside.specs.Writes.{AppendsFront}
use Rattle.vdr_alerts.specs.Alerts.{Alert, alert_cmp}
use Rattle.vdr_alerts.specs.Rows.{AreOrdered, IsPlaced, row_at}
use Rattle.vdr_alerts.proofs.Keeping.{put_told, text_told}
use Rattle.vdr_alerts.proofs.Ordered.{find_placed, put_placed}
use Rattle.vdr_alerts.proofs.Orders.{alert_total}
use Rattle.vdr_alerts.proofs.board.tell_alert.Goals as goal

pub place_of_alert-place-requires : goal.place_of_alert-place-requires
place_of_alert-place-requires g c = subst (AreOrdered alert_cmp) (sym c.as_slice.ensures.value) c.requires.ordered

pub returns-in_err-print_change-clause-front : goal.returns-in_err-print_change-clause-front
returns-in_err-print_change-clause-front g c =
    let place = c.place_of_alert-place.result in
    let rows : List Alert = c.args.alerts.now.items in
    let p = subst (λ (rows : List Alert). IsPlaced (λ a. alert_cmp a c.in-Some.alert) rows place) c.as_slice.ensures.value c.place_of_alert-place.ensures in
    let before = c.found-before.ensures ∙ ap (row_at place) c.as_slice-2.ensures.value ∙ find_placed alert_cmp alert_total rows c.in-Some.alert c.requires.ordered place p in
    subst (λ (xs : List ℕ). AppendsFront (g.O.Sink.taken c.args.out.now) (g.O.Sink.taken c.print_change.new.out) xs)
    (text_told c.args.mark.now rows _ _ _ c.args.title.now c.args.rest.now before c.in-Some.is) c.in_err-print_change.ensures.front

pub returns-clause-kept : goal.returns-clause-kept
returns-clause-kept g c =
    let place = c.place_of_alert-place.result in
    let rows : List Alert = c.args.alerts.now.items in
    let p = subst (λ (rows : List Alert). IsPlaced (λ a. alert_cmp a c.in-Some.alert) rows place) c.as_slice.ensures.value c.place_of_alert-place.ensures in
    c.put_row.ensures.rows ∙ put_placed alert_cmp alert_total rows c.in-Some.alert c.requires.ordered place p ∙ put_told rows _ _ c.in-Some.is

pub returns-clause-all : goal.returns-clause-all
returns-clause-all g c =
    let place = c.place_of_alert-place.result in
    let rows : List Alert = c.args.alerts.now.items in
    let p = subst (λ (rows : List Alert). IsPlaced (λ a. alert_cmp a c.in-Some.alert) rows place) c.as_slice.ensures.value c.place_of_alert-place.ensures in
    let before = c.found-before.ensures ∙ ap (row_at place) c.as_slice-2.ensures.value ∙ find_placed alert_cmp alert_total rows c.in-Some.alert c.requires.ordered place p in
    subst (λ (xs : List ℕ). Appends (g.O.Sink.taken c.args.out.now) (g.O.Sink.taken c.print_change.new.out) xs)
    (text_told c.args.mark.now rows _ _ _ c.args.title.now c.args.rest.now before c.in-Some.is) c.in_ok-print_change.ensures.all

pub returns-clause-front : goal.returns-clause-front
returns-clause-front g c =
    let place = c.place_of_alert-place.result in
    let rows : List Alert = c.args.alerts.now.items in
    let p = subst (λ (rows : List Alert). IsPlaced (λ a. alert_cmp a c.in-Some.alert) rows place) c.as_slice.ensures.value c.place_of_alert-place.ensures in
    let before = c.found-before.ensures ∙ ap (row_at place) c.as_slice-2.ensures.value ∙ find_placed alert_cmp alert_total rows c.in-Some.alert c.requires.ordered place p in
    subst (λ (xs : List ℕ). AppendsFront (g.O.Sink.taken c.args.out.now) (g.O.Sink.taken c.print_change.new.out) xs)
    (text_told c.args.mark.now rows _ _ _ c.args.title.now c.args.rest.now before c.in-Some.is) c.in_ok-print_change.ensures.front
