use Rattle.std.proofs.Common.{◌∙◌, List, Option, ap, subst, sym}
use Rattle.std.specs.Prelude.{option_copied}
use Rattle.std.specs.Io.KnownBytes.{Appends}
use Rattle.vdr_outside.specs.Writes.{AppendsFront}
use Rattle.vdr_alerts.specs.Rows.{IsPlaced, row_at}
use Rattle.vdr_watch.specs.Signs.{Alarm}
use Rattle.vdr_alerts.specs.Rows.{AreOrdered}
use Rattle.vdr_watch.specs.Supervision.{alarm_cmp}
use Rattle.vdr_watch.specs.Texts.{alarm_text}
use Rattle.vdr_watch.proofs.Keeping.{kept_with_state, last_state_found}
use Rattle.vdr_watch.proofs.Orders.{states_ordered}
use Rattle.vdr_watch.proofs.tables.Tables.tell_alarm.Goals as goal

pub place_of_alarm-place-requires : goal.place_of_alarm-place-requires
place_of_alarm-place-requires g c = subst (AreOrdered alarm_cmp) (sym (c.as_slice.ensures.value ∙ c.requires.kept.1.states)) (states_ordered c.requires.kept.0)

pub returns-in_err-print_alarm-clause-front : goal.returns-in_err-print_alarm-clause-front
returns-in_err-print_alarm-clause-front g c met keeps =
    let p = subst (λ (rows : List Alarm). IsPlaced (λ a. alarm_cmp a c.args.alarm) rows c.place_of_alarm-place.result) c.as_slice.ensures.value c.place_of_alarm-place.ensures in
    let before = c.found-before.ensures ∙ ap (row_at c.place_of_alarm-place.result) c.as_slice-2.ensures.value ∙ last_state_found met _ keeps.states c.args.alarm _ p in
    subst (λ (o : Option Alarm). AppendsFront (g.O.Sink.taken c.args.out.now) (g.O.Sink.taken c.print_alarm.new.out) (alarm_text c.args.mark.now o c.args.alarm (option_copied c.args.text))) before c.in_err-print_alarm.ensures.front

pub returns-clause-kept : goal.returns-clause-kept
returns-clause-kept g c met keeps =
    let p = subst (λ (rows : List Alarm). IsPlaced (λ a. alarm_cmp a c.args.alarm) rows c.place_of_alarm-place.result) c.as_slice.ensures.value c.place_of_alarm-place.ensures in
    record {
      beats = keeps.beats;
      states = c.put_row.ensures.rows ∙ kept_with_state met _ keeps.states c.args.alarm _ p (option_copied c.args.text);
      alerts = keeps.alerts;
    }

pub returns-clause-all : goal.returns-clause-all
returns-clause-all g c met keeps =
    let p = subst (λ (rows : List Alarm). IsPlaced (λ a. alarm_cmp a c.args.alarm) rows c.place_of_alarm-place.result) c.as_slice.ensures.value c.place_of_alarm-place.ensures in
    let before = c.found-before.ensures ∙ ap (row_at c.place_of_alarm-place.result) c.as_slice-2.ensures.value ∙ last_state_found met _ keeps.states c.args.alarm _ p in
    subst (λ (o : Option Alarm). Appends (g.O.Sink.taken c.args.out.now) (g.O.Sink.taken c.print_alarm.new.out) (alarm_text c.args.mark.now o c.args.alarm (option_copied c.args.text))) before c.in_ok-print_alarm.ensures.all

pub returns-clause-front : goal.returns-clause-front
returns-clause-front g c met keeps =
    let p = subst (λ (rows : List Alarm). IsPlaced (λ a. alarm_cmp a c.args.alarm) rows c.place_of_alarm-place.result) c.as_slice.ensures.value c.place_of_alarm-place.ensures in
    let before = c.found-before.ensures ∙ ap (row_at c.place_of_alarm-place.result) c.as_slice-2.ensures.value ∙ last_state_found met _ keeps.states c.args.alarm _ p in
    subst (λ (o : Option Alarm). AppendsFront (g.O.Sink.taken c.args.out.now) (g.O.Sink.taken c.print_alarm.new.out) (alarm_text c.args.mark.now o c.args.alarm (option_copied c.args.text))) before c.in_ok-print_alarm.ensures.front
