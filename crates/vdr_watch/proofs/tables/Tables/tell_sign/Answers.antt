use Rattle.std.proofs.Common.{◌≡◌, ◌∙◌, [], List, ℕ, OnOk, Option, Some, ap, subst, sym}
use Rattle.std.specs.Prelude.{option_copied, option_map}
use Rattle.std.specs.List.{cons_option}
use Rattle.std.specs.Io.KnownBytes.{Appends}
use Rattle.std.proofs.lemmas.List.{append-nil}
use Rattle.vdr_datagram.specs.Views.{verdict_of}
use Rattle.vdr_outside.specs.Writes.{AppendsFront}
use Rattle.vdr_watch.specs.Signs.{Alarms, Beats, Says, Sign, sign_in}
use Rattle.vdr_alerts.specs.Views.{saying_value}
use Rattle.vdr_watch.specs.SignViews.{sign_value}
use Rattle.vdr_alerts.specs.Lines.{Mark}
use Rattle.vdr_watch.specs.Texts.{sign_text, signs_text}
use Rattle.vdr_watch.proofs.tables.Tables.tell_sign.Goals as goal

pub returns-in-Some-Heartbeat-clause-front : goal.returns-in-Some-Heartbeat-clause-front
returns-in-Some-Heartbeat-clause-front g c met keeps =
    let m : Mark = c.args.mark.now in
    let s : Sign = Beats c.in-Some-Heartbeat.beat in
    let made : Some s ≡ option_map sign_value c.sign_in.result = sym (ap (option_map sign_value) (c.in-Some-Heartbeat.is ∙ ap (λ x. Some x) c.in-Some-Heartbeat.field-0-is)) in
    let is : Some s ≡ sign_in c.args.group m.tick (verdict_of c.args.verdict.now) = made ∙ c.sign_in.ensures ∙ ap (λ (m : Mark). sign_in c.args.group m.tick (verdict_of c.args.verdict.now)) c.mark.view_is in
    let whole = sym (append-nil (sign_text m met s)) ∙ ap (λ (o : Option Sign). signs_text m met (cons_option o [])) is in
    subst (λ (xs : List ℕ). AppendsFront (g.O.Sink.taken c.args.out.now) (g.O.Sink.taken c.tell_heartbeat.new.out) xs) whole (c.tell_heartbeat.ensures.front met keeps)

pub returns-in-Some-Alarm-clause-front : goal.returns-in-Some-Alarm-clause-front
returns-in-Some-Alarm-clause-front g c met keeps =
    let m : Mark = c.args.mark.now in
    let s : Sign = Alarms c.in-Some-Alarm.alarm (option_copied c.in-Some-Alarm.text) in
    let made : Some s ≡ option_map sign_value c.sign_in.result = sym (ap (option_map sign_value) (c.in-Some-Alarm.is ∙ ap (λ x. Some x) c.in-Some-Alarm.field-0-is)) in
    let is : Some s ≡ sign_in c.args.group m.tick (verdict_of c.args.verdict.now) = made ∙ c.sign_in.ensures ∙ ap (λ (m : Mark). sign_in c.args.group m.tick (verdict_of c.args.verdict.now)) c.mark.view_is in
    let whole = sym (append-nil (sign_text m met s)) ∙ ap (λ (o : Option Sign). signs_text m met (cons_option o [])) is in
    subst (λ (xs : List ℕ). AppendsFront (g.O.Sink.taken c.args.out.now) (g.O.Sink.taken c.tell_alarm.new.out) xs) whole (c.tell_alarm.ensures.front met keeps)

pub returns-in-Some-Alert-clause-front : goal.returns-in-Some-Alert-clause-front
returns-in-Some-Alert-clause-front g c met keeps =
    let m : Mark = c.args.mark.now in
    let s : Sign = Says (saying_value c.in-Some-Alert.saying) in
    let made : Some s ≡ option_map sign_value c.sign_in.result = sym (ap (option_map sign_value) (c.in-Some-Alert.is ∙ ap (λ x. Some x) c.in-Some-Alert.field-0-is)) in
    let is : Some s ≡ sign_in c.args.group m.tick (verdict_of c.args.verdict.now) = made ∙ c.sign_in.ensures ∙ ap (λ (m : Mark). sign_in c.args.group m.tick (verdict_of c.args.verdict.now)) c.mark.view_is in
    let whole = sym (append-nil (sign_text m met s)) ∙ ap (λ (o : Option Sign). signs_text m met (cons_option o [])) is in
    subst (λ (xs : List ℕ). AppendsFront (g.O.Sink.taken c.args.out.now) (g.O.Sink.taken c.tell_alert.new.out) xs) whole (c.tell_alert.ensures.front met keeps)

pub returns-in-Some-Alert-clause-all : goal.returns-in-Some-Alert-clause-all
returns-in-Some-Alert-clause-all g c met keeps =
    let m : Mark = c.args.mark.now in
    let s : Sign = Says (saying_value c.in-Some-Alert.saying) in
    let made : Some s ≡ option_map sign_value c.sign_in.result = sym (ap (option_map sign_value) (c.in-Some-Alert.is ∙ ap (λ x. Some x) c.in-Some-Alert.field-0-is)) in
    let is : Some s ≡ sign_in c.args.group m.tick (verdict_of c.args.verdict.now) = made ∙ c.sign_in.ensures ∙ ap (λ (m : Mark). sign_in c.args.group m.tick (verdict_of c.args.verdict.now)) c.mark.view_is in
    let whole = sym (append-nil (sign_text m met s)) ∙ ap (λ (o : Option Sign). signs_text m met (cons_option o [])) is in
    subst (λ (xs : List ℕ). OnOk c.tell_alert.result (Appends (g.O.Sink.taken c.args.out.now) (g.O.Sink.taken c.tell_alert.new.out) xs)) whole (c.tell_alert.ensures.all met keeps)
