use Rattle.std.proofs.Common.{◌++◌, List, ℕ, codes, append_assoc, refl}
use Rattle.std.specs.Prelude.{option_copied}
use Rattle.std.proofs.KnownBytes.{Appends-trans}
use Rattle.vdr_outside.proofs.Known.{front-more}
use Rattle.vdr_alerts.specs.Lines.{raw_text}
use Rattle.vdr_watch.specs.Texts.{state_text}
use Rattle.vdr_alerts.proofs.Writing.{both_all, both_front, first_front}
use Rattle.vdr_watch.proofs.print.print_alarm_line.Goals as goal

pub returns-in_err-print_state-clause-front : goal.returns-in_err-print_state-clause-front
returns-in_err-print_state-clause-front g c =
    let state : List ℕ = state_text c.args.mark.now c.args.alarm.now in
    let raw : List ℕ = raw_text (option_copied c.args.text) in
    first_front (g.O.Sink.taken c.args.out.now) _ (g.O.Sink.taken c.args.out.now) state (raw ++ codes "\n") _ (append_assoc state raw (codes "\n")) c.in_err-print_state.ensures.front

pub returns-in_err-print_text-clause-front : goal.returns-in_err-print_text-clause-front
returns-in_err-print_text-clause-front g c =
    let state : List ℕ = state_text c.args.mark.now c.args.alarm.now in
    let raw : List ℕ = raw_text (option_copied c.args.text) in
    front-more _ _ _ state raw (codes "\n") _ (append_assoc state raw (codes "\n")) c.in_ok-print_state.ensures.all c.in_err-print_text.ensures.front

pub returns-clause-all : goal.returns-clause-all
returns-clause-all g c =
    let state : List ℕ = state_text c.args.mark.now c.args.alarm.now in
    let raw : List ℕ = raw_text (option_copied c.args.text) in
    both_all _ _ _ (state ++ raw) (codes "\n") _ refl (Appends-trans _ _ _ state raw c.in_ok-print_state.ensures.all c.in_ok-print_text.ensures.all) c.write_all.result c.write_all.ensures.all

pub returns-clause-front : goal.returns-clause-front
returns-clause-front g c =
    let state : List ℕ = state_text c.args.mark.now c.args.alarm.now in
    let raw : List ℕ = raw_text (option_copied c.args.text) in
    both_front _ _ _ (state ++ raw) (codes "\n") _ refl (Appends-trans _ _ _ state raw c.in_ok-print_state.ensures.all c.in_ok-print_text.ensures.all) c.write_all.ensures.front
