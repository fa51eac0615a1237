use Rattle.std.proofs.Common.{◌++◌, List, ℕ, codes, append_assoc, refl, sym}
use Rattle.std.proofs.KnownBytes.{Appends-trans}
use Rattle.vdr_outside.proofs.Known.{front-more}
use Rattle.vdr_alerts.specs.Boards.{alert_front, texts_text}
use Rattle.vdr_alerts.specs.Lines.{letter_text}
use Rattle.vdr_alerts.proofs.Writing.{both_all, both_front, first_front}
use Rattle.vdr_alerts.proofs.print.print_alert_line.Goals as goal

pub returns-in_err-print_state-clause-front : goal.returns-in_err-print_state-clause-front
returns-in_err-print_state-clause-front g c =
    let state : List ℕ = alert_front c.args.mark.now c.args.alert.now (letter_text c.args.alert.now.state) in
    let texts : List ℕ = texts_text c.args.title.now c.args.rest.now in
    first_front (g.O.Sink.taken c.args.out.now) _ (g.O.Sink.taken c.args.out.now) state (texts ++ codes "\n") _ refl c.in_err-print_state.ensures.front

pub returns-in_err-print_texts-clause-front : goal.returns-in_err-print_texts-clause-front
returns-in_err-print_texts-clause-front g c =
    let state : List ℕ = alert_front c.args.mark.now c.args.alert.now (letter_text c.args.alert.now.state) in
    let texts : List ℕ = texts_text c.args.title.now c.args.rest.now in
    front-more _ _ _ state texts (codes "\n") _ refl c.in_ok-print_state.ensures.all c.in_err-print_texts.ensures.front

pub returns-clause-all : goal.returns-clause-all
returns-clause-all g c =
    let state : List ℕ = alert_front c.args.mark.now c.args.alert.now (letter_text c.args.alert.now.state) in
    let texts : List ℕ = texts_text c.args.title.now c.args.rest.now in
    both_all _ _ _ (state ++ texts) (codes "\n") _ (sym (append_assoc state texts (codes "\n"))) (Appends-trans _ _ _ state texts c.in_ok-print_state.ensures.all c.in_ok-print_texts.ensures.all) c.write_all.result c.write_all.ensures.all

pub returns-clause-front : goal.returns-clause-front
returns-clause-front g c =
    let state : List ℕ = alert_front c.args.mark.now c.args.alert.now (letter_text c.args.alert.now.state) in
    let texts : List ℕ = texts_text c.args.title.now c.args.rest.now in
    both_front _ _ _ (state ++ texts) (codes "\n") _ (sym (append_assoc state texts (codes "\n"))) (Appends-trans _ _ _ state texts c.in_ok-print_state.ensures.all c.in_ok-print_texts.ensures.all) c.write_all.ensures.front
