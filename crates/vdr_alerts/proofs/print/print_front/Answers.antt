use Rattle.std.proofs.Common.{◌≡◌, ◌++◌, ◌∷◌, List, ℕ, [], codes, rules, subst}
use Rattle.std.specs.List.{concat}
use Rattle.vdr_outside.specs.Writes.{AppendsFront}
use Rattle.vdr_alerts.specs.Boards.{alert_front}
use Rattle.vdr_alerts.specs.Lines.{front_text}
use Rattle.vdr_alerts.proofs.print.print_front.Goals as goal

pub returns-clause-front : goal.returns-clause-front
returns-clause-front g c =
    let text : List ℕ = front_text c.args.mark.now (codes " alert ") (record { group = c.alert.inside.group; name = c.as_slice-4.result.now })
    ++ concat (c.as_slice.result.now ∷ c.as_bytes-number.result.now ∷ codes " " ∷ c.as_slice-2.result.now ∷ codes " " ∷ c.as_slice-3.result.now ∷ codes " " ∷ c.args.state.now ∷ codes " " ∷ []) in
    let same : text ≡ alert_front c.args.mark.now c.args.alert.now c.args.state.now = search rules in
    let front : AppendsFront (g.O.Sink.taken c.args.out.now) (g.O.Sink.taken c.print_line.new.out) text = c.print_line.ensures.front in
    subst (λ (xs : List ℕ). AppendsFront (g.O.Sink.taken c.args.out.now) (g.O.Sink.taken c.print_line.new.out) xs) same front
