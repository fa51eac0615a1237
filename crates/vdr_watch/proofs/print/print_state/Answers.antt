use Rattle.std.proofs.Common.{◌≡◌, ◌++◌, ◌∷◌, List, ℕ, [], codes, rules, subst}
use Rattle.std.specs.List.{concat}
use Rattle.vdr_outside.specs.Writes.{AppendsFront}
use Rattle.vdr_alerts.specs.Lines.{front_text}
use Rattle.vdr_watch.specs.Texts.{state_text}
use Rattle.vdr_watch.proofs.print.print_state.Goals as goal

pub returns-clause-front : goal.returns-clause-front
returns-clause-front g c =
    let text : List ℕ = front_text c.args.mark.now (codes " alarm ") (record { group = c.alarm.inside.group; name = c.as_slice-3.result.now })
    ++ concat (c.as_bytes-number.result.now ∷ codes " " ∷ c.as_slice.result.now ∷ codes " " ∷ c.as_slice-2.result.now ∷ codes " " ∷ []) in
    let same : text ≡ state_text c.args.mark.now c.args.alarm.now = search rules in
    let front : AppendsFront (g.O.Sink.taken c.args.out.now) (g.O.Sink.taken c.print_line.new.out) text = c.print_line.ensures.front in
    subst (λ (xs : List ℕ). AppendsFront (g.O.Sink.taken c.args.out.now) (g.O.Sink.taken c.print_line.new.out) xs) same front
