use Rattle.std.proofs.Common.{◌≡◌, ◌++◌, List, ℕ, [], codes, rules, subst}
use Rattle.vdr_outside.specs.Writes.{AppendsFront}
use Rattle.vdr_alerts.specs.Lines.{front_text}
use Rattle.vdr_watch.specs.Texts.{jump_text}
use Rattle.vdr_watch.proofs.print.print_jump.Goals as goal

pub returns-clause-front : goal.returns-clause-front
returns-clause-front g c =
    let text : List ℕ = front_text c.args.mark.now (codes " jump ") (record { group = c.before-2.inside.group; name = c.as_slice.result.now })
    ++ (c.as_bytes-old.result.now ++ (codes " " ++ (c.as_bytes-new.result.now ++ (codes "\n" ++ [])))) in
    let same : text ≡ jump_text c.args.mark.now c.args.before.now.source c.args.before.now.sequence c.args.sequence = search rules in
    let front : AppendsFront (g.O.Sink.taken c.args.out.now) (g.O.Sink.taken c.print_line.new.out) text = c.print_line.ensures.front in
    subst (λ (xs : List ℕ). AppendsFront (g.O.Sink.taken c.args.out.now) (g.O.Sink.taken c.print_line.new.out) xs) same front
