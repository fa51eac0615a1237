use Rattle.std.proofs.Common.{◌∙◌, ◌++◌, List, ℕ, ap, sym, subst, append_assoc, append-nil, arith}
use Rattle.std.proofs.KnownBytes.{Appends-trans}
use Rattle.std.specs.Io.KnownBytes.{Appends}
use Rattle.vdr_outside.proofs.Known.{front-more}
use Rattle.vdr_base64.specs.Lines.{line_of, whole_lines}
use Rattle.vdr_base64.proofs.Pieces.{cut_off, no_more}
use Rattle.vdr_base64.proofs.lines.print_whole.Goals as goal

pub returns-in_err-print_line-clause-front : goal.returns-in_err-print_line-clause-front
returns-in_err-print_line-clause-front g c =
    let i = c.loop-rest.invariant in
    let step = cut_off c.loop-rest.rest.now c.split_at.result.0.now c.split_at.result.1.now (omega (arith, c.loop-rest-test.true)) c.split_at.ensures.front c.split_at.ensures.back in
    front-more _ _ _ i.0 (line_of c.split_at.result.0.now) (whole_lines c.split_at.result.1.now) (whole_lines c.args.bytes.now)
    (i.1 ∙ ap (λ (l : List ℕ). i.0 ++ l) step) i.2 c.in_err-print_line.ensures.front

pub loop-rest-preserved : goal.loop-rest-preserved
loop-rest-preserved g c =
    let i = c.loop-rest.invariant in
    let step = cut_off c.loop-rest.rest.now c.split_at.result.0.now c.split_at.result.1.now (omega (arith, c.loop-rest-test.true)) c.split_at.ensures.front c.split_at.ensures.back in (
      i.0 ++ line_of c.split_at.result.0.now,
      i.1 ∙ ap (λ (l : List ℕ). i.0 ++ l) step ∙ sym (append_assoc i.0 (line_of c.split_at.result.0.now) (whole_lines c.split_at.result.1.now)),
      Appends-trans _ _ _ i.0 (line_of c.split_at.result.0.now) i.2 c.in_ok-print_line.ensures.all,
      omega (arith, i.3, c.print_line.ensures.cause.later),
    )

pub returns-clause-all : goal.returns-clause-all
returns-clause-all g c =
    let i = c.loop-rest.invariant in
    subst (λ (l : List ℕ). Appends (g.O.Sink.taken c.args.out.now) (g.O.Sink.taken c.loop-rest.out) l)
    (sym (i.1 ∙ ap (λ (l : List ℕ). i.0 ++ l) (no_more c.loop-rest.rest.now (omega (arith, c.loop-rest-test.false))) ∙ append-nil i.0)) i.2
