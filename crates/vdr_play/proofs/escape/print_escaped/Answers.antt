use Rattle.std.proofs.Common.{◌≡◌, ◌++◌, [], take, drop, arith, ap, sym, subst, ◌∙◌, List, ℕ}
use Rattle.std.proofs.lemmas.List.{take_rest, append-nil, length-drop}
use Rattle.std.proofs.KnownBytes.{Appends-trans}
use Rattle.std.specs.Io.KnownBytes.{Appends}
use Rattle.vdr_entry.specs.Escape.{escaped}
use Rattle.vdr_play.proofs.EscapeLemmas.{escaped-cut, escaped-more}
use Rattle.vdr_outside.proofs.Known.{front-more}
use Rattle.vdr_play.proofs.escape.print_escaped.Goals as goal

pub returns-in_err-done-clause-front : goal.returns-in_err-done-clause-front
returns-in_err-done-clause-front g c =
    let bytes : List ℕ = c.args.bytes.now in
    let done : ℕ = c.loop-done.done in
    let cut : escaped bytes ≡ escaped (take done bytes) ++ (escaped (drop done bytes) ++ []) = escaped-cut done bytes ∙ ap (λ (xs : List ℕ). escaped (take done bytes) ++ xs) (sym (append-nil (escaped (drop done bytes)))) in
    front-more _ _ _ (escaped (take done bytes)) (escaped (drop done bytes)) [] (escaped bytes) cut c.loop-done.invariant.written (rw take_rest at c.in_err-done.ensures.front)

pub loop-done-preserved : goal.loop-done-preserved
loop-done-preserved g c =
    let bytes : List ℕ = c.args.bytes.now in
    let done : ℕ = c.loop-done.done in
    let n : ℕ = c.in_ok-done.field-0 in
    let within = rw take_rest at c.in_ok-done.ensures.within in
    let piece = rw take_rest at c.in_ok-done.ensures.all in
    let cause = c.print_piece.ensures.cause.later in
    record {
      within = omega (arith, within, length-drop done bytes, c.loop-done.invariant.within);
      written = subst (λ (xs : List ℕ). Appends (g.O.Sink.taken c.args.out.now) (g.O.Sink.taken c.print_piece.new.out) xs) (sym (escaped-more bytes done n)) (Appends-trans _ _ _ _ _ c.loop-done.invariant.written piece);
      later = omega (arith, cause, c.loop-done.invariant.later);
    }
