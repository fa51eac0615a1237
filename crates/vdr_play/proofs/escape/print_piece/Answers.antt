use Rattle.std.proofs.Common.{arith, ap, sym, subst, ◌++◌, ◌∙◌, drop, List, ℕ}
use Rattle.std.specs.Io.KnownBytes.{Appends}
use Rattle.vdr_entry.specs.Escape.{escaped}
use Rattle.vdr_play.proofs.EscapeLemmas.{escaped-cut, escaped-run, escaped-first}
use Rattle.vdr_play.proofs.Fronts.{on_err, front-first}
use Rattle.vdr_play.proofs.escape.print_piece.Goals as goal

pub returns-in_err-write_all-clause-front : goal.returns-in_err-write_all-clause-front
returns-in_err-write_all-clause-front g c =
    let bytes : List ℕ = c.args.bytes.now in
    let n : ℕ = c.plain_run-run.result in
    let cut = escaped-cut n bytes ∙ ap (λ (xs : List ℕ). xs ++ escaped (drop n bytes)) (escaped-run bytes n c.plain_run-run.ensures) in
    on_err c.from_residual.result _ (front-first _ _ _ (escaped (drop n bytes)) (escaped bytes) cut c.in_err-write_all.ensures.front)

pub returns-then-run-gt0-clause-all : goal.returns-then-run-gt0-clause-all
returns-then-run-gt0-clause-all g c =
    subst (λ (xs : List ℕ). Appends (g.O.Sink.taken c.args.out.now) (g.O.Sink.taken c.write_all.new.sink) xs) (sym (escaped-run c.args.bytes.now c.plain_run-run.result c.plain_run-run.ensures)) c.in_ok-write_all.ensures.all

pub returns-in_err-write_all-2-clause-front : goal.returns-in_err-write_all-2-clause-front
returns-in_err-write_all-2-clause-front g c =
    let bytes : List ℕ = c.args.bytes.now in
    let cut = escaped-cut 1 bytes
    ∙ ap (λ (xs : List ℕ). xs ++ escaped (drop 1 bytes)) (escaped-first bytes c.plain_run-run.result c.hex_digit.result c.hex_digit-2.result c.plain_run-run.ensures (omega (arith, c.if-run-gt0.false)) c.requires c.hex_digit.ensures c.hex_digit-2.ensures) in
    on_err c.from_residual-in_err-write_all-2.result _ (front-first _ _ _ (escaped (drop 1 bytes)) (escaped bytes) cut c.in_err-write_all-2.ensures.front)
