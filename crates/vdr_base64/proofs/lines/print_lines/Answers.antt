use Rattle.std.proofs.Common.{◌≡◌, ◌∙◌, ◌++◌, List, [], ℕ, length, ap, refl, sym, subst, append-nil}
use Rattle.std.specs.Io.KnownBytes.{Appends}
use Rattle.std.proofs.KnownBytes.{Appends-trans}
use Rattle.vdr_outside.proofs.Known.{front-more}
use Rattle.vdr_visit.proofs.Printing.{front_of_whole}
use Rattle.vdr_base64.specs.Lines.{last_line, left_over, lines_of, whole_lines}
use Rattle.vdr_base64.proofs.Pieces.{lines_behind, lines_split, on_ok, rest_few}
use Rattle.vdr_base64.proofs.lines.print_lines.Goals as goal

pub returns-in_err-print_whole-clause-front : goal.returns-in_err-print_whole-clause-front
returns-in_err-print_whole-clause-front g c =
    subst (λ (l : List ℕ). (front rest : List ℕ) × (l ≡ front ++ rest) × Appends (g.O.Sink.taken c.args.out.now) (g.O.Sink.taken c.print_whole.new.out) front) (sym (lines_split c.args.bytes.now))
    (front_of_whole _ _ (whole_lines c.args.bytes.now) (last_line (left_over c.args.bytes.now)) c.in_err-print_whole.ensures.front)

pub print_last-requires : goal.print_last-requires
print_last-requires g c = rest_few c.args.bytes.now c.split_at.result.1.now (length c.args.bytes.now) refl c.split_at.ensures.back

pub returns-clause-all : goal.returns-clause-all
returns-clause-all g c =
    on_ok c.print_last.result
    (λ more. subst (λ (l : List ℕ). Appends (g.O.Sink.taken c.args.out.now) (g.O.Sink.taken c.print_last.new.out) l) (sym (lines_behind c.args.bytes.now c.split_at.result.1.now (length c.args.bytes.now) refl c.split_at.ensures.back))
    (Appends-trans _ _ _ (whole_lines c.args.bytes.now) (last_line c.split_at.result.1.now) c.in_ok-print_whole.ensures.all more)) c.print_last.ensures.all

pub returns-clause-front : goal.returns-clause-front
returns-clause-front g c =
    front-more _ _ _ (whole_lines c.args.bytes.now) (last_line c.split_at.result.1.now) [] (lines_of c.args.bytes.now)
    (lines_behind c.args.bytes.now c.split_at.result.1.now (length c.args.bytes.now) refl c.split_at.ensures.back ∙ ap (λ (l : List ℕ). whole_lines c.args.bytes.now ++ l) (sym (append-nil (last_line c.split_at.result.1.now))))
    c.in_ok-print_whole.ensures.all c.print_last.ensures.front
