use Rattle.std.proofs.Common.{◌∙◌, List, ℕ, ap, subst, sym}
use Rattle.std.specs.Io.KnownBytes.{Appends}
use Rattle.vdr_outside.specs.Writes.{AppendsFront}
use Rattle.vdr_alerts.specs.Alerts.{Part, part_cmp}
use Rattle.vdr_alerts.specs.Boards.{Board}
use Rattle.vdr_alerts.specs.Rows.{AreOrdered, same_row}
use Rattle.vdr_alerts.specs.Views.{board_value}
use Rattle.vdr_alerts.proofs.Keeping.{list_text}
use Rattle.vdr_alerts.proofs.board.Board.tell_list.Goals as goal

pub before_part-requires : goal.before_part-requires
before_part-requires g c = subst (AreOrdered part_cmp) (sym c.as_slice.ensures.value) c.requires.ordered.lists

pub returns-in_err-print_gone-clause-front : goal.returns-in_err-print_gone-clause-front
returns-in_err-print_gone-clause-front g c =
    let b : Board = board_value c.args.self.now in
    let found = c.before_part.ensures ∙ ap (λ (rows : List Part). same_row part_cmp rows c.args.part) c.as_slice.ensures.value in
    subst (λ (xs : List ℕ). AppendsFront (g.O.Sink.taken c.args.out.now) (g.O.Sink.taken c.print_gone.new.out) xs)
    (list_text c.args.mark.now b c.args.part c.args.reading.now.values _ found _ c.is_whole-is_ended.ensures _ c.as_slice-2.ensures.value) c.in_err-print_gone.ensures.front

pub returns-clause-all : goal.returns-clause-all
returns-clause-all g c =
    let b : Board = board_value c.args.self.now in
    let found = c.before_part.ensures ∙ ap (λ (rows : List Part). same_row part_cmp rows c.args.part) c.as_slice.ensures.value in
    subst (λ (xs : List ℕ). Appends (g.O.Sink.taken c.args.out.now) (g.O.Sink.taken c.print_gone.new.out) xs)
    (list_text c.args.mark.now b c.args.part c.args.reading.now.values _ found _ c.is_whole-is_ended.ensures _ c.as_slice-2.ensures.value) c.in_ok-print_gone.ensures.all

pub returns-clause-front : goal.returns-clause-front
returns-clause-front g c =
    let b : Board = board_value c.args.self.now in
    let found = c.before_part.ensures ∙ ap (λ (rows : List Part). same_row part_cmp rows c.args.part) c.as_slice.ensures.value in
    subst (λ (xs : List ℕ). AppendsFront (g.O.Sink.taken c.args.out.now) (g.O.Sink.taken c.print_gone.new.out) xs)
    (list_text c.args.mark.now b c.args.part c.args.reading.now.values _ found _ c.is_whole-is_ended.ensures _ c.as_slice-2.ensures.value) c.in_ok-print_gone.ensures.front
