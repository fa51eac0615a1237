use Rattle.std.proofs.Common.{◌∙◌, List, ℕ, ap, subst, sym}
use Rattle.std.specs.Io.KnownBytes.{Appends}
use Rattle.vdr_outside.specs.Writes.{AppendsFront}
use Rattle.vdr_alerts.specs.Alerts.{Part, part_cmp}
use Rattle.vdr_alerts.specs.Boards.{Board}
use Rattle.vdr_alerts.specs.Rows.{AreOrdered, same_row}
use Rattle.vdr_alerts.specs.Views.{board_value}
use Rattle.vdr_alerts.proofs.Keeping.{part_kept, part_text}
use Rattle.vdr_alerts.proofs.board.Board.tell_part.Goals as goal

pub before_part-before-requires : goal.before_part-before-requires
before_part-before-requires g c = subst (AreOrdered part_cmp) (sym c.as_slice.ensures.value) c.requires.ordered.parts

pub returns-in_err-tell_alert-clause-front : goal.returns-in_err-tell_alert-clause-front
returns-in_err-tell_alert-clause-front g c =
    let b : Board = board_value c.args.self.now in
    let found = c.before_part-before.ensures ∙ ap (λ (rows : List Part). same_row part_cmp rows c.args.part) c.as_slice.ensures.value in
    subst (λ (xs : List ℕ). AppendsFront (g.O.Sink.taken c.args.out.now) (g.O.Sink.taken c.tell_alert.new.out) xs)
    (part_text c.args.mark.now b c.args.part _ found _ c.alert_told-alert.ensures _ _ c.title-title.ensures c.rest.ensures) c.in_err-tell_alert.ensures.front

pub returns-clause-kept : goal.returns-clause-kept
returns-clause-kept g c =
    let b : Board = board_value c.args.self.now in
    let found = c.before_part-before.ensures ∙ ap (λ (rows : List Part). same_row part_cmp rows c.args.part) c.as_slice.ensures.value in
    part_kept c.args.mark.now b c.args.part _ found _ c.alert_told-alert.ensures _ _ c.keep_part.ensures.kept c.in_ok-tell_alert.ensures.kept

pub returns-clause-all : goal.returns-clause-all
returns-clause-all g c =
    let b : Board = board_value c.args.self.now in
    let found = c.before_part-before.ensures ∙ ap (λ (rows : List Part). same_row part_cmp rows c.args.part) c.as_slice.ensures.value in
    subst (λ (xs : List ℕ). Appends (g.O.Sink.taken c.args.out.now) (g.O.Sink.taken c.tell_alert.new.out) xs)
    (part_text c.args.mark.now b c.args.part _ found _ c.alert_told-alert.ensures _ _ c.title-title.ensures c.rest.ensures) c.in_ok-tell_alert.ensures.all

pub returns-clause-front : goal.returns-clause-front
returns-clause-front g c =
    let b : Board = board_value c.args.self.now in
    let found = c.before_part-before.ensures ∙ ap (λ (rows : List Part). same_row part_cmp rows c.args.part) c.as_slice.ensures.value in
    subst (λ (xs : List ℕ). AppendsFront (g.O.Sink.taken c.args.out.now) (g.O.Sink.taken c.tell_alert.new.out) xs)
    (part_text c.args.mark.now b c.args.part _ found _ c.alert_told-alert.ensures _ _ c.title-title.ensures c.rest.ensures) c.in_ok-tell_alert.ensures.front
