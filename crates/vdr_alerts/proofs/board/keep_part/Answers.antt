use Rattle.std.proofs.Common.{◌∙◌, List, Option, ap, subst, sym}
use Rattle.vdr_alerts.specs.Alerts.{Part, as_kept, part_cmp}
use Rattle.vdr_alerts.specs.Rows.{AreOrdered, IsPlaced, row_at, with_row}
use Rattle.vdr_alerts.proofs.Ordered.{find_placed, put_placed}
use Rattle.vdr_alerts.proofs.Orders.{part_total}
use Rattle.vdr_alerts.proofs.board.keep_part.Goals as goal

pub place_of_part-place-requires : goal.place_of_part-place-requires
place_of_part-place-requires c = subst (AreOrdered part_cmp) (sym c.as_slice.ensures.value) c.requires.ordered

pub returns-clause-kept : goal.returns-clause-kept
returns-clause-kept c =
    let place = c.place_of_part-place.result in
    let rows : List Part = c.args.parts.now.items in
    let p = subst (λ (rows : List Part). IsPlaced (λ q. part_cmp q c.args.part) rows place) c.as_slice.ensures.value c.place_of_part-place.ensures in
    let before = c.found.ensures ∙ ap (row_at place) c.as_slice-2.ensures.value ∙ find_placed part_cmp part_total rows c.args.part c.requires.ordered place p in
    c.put_row.ensures.rows
    ∙ ap (with_row place rows) (c.as_kept-row.ensures ∙ ap (λ (o : Option Part). as_kept o c.args.part) before)
    ∙ put_placed part_cmp part_total rows (as_kept _ c.args.part) c.requires.ordered place p
