use Rattle.std.proofs.Common.{◌∙◌, ◌++◌, List, ℕ, ap, sym, arith, append_assoc, drop, length, length-append}
use Rattle.vdr_values.specs.Texts.{group_text, reading_text, text_along}
use Rattle.vdr_values.specs.Views.{values_of}
use Rattle.vdr_values.proofs.Pieces.{reading_text-kept}
use Rattle.vdr_values.proofs.print.print_value.Goals as goal

pub print_groups-requires : goal.print_groups-requires
print_groups-requires c =
    let inside = c.reading.inside in
    let values = inside.values.items in
    let front : List ℕ = text_along inside.row.text.now (values_of values) in
    let back : List ℕ = group_text (values_of (drop (length inside.row.fields.now) values)) in
    let printed = c.print_along.ensures ∙ ap (λ vs. c.args.out.now.items ++ text_along inside.row.text.now (values_of vs)) c.as_slice-values.ensures.value in
    let behind = ap (λ vs. length (group_text (values_of vs))) (c.behind.ensures ∙ ap (drop (length inside.row.fields.now)) c.as_slice-values.ensures.value) in
    omega (
      arith,
      c.requires,
      c.reading.invariant.short,
      ap length printed,
      length-append c.args.out.now.items front,
      behind,
      ap length (reading_text-kept inside.row values),
      length-append front back,
    )

pub returns : goal.returns
returns c =
    let inside = c.reading.inside in
    let values = inside.values.items in
    let out : List ℕ = c.args.out.now.items in
    let front : List ℕ = text_along inside.row.text.now (values_of values) in
    let back : List ℕ = group_text (values_of (drop (length inside.row.fields.now) values)) in
    let printed = c.print_along.ensures ∙ ap (λ vs. out ++ text_along inside.row.text.now (values_of vs)) c.as_slice-values.ensures.value in
    let behind = ap (λ vs. group_text (values_of vs)) (c.behind.ensures ∙ ap (drop (length inside.row.fields.now)) c.as_slice-values.ensures.value) in
    c.print_groups.ensures ∙ (λ i. printed i ++ behind i) ∙ append_assoc out front back ∙ ap (λ text. out ++ text) (sym (reading_text-kept inside.row values) ∙ ap reading_text c.reading.view_is)
