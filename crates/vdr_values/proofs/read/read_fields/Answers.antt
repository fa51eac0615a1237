use Rattle.std.proofs.Common.{◌≡◌, ◌<◌, ◌∙◌, ℕ, List, Option, None, Some, Err, length, sym, ap, subst, option_map, arith, true, eqb}
use Rattle.std.proofs.lemmas.List.{take_rest, length-map, map_push}
use Rattle.std.proofs.lemmas.List.Sums.{count_by-le-length}
use Rattle.std.proofs.lemmas.Result.{err_from_is_err_and}
use Rattle.vdr_sentence.specs.Fields.{field_count}
use Rattle.vdr_values.specs.declared.value.Value.{Value}
use Rattle.vdr_values.specs.Forms.{field_value, is_sound}
use Rattle.vdr_values.specs.Readings.{fields_behind, fields_of}
use Rattle.vdr_values.specs.Rows.{Row, forms_of, form_at, wanted}
use Rattle.vdr_values.specs.Views.{row_of, value_of, values_of}
use Rattle.vdr_values.proofs.Along.{HasRead-start, HasRead-missing, HasRead-refused, HasRead-more, HasRead-all, StandsAt, form-here, length-forms_of}
use Rattle.vdr_values.proofs.Cuts.{fields-behind_address, length-fields_of}
use Rattle.vdr_values.proofs.Lookups.{sound-form}
use Rattle.vdr_values.proofs.read.read_fields.Goals as goal

counted_of : (values : List (Option Value)) (n : ℕ) → length (values_of values) ≡ n → length values ≡ n
counted_of values n h = sym (length-map values (option_map value_of)) ∙ h

-- The form of the field that is read next.
here : (row : Row) (content : List ℕ) (count end index : ℕ) → count ≡ field_count content → end ≡ wanted row count → index < end → StandsAt (forms_of row (length (fields_of content))) index (form_at row index)
here row content count end index counted ends inside =
    let same : count ≡ length (fields_of content) = counted ∙ sym (length-fields_of content) in
    form-here row (length (fields_of content)) index (subst (λ n. index < n) (ends ∙ ap (wanted row) same) inside)

pub loop-index-init : goal.loop-index-init
loop-index-init c =
    let content : List ℕ = c.args.content.now in
    let start = HasRead-start (forms_of (row_of c.args.row.now) (length (fields_of content))) (fields_of content) _ (fields-behind_address content c.place_of.result c.place_of.ensures.place ∙ ap fields_behind (sym (take_rest content c.place_of.result))) in
    rw c.new-values.ensures start

pub returns-in_default : goal.returns-in_default
returns-in_default c =
    let row : Row = row_of c.args.row.now in
    let content : List ℕ = c.args.content.now in
    let at = here row content c.args.count c.wanted-index-end.result c.loop-index.index c.requires.count c.wanted-index-end.ensures c.loop-index-test.true in
    let so_far = rw c.in_default.ensures.none at c.loop-index.invariant in
    HasRead-missing (forms_of row (length (fields_of content))) (fields_of content) c.loop-index.index _ _ at so_far

pub read_field-requires : goal.read_field-requires
read_field-requires c = subst (λ form. is_sound form ≡ true) (sym c.form_at.ensures) (sound-form (row_of c.args.row.now) c.loop-index.index c.requires.fit)

pub returns-in_err-read_field : goal.returns-in_err-read_field
returns-in_err-read_field c =
    let row : Row = row_of c.args.row.now in
    let content : List ℕ = c.args.content.now in
    let p = err_from_is_err_and c.from_residual.result c.from_residual.ensures.1 in
    let at = here row content c.args.count c.wanted-index-end.result c.loop-index.index c.requires.count c.wanted-index-end.ensures c.loop-index-test.true in
    let so_far = rw c.in-Some.ensures.found at c.loop-index.invariant in
    let bad = subst (λ form. field_value form c.in-Some.text.now ≡ None) c.form_at.ensures c.in_err-read_field.ensures.0 in
    let refused = HasRead-refused (forms_of row (length (fields_of content))) (fields_of content) (fields_behind c.in-Some.behind.now) c.loop-index.index _ _ c.in-Some.text.now at so_far bad in
    rw (p.1, p.2) (refused ∙ ap Err (sym c.in_err-read_field.ensures.1))

pub push-requires : goal.push-requires
push-requires c =
    let content : List ℕ = c.args.content.now in
    let so_far = rw c.in-Some.ensures.found at c.loop-index.invariant in
    let n = counted_of c.loop-index.values.items c.loop-index.index c.loop-index.invariant.counted in
    (omega arith, omega (arith, n, so_far.left_are, length-fields_of content, count_by-le-length (λ b. eqb b 44) content, c.requires.short))

pub loop-index-preserved : goal.loop-index-preserved
loop-index-preserved c =
    let row : Row = row_of c.args.row.now in
    let content : List ℕ = c.args.content.now in
    let at = here row content c.args.count c.wanted-index-end.result c.loop-index.index c.requires.count c.wanted-index-end.ensures c.loop-index-test.true in
    let so_far = rw c.in-Some.ensures.found at c.loop-index.invariant in
    let value = option_map value_of c.in_ok-read_field.field-0 in
    let said = subst (λ form. field_value form c.in-Some.text.now ≡ Some value) c.form_at.ensures c.in_ok-read_field.ensures in
    let more = HasRead-more (forms_of row (length (fields_of content))) (fields_of content) (fields_behind c.in-Some.behind.now) c.loop-index.index (values_of c.loop-index.values.items) _ c.in-Some.text.now value at so_far said in
    rw (c.push.ensures.items, map_push (option_map value_of) c.loop-index.values.items c.in_ok-read_field.field-0) more

pub returns : goal.returns
returns c =
    let row : Row = row_of c.args.row.now in
    let content : List ℕ = c.args.content.now in
    let same : c.args.count ≡ length (fields_of content) = c.requires.count ∙ sym (length-fields_of content) in
    HasRead-all (forms_of row (length (fields_of content))) (fields_of content) _ c.loop-index.index (values_of c.loop-index.values.items)
    (omega (arith, c.loop-index-test.false, length-forms_of row (length (fields_of content)), c.wanted-index-end.ensures, ap (wanted row) same)) c.loop-index.invariant
