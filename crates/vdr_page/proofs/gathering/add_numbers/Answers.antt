use Rattle.std.proofs.Common.{◌≡◌, ◌∙◌, ◌++◌, List, map, ap, subst}
use Rattle.std.specs.Prelude.{OnOk, option_map, option_to_list}
use Rattle.std.specs.List.{flat_map}
use Rattle.vdr_values.specs.declared.column.Column.{Column}
use Rattle.vdr_rows.specs.Numbers.{number_by}
use Rattle.vdr_page.specs.Tellings.{Telling, number_told}
use Rattle.vdr_page.specs.TellingViews.{speaker_of, telling_of}
use Rattle.vdr_page.proofs.Gathered.{told_columns}
use Rattle.vdr_page.proofs.gathering.add_numbers.Goals as goal

pub returns : goal.returns
returns c =
    let who = speaker_of c.args.who.now in
    let values = c.args.reading.now.values in
    subst (λ (told : List Telling). OnOk c.add_columns.result (map telling_of c.add_columns.new.into.items ≡ map telling_of c.args.into.now.items ++ told))
    (ap (λ (columns : List Column). flat_map (λ (c : Column). option_to_list (option_map (number_told who) (number_by values c))) columns) c.columns.ensures
    ∙ told_columns (number_told who) (number_by values) c.args.reading.now.row.columns)
    c.add_columns.ensures
