use Rattle.std.proofs.Common.{◌≡◌, ◌++◌, map, take}
use Rattle.std.specs.Prelude.{option_map, option_to_list}
use Rattle.std.specs.List.{flat_map}
use Rattle.vdr_values.specs.declared.column.Column.{Column}
use Rattle.vdr_rows.specs.Numbers.{number_by}
use Rattle.vdr_page.specs.Tellings.{number_told}
use Rattle.vdr_page.specs.TellingViews.{speaker_of, telling_of}
use Rattle.vdr_page.proofs.gathering.add_columns.Given as goal

abbrev pub invariant-loop-column : goal.invariant-loop-column
invariant-loop-column l =
    map telling_of l.into.items
    ≡ map telling_of l.initial.into.items ++ flat_map (λ (c : Column). option_to_list (option_map (number_told (speaker_of l.who)) (number_by l.reading.values c))) (take l.column-index l.columns)
