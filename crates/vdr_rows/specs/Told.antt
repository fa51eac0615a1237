-- What fields say of which of several things a value is of.
use Rattle.std.specs.Prelude.{ℕ, List, [], ◌∷◌, ◌++◌}
use Rattle.vdr_values.specs.declared.column.Item.{Item}
use Rattle.vdr_values.specs.declared.column.Item.TheVariants as items
use Rattle.vdr_rows.specs.Values.{Fields, field_in, part_text}

-- Nothing where there is one, or where it is named.
abbrev pub told_text : Fields → Item → List ℕ
told_text values items.Single = []
told_text values (items.Named which) = []
told_text values (items.Told field) = part_text (field_in values field)
told_text values (items.Beside first second) = part_text (field_in values first) ++ part_text (field_in values second)
told_text values (items.Dotted first second) = part_text (field_in values first) ++ 46 ∷ part_text (field_in values second)
