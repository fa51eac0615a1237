use Rattle.std.proofs.Common.{◌≡◌, ◌++◌, map, take}
use Rattle.vdr_page.specs.FieldViews.{field_of}
use Rattle.vdr_page.specs.Fields.{fields_text}
use Rattle.vdr_page.proofs.field.push_fields.Given as goal

abbrev pub invariant-loop-field : goal.invariant-loop-field
invariant-loop-field l = l.text.items ≡ l.initial.text.items ++ fields_text (map field_of (take l.field-index l.fields))
