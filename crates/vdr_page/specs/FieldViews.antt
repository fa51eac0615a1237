-- What contracts see of a field.
use Rattle.vdr_page.specs.Fields.{Field}
use Rattle.vdr_page.specs.Fields.Field.{Number as ANumber, Text as AText, Made as IsMade, Missing as NoField}
use Rattle.vdr_page.specs.declared.field.Field.{Field as Seen}
use Rattle.vdr_page.specs.declared.field.Field.TheVariants.{Number, Text, Made, Missing}

abbrev pub field_of : Seen → Field
field_of (Number n) = ANumber n
field_of (Text bytes) = AText bytes.now
field_of (Made list) = IsMade list.now
field_of Missing = NoField
