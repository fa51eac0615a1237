-- What contracts see of a heading and of a value.
use Rattle.vdr_rows.specs.declared.heading.Heading.{Heading}
use Rattle.vdr_rows.specs.declared.said.Said.{Said}
use Rattle.vdr_rows.specs.Texts as texts
use Rattle.vdr_rows.specs.Values as values

abbrev pub heading_said : Heading → texts.Heading
heading_said h = texts.heading_of h.item.now h.source.now h.sentence.now

abbrev pub said_of : Said → values.Said
said_of s = record { item = s.item.now; name = s.name.now; number = s.number; measure = s.measure.now; valid = s.valid; words = s.words.now }
