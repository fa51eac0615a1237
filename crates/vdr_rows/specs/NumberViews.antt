-- What contracts see of a number and of a position that are said.
use Rattle.vdr_rows.specs.declared.numbers.NumberSaid.{NumberSaid}
use Rattle.vdr_rows.specs.declared.numbers.PositionSaid.{PositionSaid}
use Rattle.vdr_rows.specs.Numbers.{Numbered, Position}

abbrev pub number_seen : NumberSaid → Numbered
number_seen n = record { item = n.item.items; name = n.name.now; number = n.number; measure = n.measure.now; valid = n.valid }

abbrev pub position_seen : PositionSaid → Position
position_seen p = record { latitude = p.latitude; longitude = p.longitude; valid = p.valid }
