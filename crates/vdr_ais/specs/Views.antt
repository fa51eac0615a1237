-- What contracts see of messages, reports, keys and parts.
use Rattle.std.specs.Prelude.{map, option_map}
use Rattle.vdr_ais.specs.declared.message.Message.{Message}
use Rattle.vdr_ais.specs.declared.report.Position.{Position}
use Rattle.vdr_ais.specs.declared.report.Report.{Report}
use Rattle.vdr_ais.specs.declared.line.Key.{Key}
use Rattle.vdr_ais.specs.declared.line.Part.{Part}
use Rattle.vdr_ais.specs.declared.line.Line.{Line}
use Rattle.vdr_ais.specs.Bits.{six}
use Rattle.vdr_ais.specs.Bits as bits
use Rattle.vdr_ais.specs.Lines as lines
use Rattle.vdr_ais.specs.Reports as reports

abbrev pub message_of : Message → bits.Message
message_of m = record { sixes = m.sixes.items; fill = m.fill }

abbrev pub position_said : Position → reports.Position
position_said p = record { latitude = p.latitude; longitude = p.longitude; speed = p.speed; course = p.course; heading = p.heading }

abbrev pub report_said : Report → reports.Report
report_said r = record { mmsi = r.mmsi; position = option_map position_said r.position; name = option_map (λ name. name.items) r.name }

abbrev pub key_of : Key → lines.Key
key_of k = record { group = k.group; source = k.source.now; formatter = k.formatter.now; sequence = k.sequence; channel = k.channel.now }

abbrev pub part_of : Part → lines.Part
part_of p = record { total = p.total; number = p.number; sixes = map six p.payload.now; fill = p.fill }

abbrev pub line_said : Line → lines.Line
line_said l = record { key = key_of l.key; part = part_of l.part }
