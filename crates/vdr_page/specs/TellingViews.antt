-- What contracts see of what is told, and of who speaks.
use Rattle.vdr_page.specs.declared.tellings.Said.{Said as Told}
use Rattle.vdr_page.specs.declared.tellings.Speaker.{Speaker as Speaks}
use Rattle.vdr_page.specs.declared.tellings.Telling.{Telling as Tells}
use Rattle.vdr_page.specs.declared.tellings.Telling.TheVariants as is
use Rattle.vdr_page.specs.Tellings.{Names, Said, Says, Speaker, Telling}

abbrev pub said_of : Told → Said
said_of s = record { kind = s.kind; key = s.key.items; valid = s.valid; measure = s.measure; second = s.second; text = s.text.items }

abbrev pub telling_of : Tells → Telling
telling_of (is.Says s) = Says (said_of s)
telling_of (is.Names n) = Names n.formatter.now n.mmsi n.name.items

abbrev pub speaker_of : Speaks → Speaker
speaker_of who = record { group = who.group.now; source = who.source.now; sentence = who.sentence.now }
