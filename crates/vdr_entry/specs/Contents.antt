-- What a value of the Rust type `Content` says.
use Rattle.vdr_terms.specs.Records.{Content}
use Rattle.vdr_terms.specs.Records.Content.{Start, Datagram, Gap, Stop}
use Rattle.vdr_entry.specs.declared.content.Content.{Content as Said}
use Rattle.vdr_entry.specs.declared.content.Content.TheVariants.{Start as SaidStart, Datagram as SaidDatagram, Gap as SaidGap, Stop as SaidStop}

abbrev pub said_by : Said → Content
said_by SaidStart = Start
said_by (SaidDatagram bytes) = Datagram bytes.now
said_by (SaidGap missed) = Gap missed
said_by SaidStop = Stop
