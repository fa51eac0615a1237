-- What a kept record says.
use Rattle.vdr_terms.specs.Records.{Content}
use Rattle.vdr_terms.specs.Records.Content.{Datagram, Gap}
use Rattle.vdr_review.specs.declared.kept.Said.{Said}
use Rattle.vdr_review.specs.declared.kept.Said.TheVariants.{Datagram as SaidDatagram, Gap as SaidGap}

abbrev pub content_of : Said → Content
content_of (SaidDatagram bytes) = Datagram bytes.items
content_of (SaidGap missed) = Gap missed
