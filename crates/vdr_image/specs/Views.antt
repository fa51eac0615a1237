-- What contracts see of a header.
use Rattle.vdr_image.specs.Headers.{Header}
use Rattle.vdr_image.specs.declared.header.ImageHeader.{ImageHeader}

abbrev pub header_of : ImageHeader → Header
header_of h = record { source = h.source.now; destination = h.destination.now; block = h.block; sequence = h.sequence; greatest = h.greatest; body = h.body.now }
