-- What the values of the Rust types `Medium` and `Query` ask.
use Rattle.vdr_terms.specs.Queries.{Medium, Query}
use Rattle.vdr_terms.specs.Queries.Medium.{WindowOf, Incident}
use Rattle.vdr_entry.specs.declared.query.Medium.{Medium as Played}
use Rattle.vdr_entry.specs.declared.query.Medium.TheVariants.{Capsule, LongTerm, Incident as PlayedIncident}
use Rattle.vdr_entry.specs.declared.query.Query.{Query as Asked}

-- The capsule is medium 0, the long-term medium is medium 1.
abbrev pub asked_medium : Played → Medium
asked_medium Capsule = WindowOf 0
asked_medium LongTerm = WindowOf 1
asked_medium (PlayedIncident id) = Incident id

abbrev pub asked : Asked → Query
asked q = record { medium = asked_medium q.medium; channel = q.channel; from = q.from; to = q.to }
