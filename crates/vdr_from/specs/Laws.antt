-- What `from` selects, and what a command selects of media (this project's profile).
use Rattle.std.specs.Prelude.{◌≡◌, true}
use Rattle.vdr_terms.specs.Queries.{Query, matches}
use Rattle.vdr_terms.specs.Records.{Record}
use Rattle.vdr_config.specs.Configuration.{Configuration}
use Rattle.vdr_opening.specs.Media.{Contents}
use Rattle.vdr_readout.specs.Reads.{AskedPlay, query_of, records_asked}
use Rattle.vdr_from.specs.Held.{Held, records_held}

abbrev pub query_asked : Configuration → AskedPlay → Query
query_asked config asked = query_of config asked.medium asked.channel asked.from asked.to

-- A file holds the records that some words select of media with the same configuration. Of other words for the same medium that select no
-- more, `from` selects all that the command selects of the media: since each text and each file is one function of the records, it prints
-- the same.
abbrev pub SelectsAsMedia : Type 0
SelectsAsMedia =
    (x : Contents) (y : Held) (wide asked : AskedPlay) → y.config ≡ x.config → y.records ≡ records_asked x wide → asked.medium ≡ wide.medium
    → ((r : Record) → matches (query_asked x.config asked) r ≡ true → matches (query_asked x.config wide) r ≡ true)
    → records_held y asked ≡ records_asked x asked
