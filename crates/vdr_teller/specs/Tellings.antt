-- What is told of records, by what is asked for: the text of the command of that name (this project's profile).
use Rattle.std.specs.Prelude.{ℕ, ℤ, pos, List, None}
use Rattle.vdr_terms.specs.Queries.{Query}
use Rattle.vdr_terms.specs.Records.{Record}
use Rattle.vdr_terms.specs.Stamps.{last_stamp}
use Rattle.vdr_entry.specs.Queries.{asked_medium}
use Rattle.vdr_entry.specs.declared.query.Medium.{Medium}
use Rattle.vdr_control.specs.declared.order.Telling.{Telling}
use Rattle.vdr_control.specs.declared.order.Telling.TheVariants.{Sources, Watch, Targets, Digest}
use Rattle.vdr_sources.specs.Tables.{sources_of, sources_text}
use Rattle.vdr_watch.specs.Texts.{watch_text}
use Rattle.vdr_ais.specs.Targets.{targets_of, targets_text}
use Rattle.vdr_digest.specs.Digests.{digest_text}

abbrev pub told_text : Telling → List Record → List ℕ
told_text Sources records = sources_text (sources_of records)
told_text Watch records = watch_text records
told_text (Targets at) records = targets_text (targets_of records)
told_text Digest records = digest_text records

-- The last stamp of the records of which it is told.
abbrev pub last_told : Telling → ℤ
last_told Sources = pos last_stamp
last_told Watch = pos last_stamp
last_told (Targets at) = at
last_told Digest = pos last_stamp

-- The records of which it is told: all of the medium, whatever their channel, up to that stamp.
abbrev pub query_told : Medium → Telling → Query
query_told medium telling = record { medium = asked_medium medium; channel = None; from = pos 0; to = last_told telling }
