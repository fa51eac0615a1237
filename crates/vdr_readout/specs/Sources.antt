-- What `sources` prints and answers (this project's profile; sources and line counts after the TAG blocks of IEC 61162-450).
use Rattle.std.specs.Prelude.{◌≡◌, ◌∷◌, pos, [], codes, ⊤}
use Rattle.vdr_terms.specs.Stamps.{last_stamp}
use Rattle.vdr_entry.specs.declared.query.Medium.{Medium}
use Rattle.vdr_control.specs.Plays.{IsMedium, medium_word}
use Rattle.vdr_sources.specs.Tables.{sources_of, sources_text}
use Rattle.vdr_command.specs.Outside.{Outside}
use Rattle.vdr_command.specs.Promises.{Promise}
use Rattle.vdr_command.specs.declared.status.Status.{Status}
use Rattle.vdr_readout.specs.Reads.{AskedPlay, all_records}
use Rattle.vdr_readout.specs.Tables.{TellsTable}

-- All records of a window or an incident, whatever their stamps.
abbrev pub whole_of : Medium → AskedPlay
whole_of medium = record { medium = medium; channel = all_records; from = pos 0; to = pos last_stamp }

-- What `sources` owes: the table of their lines.
abbrev pub TellsSources : {tells tells_images : Type 0} → Medium → (old new : Outside tells tells_images) → Status → Type 0
TellsSources medium old new status = TellsTable (whole_of medium) (λ records. sources_text (sources_of records)) old new status

abbrev pub sourcing : Medium → Promise
sourcing medium = record {
  words = λ texts. texts ≡ codes "sources" ∷ medium_word medium ∷ [];
  legal = IsMedium medium;
  reads_input = ⊥;
  uses_media = ⊤;
  owes = λ old new hears w status. TellsSources medium old new status;
}
