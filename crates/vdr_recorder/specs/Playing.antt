-- What is printed of what was recorded.
use Rattle.std.specs.Prelude.{◌≡◌, ℕ, List, Option, Result, Ok, Err, ⊤}
use Rattle.std.specs.Io.KnownBytes.{Appends, Keeps}
use Rattle.vdr_terms.specs.Records.{Record}
use Rattle.vdr_terms.specs.Queries.{Query}
use Rattle.vdr_core.specs.Histories.{Event, Opening}
use Rattle.vdr_durability.specs.Playback.{selected}
use Rattle.vdr_outside.specs.Disk.{Disk}
use Rattle.vdr_outside.specs.Writes.{AppendsFront}
use Rattle.vdr_directory.specs.Sequence.{Placed}
use Rattle.vdr_play.specs.Streams.{nothing_seen}
use Rattle.vdr_play.specs.Texts.{records_text}
use Rattle.vdr_sources.specs.Tables.{sources_of, sources_text}
use Rattle.vdr_vault.specs.Plays.{TellsDamageOf}
use Rattle.vdr_vault.specs.Vaults.{IsReadable, VaultState}
use Rattle.vdr_visit.specs.Visits.{AreVisited}
use Rattle.vdr_visit.specs.declared.visit_refused.VisitRefused.{VisitRefused}
use Rattle.vdr_visit.specs.declared.visit_refused.VisitRefused.TheVariants.{NoChannel, NoIncident, Fault, Damaged, Output, Own}

-- The text of these records stands in the output, and nothing behind it, unless the output failed. A player never stops by itself.
abbrev pub HasLines : {R : Type 0} → List Record → (was now : Option (List ℕ)) → Result ⊤ (VisitRefused R) → Type 0
HasLines records was now (Ok all) = Appends was now (records_text nothing_seen records)
HasLines records was now (Err NoChannel) = Appends was now (records_text nothing_seen records)
HasLines records was now (Err NoIncident) = Appends was now (records_text nothing_seen records)
HasLines records was now (Err Fault) = Appends was now (records_text nothing_seen records)
HasLines records was now (Err (Damaged m offset)) = Appends was now (records_text nothing_seen records)
HasLines records was now (Err Output) = ⊤
HasLines records was now (Err (Own reason)) = ⊥

-- The table of sources of these records stands in the output, and nothing of it where a record was not read or counted.
abbrev pub HasTable : {R : Type 0} → List Record → (was now : Option (List ℕ)) → Result ⊤ (VisitRefused R) → Type 0
HasTable records was now (Ok all) = Appends was now (sources_text (sources_of records))
HasTable records was now (Err NoChannel) = Keeps was now
HasTable records was now (Err NoIncident) = Keeps was now
HasTable records was now (Err Fault) = Keeps was now
HasTable records was now (Err (Damaged m offset)) = Keeps was now
HasTable records was now (Err Output) = ⊤
HasTable records was now (Err (Own reason)) = Keeps was now

module _ {tells tells_images : Type 0} where
  -- Where the media can be read, what is printed is the text of all that the query selects, or of the first of these records; and where the
  -- output fails, a front of the text of all. Damage that is met is told.
  pub record HasPlayed {R : Type 0} (query : Query) (vault : VaultState) (disk : Disk tells tells_images) (was now : Option (List ℕ)) (result : Result ⊤ (VisitRefused R)) : Type 0 where
    pub printed : List Record
    pub lines : HasLines printed was now result
    pub damage : TellsDamageOf query vault disk (λ m offset. result ≡ Err (Damaged m offset)) (result ≡ Ok tt)
    pub are : (opening : Opening) (events : List Event) (placed : ℕ → List Placed) → tells → IsReadable opening events vault placed disk
        → AreVisited printed (selected opening events query) result
    pub front : (opening : Opening) (events : List Event) (placed : ℕ → List Placed) → tells → IsReadable opening events vault placed disk
        → AppendsFront was now (records_text nothing_seen (selected opening events query))

  -- The same of the table of sources.
  pub record HasTold {R : Type 0} (query : Query) (vault : VaultState) (disk : Disk tells tells_images) (was now : Option (List ℕ)) (result : Result ⊤ (VisitRefused R)) : Type 0 where
    pub counted : List Record
    pub table : HasTable counted was now result
    pub damage : TellsDamageOf query vault disk (λ m offset. result ≡ Err (Damaged m offset)) (result ≡ Ok tt)
    pub are : (opening : Opening) (events : List Event) (placed : ℕ → List Placed) → tells → IsReadable opening events vault placed disk
        → AreVisited counted (selected opening events query) result
    pub front : (opening : Opening) (events : List Event) (placed : ℕ → List Placed) → tells → IsReadable opening events vault placed disk
        → AppendsFront was now (sources_text (sources_of (selected opening events query)))
