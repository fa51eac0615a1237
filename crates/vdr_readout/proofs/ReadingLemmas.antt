-- What a rescue of each reading owes, by what its visitor prints.
use Rattle.std.proofs.Common.{◌≡◌, ℕ, List, [], fold, subst}
use Rattle.vdr_terms.specs.Records.{Record}
use Rattle.vdr_durability.specs.Sources.{Row}
use Rattle.vdr_play.specs.Streams.{Seen, nothing_seen}
use Rattle.vdr_play.specs.Texts.{record_text, seen_by}
use Rattle.vdr_sources.specs.Tables.{sources_of, sources_text, with_record}
use Rattle.vdr_command.specs.Outside.{OutputFailed, Outside}
use Rattle.vdr_command.specs.declared.status.Status.{Status}
use Rattle.vdr_command.specs.declared.status.Status.TheVariants.{Done, Words, Config, Small, Unformatted, Formatted, Damaged, MediaFault, PortFault, LinkFault, InputFault, OutputFault, NoMemory, Feed, NoChannel, NoIncident, SaveRefused, Place, Tick, ExportKind, ExportNothing, ExportMixed, ExportLong, ExportPart, Capture, NoEvidence, Missing}
use Rattle.vdr_outside.specs.Disk.{Unchanged, content}
use Rattle.vdr_export.specs.declared.wish.Wish.{Wish}
use Rattle.vdr_readout.specs.Readings.{OwesReading, Reading, RescuesReading, asked_in}
use Rattle.vdr_readout.specs.Readings.Reading.{Play, Values, Track, Sources, Watch, Runs, Digest, Targets, Wav, TimedWav, Picture, Pictures}
use Rattle.vdr_readout.specs.Reads.{AskedPlay, PlayEnds, number_asked}
use Rattle.vdr_readout.specs.Rescues.{IsRescueStatus, Rescues, ShowsRescue}
use Rattle.vdr_readout.specs.RescuedFiles.{IsRescuedFileStatus, RescuesFile, ShowsFile}
use Rattle.vdr_readout.proofs.TableLemmas.{sources_last}

module _ {tells tells_images : Type 0} (old new : Outside tells tells_images) (status : Status) where
  -- From tracks that have seen nothing.
  pub play_rescued : (asked : AskedPlay) (tracks : Seen) → tracks ≡ nothing_seen → Rescues asked (λ seen r. record_text (seen_by tracks seen) r) (λ seen. []) old new status
      → Rescues asked (λ seen r. record_text (seen_by nothing_seen seen) r) (λ seen. []) old new status
  play_rescued asked tracks is h = subst (λ (s : Seen). Rescues asked (λ seen r. record_text (seen_by s seen) r) (λ seen. []) old new status) is h

  -- From a table without a row.
  pub sources_rescued : (asked is_asked : AskedPlay) → asked ≡ is_asked → (table : List Row) → table ≡ [] → Rescues asked (λ seen r. []) (λ seen. sources_text (fold with_record table seen)) old new status
      → Rescues is_asked (λ seen r. []) (λ seen. sources_text (sources_of seen)) old new status
  sources_rescued asked is_asked same table none h =
      subst (λ (a : AskedPlay). Rescues a (λ seen r. []) (λ seen. sources_text (sources_of seen)) old new status) same
      (subst (λ (f : List Record → List ℕ). Rescues asked (λ seen r. []) f old new status) (λ i seen. sources_last table none seen i) h)

  -- Of the same records.
  pub same_rescued : (asked is_asked : AskedPlay) → asked ≡ is_asked → (line : List Record → Record → List ℕ) (last : List Record → List ℕ) → Rescues asked line last old new status → Rescues is_asked line last old new status
  same_rescued asked is_asked same line last h = subst (λ (a : AskedPlay). Rescues a line last old new status) same h

  -- It never ends as words that ask for nothing.
  pub rescue_known : (asked : AskedPlay) (line : List Record → Record → List ℕ) (last : List Record → List ℕ) → Rescues asked line last old new status → status ≡ Words → ⊥
  rescue_known asked line last h is = subst (λ (s : Status). ShowsRescue tells asked (content old.media.disk.reads (number_asked asked)) line last old.output new.output s) is h.shown

  pub file_known : (wish : Wish) (asked : AskedPlay) → RescuesFile wish asked old new status → status ≡ Words → ⊥
  file_known wish asked h is = subst (λ (s : Status). ShowsFile tells wish asked (content old.media.disk.reads (number_asked asked)) old.output new.output s) is h.shown

  -- It fails as an output only where that failed.
  pub rescue_output : (asked : AskedPlay) (line : List Record → Record → List ℕ) (last : List Record → List ℕ) → Rescues asked line last old new status → status ≡ OutputFault → OutputFailed old.output new.output
  rescue_output asked line last h is = (subst (λ (s : Status). ShowsRescue tells asked (content old.media.disk.reads (number_asked asked)) line last old.output new.output s) is h.shown).0

  pub file_output : (wish : Wish) (asked : AskedPlay) → RescuesFile wish asked old new status → status ≡ OutputFault → OutputFailed old.output new.output
  file_output wish asked h is = (subst (λ (s : Status). ShowsFile tells wish asked (content old.media.disk.reads (number_asked asked)) old.output new.output s) is h.shown).0

  -- Whatever is read out leaves the media as a play of the same records does.
  pub reading_plays : (reading : Reading) → OwesReading reading old new status → PlayEnds (asked_in reading) old.media new.media status
  reading_plays (Play asked) owed = owed.media
  reading_plays (Values asked) owed = owed.media
  reading_plays (Track asked source) owed = owed.media
  reading_plays (Sources medium) owed = owed.media
  reading_plays (Watch medium) owed = owed.media
  reading_plays (Runs medium) owed = owed.media
  reading_plays (Digest medium) owed = owed.media
  reading_plays (Targets medium at) owed = owed.media
  reading_plays (Wav asked) owed = owed.ends.media
  reading_plays (TimedWav asked) owed = owed.ends.media
  reading_plays (Picture asked block) owed = owed.ends.media
  reading_plays (Pictures asked) owed = owed.ends.media

  -- And one medium alone is left as it is.
  pub rescue_unchanged : (reading : Reading) → RescuesReading reading old new status → Unchanged old.media.disk new.media.disk
  rescue_unchanged (Play asked) owed = owed.media.unchanged
  rescue_unchanged (Values asked) owed = owed.media.unchanged
  rescue_unchanged (Track asked source) owed = owed.media.unchanged
  rescue_unchanged (Sources medium) owed = owed.media.unchanged
  rescue_unchanged (Watch medium) owed = owed.media.unchanged
  rescue_unchanged (Runs medium) owed = owed.media.unchanged
  rescue_unchanged (Digest medium) owed = owed.media.unchanged
  rescue_unchanged (Targets medium at) owed = owed.media.unchanged
  rescue_unchanged (Wav asked) owed = owed.media.unchanged
  rescue_unchanged (TimedWav asked) owed = owed.media.unchanged
  rescue_unchanged (Picture asked block) owed = owed.media.unchanged
  rescue_unchanged (Pictures asked) owed = owed.media.unchanged

module _ {tells tells_images : Type 0} (old new : Outside tells tells_images) where
  -- How a rescue ends.
  pub rescue_ends : (asked : AskedPlay) (line : List Record → Record → List ℕ) (last : List Record → List ℕ) (status : Status) → Rescues asked line last old new status → IsRescueStatus status
  rescue_ends asked line last Done h = tt
  rescue_ends asked line last Words h = absurd h.shown
  rescue_ends asked line last (Config n) h = absurd h.shown
  rescue_ends asked line last (Small small) h = absurd h.shown
  rescue_ends asked line last Unformatted h = absurd h.shown
  rescue_ends asked line last Formatted h = absurd h.shown
  rescue_ends asked line last (Damaged m offset) h = tt
  rescue_ends asked line last MediaFault h = tt
  rescue_ends asked line last (PortFault group) h = absurd h.shown
  rescue_ends asked line last (LinkFault link) h = absurd h.shown
  rescue_ends asked line last InputFault h = absurd h.shown
  rescue_ends asked line last OutputFault h = tt
  rescue_ends asked line last NoMemory h = tt
  rescue_ends asked line last (Feed n at) h = absurd h.shown
  rescue_ends asked line last NoChannel h = tt
  rescue_ends asked line last (NoIncident id) h = tt
  rescue_ends asked line last (SaveRefused cause) h = absurd h.shown
  rescue_ends asked line last Place h = absurd h.shown
  rescue_ends asked line last Tick h = absurd h.shown
  rescue_ends asked line last ExportKind h = absurd h.shown
  rescue_ends asked line last ExportNothing h = absurd h.shown
  rescue_ends asked line last (ExportMixed place) h = absurd h.shown
  rescue_ends asked line last ExportLong h = absurd h.shown
  rescue_ends asked line last (ExportPart number) h = absurd h.shown
  rescue_ends asked line last (Capture number offset) h = absurd h.shown
  rescue_ends asked line last (NoEvidence named offset) h = absurd h.shown
  rescue_ends asked line last (Missing place) h = tt

  pub file_ends : (wish : Wish) (asked : AskedPlay) (status : Status) → RescuesFile wish asked old new status → IsRescuedFileStatus status
  file_ends wish asked Done h = tt
  file_ends wish asked Words h = absurd h.shown
  file_ends wish asked (Config n) h = absurd h.shown
  file_ends wish asked (Small small) h = absurd h.shown
  file_ends wish asked Unformatted h = absurd h.shown
  file_ends wish asked Formatted h = absurd h.shown
  file_ends wish asked (Damaged m offset) h = tt
  file_ends wish asked MediaFault h = tt
  file_ends wish asked (PortFault group) h = absurd h.shown
  file_ends wish asked (LinkFault link) h = absurd h.shown
  file_ends wish asked InputFault h = absurd h.shown
  file_ends wish asked OutputFault h = tt
  file_ends wish asked NoMemory h = tt
  file_ends wish asked (Feed n at) h = absurd h.shown
  file_ends wish asked NoChannel h = tt
  file_ends wish asked (NoIncident id) h = tt
  file_ends wish asked (SaveRefused cause) h = absurd h.shown
  file_ends wish asked Place h = absurd h.shown
  file_ends wish asked Tick h = absurd h.shown
  file_ends wish asked ExportKind h = tt
  file_ends wish asked ExportNothing h = tt
  file_ends wish asked (ExportMixed place) h = tt
  file_ends wish asked ExportLong h = tt
  file_ends wish asked (ExportPart number) h = tt
  file_ends wish asked (Capture number offset) h = absurd h.shown
  file_ends wish asked (NoEvidence named offset) h = absurd h.shown
  file_ends wish asked (Missing place) h = tt
