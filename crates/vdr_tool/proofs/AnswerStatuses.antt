-- What readings and rescues can answer at all.
use Rattle.vdr_export.specs.declared.timing.Timing.TheVariants.{Numbered}
use Rattle.vdr_export.specs.declared.wish.Wish.TheVariants as wishes
use Rattle.std.specs.Prelude.{⊤}
use Rattle.vdr_command.specs.Outside.{Outside}
use Rattle.vdr_command.specs.declared.status.Status.{Status}
use Rattle.vdr_command.specs.declared.status.Status.TheVariants.{Done, Words, Config, Small, Unformatted, Formatted, Damaged, MediaFault, PortFault, LinkFault, InputFault, OutputFault, NoMemory, Feed, NoChannel, NoIncident, SaveRefused, Place, Tick, ExportKind, ExportNothing, ExportMixed, ExportLong, ExportPart, Capture, NoEvidence, Missing}
use Rattle.vdr_readout.specs.Exports.{IsExportStatus}
use Rattle.vdr_export.specs.Wishes.{timed_from}
use Rattle.vdr_readout.specs.Plays.{IsPlayStatus}
use Rattle.vdr_readout.specs.Readings.{OwesReading, Reading, RescuesReading}
use Rattle.vdr_readout.specs.Readings.Reading.{Play, Values, Track, Sources, Watch, Runs, Digest, Targets, Wav, TimedWav, Picture, Pictures}
use Rattle.vdr_readout.specs.RescuedFiles.{IsRescuedFileStatus}
use Rattle.vdr_readout.specs.Rescues.{IsRescueStatus}
use Rattle.vdr_export.specs.declared.wish.Wish.{Wish}
use Rattle.vdr_readout.proofs.ReadingLemmas.{file_ends, rescue_ends}
use Rattle.vdr_tool.specs.Possible.{CanRead, CanRescue}

-- Any of the readings may end so.
abbrev pub IsReadStatus : Status → Type 0
IsReadStatus Done = ⊤
IsReadStatus Unformatted = ⊤
IsReadStatus (Damaged m offset) = ⊤
IsReadStatus MediaFault = ⊤
IsReadStatus OutputFault = ⊤
IsReadStatus NoMemory = ⊤
IsReadStatus NoChannel = ⊤
IsReadStatus (NoIncident id) = ⊤
IsReadStatus ExportKind = ⊤
IsReadStatus ExportNothing = ⊤
IsReadStatus (ExportMixed place) = ⊤
IsReadStatus ExportLong = ⊤
IsReadStatus (ExportPart number) = ⊤
IsReadStatus status = ⊥

play_reads : (status : Status) → IsPlayStatus status → IsReadStatus status
play_reads Done h = tt
play_reads Words h = absurd h
play_reads (Config number) h = absurd h
play_reads (Small small) h = absurd h
play_reads Unformatted h = tt
play_reads Formatted h = absurd h
play_reads (Damaged m offset) h = tt
play_reads MediaFault h = tt
play_reads (PortFault group) h = absurd h
play_reads (LinkFault link) h = absurd h
play_reads InputFault h = absurd h
play_reads OutputFault h = tt
play_reads NoMemory h = tt
play_reads (Feed number offset) h = absurd h
play_reads NoChannel h = tt
play_reads (NoIncident id) h = tt
play_reads (SaveRefused cause) h = absurd h
play_reads Place h = absurd h
play_reads Tick h = absurd h
play_reads ExportKind h = absurd h
play_reads ExportNothing h = absurd h
play_reads (ExportMixed place) h = absurd h
play_reads ExportLong h = absurd h
play_reads (ExportPart number) h = absurd h
play_reads (Capture number offset) h = absurd h
play_reads (NoEvidence named offset) h = absurd h
play_reads (Missing place) h = absurd h

export_reads : (wish : Wish) (status : Status) → IsExportStatus wish status → IsReadStatus status
export_reads wish Done h = tt
export_reads wish Words h = absurd h
export_reads wish (Config number) h = absurd h
export_reads wish (Small small) h = absurd h
export_reads wish Unformatted h = tt
export_reads wish Formatted h = absurd h
export_reads wish (Damaged m offset) h = tt
export_reads wish MediaFault h = tt
export_reads wish (PortFault group) h = absurd h
export_reads wish (LinkFault link) h = absurd h
export_reads wish InputFault h = absurd h
export_reads wish OutputFault h = tt
export_reads wish NoMemory h = tt
export_reads wish (Feed number offset) h = absurd h
export_reads wish NoChannel h = tt
export_reads wish (NoIncident id) h = tt
export_reads wish (SaveRefused cause) h = absurd h
export_reads wish Place h = absurd h
export_reads wish Tick h = absurd h
export_reads wish ExportKind h = tt
export_reads wish ExportNothing h = tt
export_reads wish (ExportMixed place) h = tt
export_reads wish ExportLong h = tt
export_reads wish (ExportPart number) h = tt
export_reads wish (Capture number offset) h = absurd h
export_reads wish (NoEvidence named offset) h = absurd h
export_reads wish (Missing place) h = absurd h

rescue_file : (status : Status) → IsRescueStatus status → IsRescuedFileStatus status
rescue_file Done h = tt
rescue_file Words h = absurd h
rescue_file (Config number) h = absurd h
rescue_file (Small small) h = absurd h
rescue_file Unformatted h = absurd h
rescue_file Formatted h = absurd h
rescue_file (Damaged m offset) h = tt
rescue_file MediaFault h = tt
rescue_file (PortFault group) h = absurd h
rescue_file (LinkFault link) h = absurd h
rescue_file InputFault h = absurd h
rescue_file OutputFault h = tt
rescue_file NoMemory h = tt
rescue_file (Feed number offset) h = absurd h
rescue_file NoChannel h = tt
rescue_file (NoIncident id) h = tt
rescue_file (SaveRefused cause) h = absurd h
rescue_file Place h = absurd h
rescue_file Tick h = absurd h
rescue_file ExportKind h = absurd h
rescue_file ExportNothing h = absurd h
rescue_file (ExportMixed place) h = absurd h
rescue_file ExportLong h = absurd h
rescue_file (ExportPart number) h = absurd h
rescue_file (Capture number offset) h = absurd h
rescue_file (NoEvidence named offset) h = absurd h
rescue_file (Missing place) h = tt

module _ {tells tells_images : Type 0} (old new : Outside tells tells_images) (status : Status) where
  pub can_read : (reading : Reading) → OwesReading reading old new status → CanRead reading status
  can_read (Play asked) owed = owed.own
  can_read (Values asked) owed = owed.own
  can_read (Track asked source) owed = owed.own
  can_read (Sources medium) owed = owed.own
  can_read (Watch medium) owed = owed.own
  can_read (Runs medium) owed = owed.own
  can_read (Digest medium) owed = owed.own
  can_read (Targets medium at) owed = owed.own
  can_read (Wav asked) owed = owed.ends.own
  can_read (TimedWav asked) owed = owed.ends.own
  can_read (Picture asked block) owed = owed.ends.own
  can_read (Pictures asked) owed = owed.ends.own

  pub reads_so : (reading : Reading) → OwesReading reading old new status → IsReadStatus status
  reads_so (Play asked) owed = play_reads status owed.own
  reads_so (Values asked) owed = play_reads status owed.own
  reads_so (Track asked source) owed = play_reads status owed.own
  reads_so (Sources medium) owed = play_reads status owed.own
  reads_so (Watch medium) owed = play_reads status owed.own
  reads_so (Runs medium) owed = play_reads status owed.own
  reads_so (Digest medium) owed = play_reads status owed.own
  reads_so (Targets medium at) owed = play_reads status owed.own
  reads_so (Wav asked) owed = export_reads (wishes.Sound Numbered) status owed.ends.own
  reads_so (TimedWav asked) owed = export_reads (wishes.Sound (timed_from asked.from)) status owed.ends.own
  reads_so (Picture asked block) owed = export_reads (wishes.Picture block) status owed.ends.own
  reads_so (Pictures asked) owed = export_reads wishes.Listing status owed.ends.own

  pub can_rescue : (reading : Reading) → RescuesReading reading old new status → CanRescue reading status
  can_rescue (Play asked) owed = rescue_ends old new _ _ _ status owed
  can_rescue (Values asked) owed = rescue_ends old new _ _ _ status owed
  can_rescue (Track asked source) owed = rescue_ends old new _ _ _ status owed
  can_rescue (Sources medium) owed = rescue_ends old new _ _ _ status owed
  can_rescue (Watch medium) owed = rescue_ends old new _ _ _ status owed
  can_rescue (Runs medium) owed = rescue_ends old new _ _ _ status owed
  can_rescue (Digest medium) owed = rescue_ends old new _ _ _ status owed
  can_rescue (Targets medium at) owed = rescue_ends old new _ _ _ status owed
  can_rescue (Wav asked) owed = file_ends old new _ _ status owed
  can_rescue (TimedWav asked) owed = file_ends old new _ _ status owed
  can_rescue (Picture asked block) owed = file_ends old new _ _ status owed
  can_rescue (Pictures asked) owed = file_ends old new _ _ status owed

  pub rescues_so : (reading : Reading) → RescuesReading reading old new status → IsRescuedFileStatus status
  rescues_so (Play asked) owed = rescue_file status (rescue_ends old new _ _ _ status owed)
  rescues_so (Values asked) owed = rescue_file status (rescue_ends old new _ _ _ status owed)
  rescues_so (Track asked source) owed = rescue_file status (rescue_ends old new _ _ _ status owed)
  rescues_so (Sources medium) owed = rescue_file status (rescue_ends old new _ _ _ status owed)
  rescues_so (Watch medium) owed = rescue_file status (rescue_ends old new _ _ _ status owed)
  rescues_so (Runs medium) owed = rescue_file status (rescue_ends old new _ _ _ status owed)
  rescues_so (Digest medium) owed = rescue_file status (rescue_ends old new _ _ _ status owed)
  rescues_so (Targets medium at) owed = rescue_file status (rescue_ends old new _ _ _ status owed)
  rescues_so (Wav asked) owed = file_ends old new _ _ status owed
  rescues_so (TimedWav asked) owed = file_ends old new _ _ status owed
  rescues_so (Picture asked block) owed = file_ends old new _ _ status owed
  rescues_so (Pictures asked) owed = file_ends old new _ _ status owed
