-- What a command owes that prints a table, from what reading out ensures.
use Rattle.std.proofs.Common.{◌≡◌, ◌⊎◌, inl, inr, ⊎_elim, ◌++◌, ℕ, ℤ, List, [], fold, refl, sym, ap, subst, ◌∙◌}
use Rattle.std.proofs.KnownBytes.{Appends-nil}
use Rattle.vdr_terms.specs.Records.{Record}
use Rattle.vdr_durability.specs.Sources.{Row}
use Rattle.vdr_outside.specs.Disk.{Disk}
use Rattle.vdr_entry.specs.declared.query.Medium.{Medium}
use Rattle.vdr_opening.specs.Media.{Contents, HoldsContents}
use Rattle.vdr_sources.specs.Tables.{sources_of, sources_text, with_record}
use Rattle.vdr_sources.proofs.Lines.{by_records}
use Rattle.vdr_visit.specs.Prints.{text_of, whole_text}
use Rattle.vdr_recorder.proofs.Printing.{no_lines}
use Rattle.vdr_command.specs.Endings.{IsWorkDone}
use Rattle.vdr_command.specs.Opened.{OneAnswer, PrintsText}
use Rattle.vdr_command.specs.Outside.{Outside, OutputFailed, OutputSeen, Prints, PrintsFront}
use Rattle.vdr_command.specs.declared.status.Status.{Status}
use Rattle.vdr_command.specs.declared.status.Status.TheVariants.{Done, Words, Config, Small, Unformatted, Formatted, Damaged, MediaFault, PortFault, LinkFault, InputFault, OutputFault, NoMemory, Feed, NoChannel, NoIncident, SaveRefused, Place, Tick, ExportKind, ExportNothing, ExportMixed, ExportLong, ExportPart, Capture, NoEvidence, Missing}
use Rattle.vdr_readout.specs.Plays.{IsPlayStatus}
use Rattle.vdr_readout.specs.Reads.{AskedPlay, CanBeRead, ReadsOut, ShowsReading, StoppedItself, all_records, records_asked}
use Rattle.vdr_readout.specs.Tables.{TellsTable}
use Rattle.vdr_readout.specs.Targets.{TellsTargets}
use Rattle.vdr_readout.proofs.PlayCompleteness.{plays_all}

module _ {tells tells_images R : Type 0} (asked : AskedPlay) (plain : asked.channel ≡ all_records) (text : List Record → List ℕ) (disk : Disk tells tells_images) (Has : List Record → Type 0) (Stops : List Record → R → Type 0)
    (last : List Record → List ℕ) (last_is : (records : List Record) → last records ≡ text records) (was next : OutputSeen) where
  abbrev Stopped : Status → Type 0
  Stopped status = StoppedItself asked disk Stops (λ reason. NoMemory) (λ before r. []) was next status

  abbrev Shows : Status → Type 0
  Shows status = ShowsReading asked disk Has Stops (λ reason. NoMemory) (λ before r. []) last was next status

  of_memory : (status : Status) → ((status ≡ NoMemory) × (next ≡ was)) ⊎ Stopped status → status ≡ NoMemory
  of_memory status shown = ⊎_elim (λ (m : (status ≡ NoMemory) × (next ≡ was)). m.0) (λ (s : Stopped status). sym s.is) shown

  is_play : (status : Status) → status ≡ NoMemory → IsPlayStatus status
  is_play status is = subst IsPlayStatus (sym is) tt

  table_status : (status : Status) → Shows status → IsPlayStatus status
  table_status Done shown = tt
  table_status Words shown = is_play Words (of_memory Words shown)
  table_status (Config n) shown = is_play (Config n) (of_memory (Config n) shown)
  table_status (Small small) shown = is_play (Small small) (of_memory (Small small) shown)
  table_status Unformatted shown = tt
  table_status Formatted shown = is_play Formatted (of_memory Formatted shown)
  table_status (Damaged k at) shown = tt
  table_status MediaFault shown = tt
  table_status (PortFault group) shown = is_play (PortFault group) (of_memory (PortFault group) shown)
  table_status (LinkFault link) shown = is_play (LinkFault link) (of_memory (LinkFault link) shown)
  table_status InputFault shown = is_play InputFault (of_memory InputFault shown)
  table_status OutputFault shown = tt
  table_status NoMemory shown = tt
  table_status (Feed n at) shown = is_play (Feed n at) (of_memory (Feed n at) shown)
  table_status NoChannel shown = tt
  table_status (NoIncident id) shown = tt
  table_status (SaveRefused cause) shown = is_play (SaveRefused cause) (of_memory (SaveRefused cause) shown)
  table_status Place shown = is_play Place (of_memory Place shown)
  table_status Tick shown = is_play Tick (of_memory Tick shown)
  table_status ExportKind shown = is_play ExportKind (of_memory ExportKind shown)
  table_status ExportNothing shown = is_play ExportNothing (of_memory ExportNothing shown)
  table_status (ExportMixed place) shown = is_play (ExportMixed place) (of_memory (ExportMixed place) shown)
  table_status ExportLong shown = is_play ExportLong (of_memory ExportLong shown)
  table_status (ExportPart number) shown = is_play (ExportPart number) (of_memory (ExportPart number) shown)
  table_status (Missing place) shown = is_play (Missing place) (of_memory (Missing place) shown)
  table_status (Capture number offset) shown = is_play (Capture number offset) (of_memory (Capture number offset) shown)
  table_status (NoEvidence named offset) shown = is_play (NoEvidence named offset) (of_memory (NoEvidence named offset) shown)

  table_channel : (status : Status) → Shows status → status ≡ NoChannel → ⊥
  table_channel status shown is = (subst Shows is shown).1 plain

  text_is : (x : Contents) (all : List Record) → all ≡ records_asked x asked → whole_text (λ before r. []) last all ≡ text (records_asked x asked)
  text_is x all is = ap (λ (l : List ℕ). l ++ last all) (no_lines [] all) ∙ last_is all ∙ ap text is

  table_printed : (status : Status) → Shows status → (x : Contents) → tells → HoldsContents disk.reads x → CanBeRead x → PrintsText (text (records_asked x asked)) status was next
  table_printed Done shown x t holds can = subst (λ (l : List ℕ). Prints l was next) (text_is x shown.0 (shown.3 x t holds can)) shown.2
  table_printed Words shown x t holds can = tt
  table_printed (Config n) shown x t holds can = tt
  table_printed (Small small) shown x t holds can = tt
  table_printed Unformatted shown x t holds can = tt
  table_printed Formatted shown x t holds can = tt
  table_printed (Damaged k at) shown x t holds can = tt
  table_printed MediaFault shown x t holds can = tt
  table_printed (PortFault group) shown x t holds can = tt
  table_printed (LinkFault link) shown x t holds can = tt
  table_printed InputFault shown x t holds can = tt
  table_printed OutputFault shown x t holds can = subst (λ (l : List ℕ). PrintsFront l was next) (text_is x (records_asked x asked) refl) (shown.1 x t holds can)
  table_printed NoMemory shown x t holds can = tt
  table_printed (Feed n at) shown x t holds can = tt
  table_printed NoChannel shown x t holds can = tt
  table_printed (NoIncident id) shown x t holds can = tt
  table_printed (SaveRefused cause) shown x t holds can = tt
  table_printed Place shown x t holds can = tt
  table_printed Tick shown x t holds can = tt
  table_printed ExportKind shown x t holds can = tt
  table_printed ExportNothing shown x t holds can = tt
  table_printed (ExportMixed place) shown x t holds can = tt
  table_printed ExportLong shown x t holds can = tt
  table_printed (ExportPart number) shown x t holds can = tt
  table_printed (Missing place) shown x t holds can = tt
  table_printed (Capture number offset) shown x t holds can = tt
  table_printed (NoEvidence named offset) shown x t holds can = tt

  table_output : (status : Status) → Shows status → status ≡ OutputFault → OutputFailed was next
  table_output status shown is = (subst Shows is shown).0

  still : next ≡ was → Prints [] was next
  still same = subst (λ (o : OutputSeen). Prints [] was o) (sym same) (Appends-nil was.taken)

  none : (records : List Record) → Prints (text_of (λ before r. []) records) was next → Prints [] was next
  none records printed = subst (λ (l : List ℕ). Prints l was next) (no_lines [] records) printed

  none_of : (status : Status) → ((status ≡ NoMemory) × (next ≡ was)) ⊎ Stopped status → Prints [] was next
  none_of status shown = ⊎_elim (λ (m : (status ≡ NoMemory) × (next ≡ was)). still m.1) (λ (s : Stopped status). none s.printed.0 s.printed.3) shown

  table_silent : (status : Status) → Shows status → IsWorkDone status ⊎ Prints [] was next
  table_silent Done shown = inl tt
  table_silent Words shown = inr (none_of Words shown)
  table_silent (Config n) shown = inr (none_of (Config n) shown)
  table_silent (Small small) shown = inr (none_of (Small small) shown)
  table_silent Unformatted shown = inr (still shown)
  table_silent Formatted shown = inr (none_of Formatted shown)
  table_silent (Damaged k at) shown = inr (none shown.0 shown.1)
  table_silent MediaFault shown = inr (none shown.0 shown.1)
  table_silent (PortFault group) shown = inr (none_of (PortFault group) shown)
  table_silent (LinkFault link) shown = inr (none_of (LinkFault link) shown)
  table_silent InputFault shown = inr (none_of InputFault shown)
  table_silent OutputFault shown = inl tt
  table_silent NoMemory shown = inr (none_of NoMemory shown)
  table_silent (Feed n at) shown = inr (none_of (Feed n at) shown)
  table_silent NoChannel shown = absurd (shown.1 plain)
  table_silent (NoIncident id) shown = inr (still shown)
  table_silent (SaveRefused cause) shown = inr (none_of (SaveRefused cause) shown)
  table_silent Place shown = inr (none_of Place shown)
  table_silent Tick shown = inr (none_of Tick shown)
  table_silent ExportKind shown = inr (none_of ExportKind shown)
  table_silent ExportNothing shown = inr (none_of ExportNothing shown)
  table_silent (ExportMixed place) shown = inr (none_of (ExportMixed place) shown)
  table_silent ExportLong shown = inr (none_of ExportLong shown)
  table_silent (ExportPart number) shown = inr (none_of (ExportPart number) shown)
  table_silent (Missing place) shown = inr (none_of (Missing place) shown)
  table_silent (Capture number offset) shown = inr (none_of (Capture number offset) shown)
  table_silent (NoEvidence named offset) shown = inr (none_of (NoEvidence named offset) shown)

-- What a visitor made of the media that prints a table behind the last record is what the command owes.
module _ {tells tells_images R : Type 0} {asked : AskedPlay} {Has : List Record → Type 0} {Stops : List Record → R → Type 0} {old new : Outside tells tells_images} {status : Status} (plain : asked.channel ≡ all_records)
    (text last : List Record → List ℕ) (last_is : (records : List Record) → last records ≡ text records) (told : ReadsOut asked Has Stops (λ reason. NoMemory) (λ before r. []) last old new status)
    (law : OneAnswer old.media.disk.reads) where
  pub table_owed : TellsTable asked text old new status
  table_owed =
      let own = table_status asked plain text old.media.disk Has Stops last last_is old.output new.output status told.shown in
      let output = table_output asked plain text old.media.disk Has Stops last last_is old.output new.output status told.shown in
      record {
        own = own;
        no_channel = table_channel asked plain text old.media.disk Has Stops last last_is old.output new.output status told.shown;
        printed = table_printed asked plain text old.media.disk Has Stops last last_is old.output new.output status told.shown;
        output = output;
        silent = table_silent asked plain text old.media.disk Has Stops last last_is old.output new.output status told.shown;
        media = told.media;
        missing = told.missing;
        bytes = told.bytes;
        complete = λ none t. plays_all asked old.media new.media t law status (λ is. none.output (output is)) (λ is. none.media (told.media.media.fault is)) own told.media;
      }

  pub table_known : status ≡ Words → ⊥
  table_known is = subst IsPlayStatus is (table_status asked plain text old.media.disk Has Stops last last_is old.output new.output status told.shown)

-- What a counter of sources prints behind the last record, from an empty table on.
pub sources_last : (first : List Row) → first ≡ [] → (records : List Record) → sources_text (fold with_record first records) ≡ sources_text (sources_of records)
sources_last first new records = ap (λ (rows : List Row). sources_text (fold with_record rows records)) new ∙ ap sources_text (by_records [] records)

-- The same stamp.
pub same_stamp : {tells tells_images : Type 0} {medium : Medium} {old new : Outside tells tells_images} {status : Status} (t u : ℤ) → t ≡ u → TellsTargets medium t old new status → TellsTargets medium u old new status
same_stamp {medium = medium} {old = old} {new = new} {status = status} t u is owed = subst (λ (at : ℤ). TellsTargets medium at old new status) is owed
