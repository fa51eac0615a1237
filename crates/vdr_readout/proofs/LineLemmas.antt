-- What a command owes that tells records one after another, selected or all of a medium, from what reading out ensures.
use Rattle.std.proofs.Common.{◌≡◌, ◌⊎◌, inl, inr, ⊎_elim, ◌++◌, ℕ, List, [], refl, sym, ap, subst, ◌∙◌, append_assoc}
use Rattle.std.proofs.KnownBytes.{Appends-nil}
use Rattle.vdr_terms.specs.Records.{Record}
use Rattle.vdr_outside.specs.Disk.{Disk}
use Rattle.vdr_entry.specs.declared.query.Medium.{Medium}
use Rattle.vdr_opening.specs.Media.{Contents, HoldsContents}
use Rattle.vdr_visit.specs.Prints.{text_of, whole_text}
use Rattle.vdr_command.specs.Endings.{IsWorkDone}
use Rattle.vdr_command.specs.Opened.{OneAnswer, PrintsText}
use Rattle.vdr_command.specs.Outside.{Outside, OutputFailed, OutputSeen, Prints, PrintsFront, Writes}
use Rattle.vdr_command.specs.StatusLine.{channel_line}
use Rattle.vdr_command.specs.declared.status.Status.{Status}
use Rattle.vdr_command.specs.declared.status.Status.TheVariants.{Done, Words, Config, Small, Unformatted, Formatted, Damaged, MediaFault, PortFault, LinkFault, InputFault, OutputFault, NoMemory, Feed, NoChannel, NoIncident, SaveRefused, Place, Tick, ExportKind, ExportNothing, ExportMixed, ExportLong, ExportPart, Capture, NoEvidence, Missing}
use Rattle.vdr_readout.specs.Plays.{IsPlayStatus}
use Rattle.vdr_readout.specs.Reads.{AreFirst, AskedPlay, CanBeRead, ReadsOut, ShowsReading, StoppedItself, all_records, records_asked}
use Rattle.vdr_readout.specs.Sources.{whole_of}
use Rattle.vdr_readout.specs.Lines.{TellsLines}
use Rattle.vdr_readout.specs.Selections.{TellsSelected}
use Rattle.vdr_readout.specs.Watches.{IsCutShort}
use Rattle.vdr_readout.proofs.PlayCompleteness.{plays_all}

module _ {tells tells_images R : Type 0} (line : List Record → Record → List ℕ) (last : List Record → List ℕ) (asked : AskedPlay)
    (disk : Disk tells tells_images) (Has : List Record → Type 0) (Stops : List Record → R → Type 0) (was next : OutputSeen) where
  abbrev Stopped : Status → Type 0
  Stopped status = StoppedItself asked disk Stops (λ reason. NoMemory) line was next status

  abbrev Shows : Status → Type 0
  Shows status = ShowsReading asked disk Has Stops (λ reason. NoMemory) line last was next status

  -- What is owed of the output.
  record Owes (status : Status) : Type 0 where
    own : IsPlayStatus status
    printed : (x : Contents) → tells → HoldsContents disk.reads x → CanBeRead x → PrintsText (whole_text line last (records_asked x asked)) status was next
    cut : IsCutShort status → (first : List Record) × Prints (text_of line first) was next × AreFirst asked disk first
    output : status ≡ OutputFault → OutputFailed was next
    channel : status ≡ NoChannel → Writes (channel_line asked.channel) was next
    silent : IsWorkDone status ⊎ ((status ≡ NoChannel) ⊎ (IsCutShort status ⊎ Prints [] was next))

  still : next ≡ was → Prints [] was next
  still same = subst (λ (o : OutputSeen). Prints [] was o) (sym same) (Appends-nil was.taken)

  text_is : (x : Contents) (all : List Record) → all ≡ records_asked x asked → whole_text line last all ≡ whole_text line last (records_asked x asked)
  text_is x all is = ap (λ (records : List Record). whole_text line last records) is

  -- The first records were told, and no more.
  cut_off : (status : Status) → IsPlayStatus status → IsCutShort status → ((text : List ℕ) → PrintsText text status was next) → (status ≡ OutputFault → ⊥) → (status ≡ NoChannel → ⊥)
      → (first : List Record) → Prints (text_of line first) was next → AreFirst asked disk first → Owes status
  cut_off status own cut printed never other first told are = record {
    own = own;
    printed = λ x t holds can. printed (whole_text line last (records_asked x asked));
    cut = λ short. (first, told, are);
    output = λ is. absurd (never is);
    channel = λ is. absurd (other is);
    silent = inr (inr (inl cut));
  }

  -- Nothing was read.
  unread : (status : Status) → IsPlayStatus status → (IsCutShort status → ⊥) → ((text : List ℕ) → PrintsText text status was next) → (status ≡ OutputFault → ⊥) → (status ≡ NoChannel → ⊥) → next ≡ was → Owes status
  unread status own never printed no_output other same = record {
    own = own;
    printed = λ x t holds can. printed (whole_text line last (records_asked x asked));
    cut = λ short. absurd (never short);
    output = λ is. absurd (no_output is);
    channel = λ is. absurd (other is);
    silent = inr (inr (inr (still same)));
  }

  -- There was no memory, at opening or for a source or an alarm.
  memory : ((NoMemory ≡ NoMemory) × (next ≡ was)) ⊎ Stopped NoMemory → Owes NoMemory
  memory shown = ⊎_elim
      (λ (m : (NoMemory ≡ NoMemory) × (next ≡ was)). cut_off NoMemory tt tt (λ text. tt) (λ is. let none : ⊥ = cc in none) (λ is. let none : ⊥ = cc in none) [] (still m.1) (λ x t holds can. (records_asked x asked, refl)))
      (λ (s : Stopped NoMemory). cut_off NoMemory tt tt (λ text. tt) (λ is. let none : ⊥ = cc in none) (λ is. let none : ⊥ = cc in none) s.printed.0 s.printed.3
      (λ x t holds can. let a = s.first x t holds can in
      (s.printed.1 ++ a.0, a.1 ∙ ap (λ (l : List Record). l ++ a.0) s.printed.2 ∙ append_assoc s.printed.0 s.printed.1 a.0)))
      shown

  by_memory : (status : Status) → ((status ≡ NoMemory) × (next ≡ was)) ⊎ Stopped status → Owes status
  by_memory status shown =
      let is : status ≡ NoMemory = ⊎_elim (λ (m : (status ≡ NoMemory) × (next ≡ was)). m.0) (λ (s : Stopped status). sym s.is) shown in
      subst Owes (sym is) (memory (subst (λ (s : Status). ((s ≡ NoMemory) × (next ≡ was)) ⊎ Stopped s) is shown))

  owes : (status : Status) → Shows status → Owes status
  owes Done shown = record {
    own = tt;
    printed = λ x t holds can. subst (λ (l : List ℕ). Prints l was next) (text_is x shown.0 (shown.3 x t holds can)) shown.2;
    cut = λ short. absurd short;
    output = λ is. let none : ⊥ = cc in absurd none;
    channel = λ is. let none : ⊥ = cc in absurd none;
    silent = inl tt;
  }
  owes OutputFault shown = record {
    own = tt;
    printed = λ x t holds can. subst (λ (l : List ℕ). PrintsFront l was next) (text_is x (records_asked x asked) refl) (shown.1 x t holds can);
    cut = λ short. absurd short;
    output = λ is. shown.0;
    channel = λ is. let none : ⊥ = cc in absurd none;
    silent = inl tt;
  }
  owes MediaFault shown = cut_off MediaFault tt tt (λ text. tt) (λ is. let none : ⊥ = cc in none) (λ is. let none : ⊥ = cc in none) shown.0 shown.1 shown.2
  owes (Damaged k at) shown = cut_off (Damaged k at) tt tt (λ text. tt) (λ is. let none : ⊥ = cc in none) (λ is. let none : ⊥ = cc in none) shown.0 shown.1 shown.2
  owes Unformatted shown = unread Unformatted tt (λ short. short) (λ text. tt) (λ is. let none : ⊥ = cc in none) (λ is. let none : ⊥ = cc in none) shown
  owes (NoIncident id) shown = unread (NoIncident id) tt (λ short. short) (λ text. tt) (λ is. let none : ⊥ = cc in none) (λ is. let none : ⊥ = cc in none) shown
  owes NoChannel shown = record {
    own = tt;
    printed = λ x t holds can. tt;
    cut = λ short. absurd short;
    output = λ is. let none : ⊥ = cc in absurd none;
    channel = λ is. shown.0;
    silent = inr (inl refl);
  }
  owes NoMemory shown = memory shown
  owes Words shown = by_memory Words shown
  owes (Config n) shown = by_memory (Config n) shown
  owes (Small small) shown = by_memory (Small small) shown
  owes Formatted shown = by_memory Formatted shown
  owes (PortFault group) shown = by_memory (PortFault group) shown
  owes (LinkFault link) shown = by_memory (LinkFault link) shown
  owes InputFault shown = by_memory InputFault shown
  owes (Feed n at) shown = by_memory (Feed n at) shown
  owes (SaveRefused cause) shown = by_memory (SaveRefused cause) shown
  owes Place shown = by_memory Place shown
  owes Tick shown = by_memory Tick shown
  owes ExportKind shown = by_memory ExportKind shown
  owes ExportNothing shown = by_memory ExportNothing shown
  owes (ExportMixed place) shown = by_memory (ExportMixed place) shown
  owes ExportLong shown = by_memory ExportLong shown
  owes (ExportPart number) shown = by_memory (ExportPart number) shown
  owes (Missing place) shown = by_memory (Missing place) shown
  owes (Capture number offset) shown = by_memory (Capture number offset) shown
  owes (NoEvidence named offset) shown = by_memory (NoEvidence named offset) shown

  no_channel : (status : Status) → Shows status → asked.channel ≡ all_records → status ≡ NoChannel → ⊥
  no_channel status shown all is = (subst Shows is shown).1 all

-- What a visitor made of the media is what the command owes.
module _ {tells tells_images R : Type 0} {line : List Record → Record → List ℕ} {last : List Record → List ℕ} {asked : AskedPlay} {Has : List Record → Type 0} {Stops : List Record → R → Type 0} {old new : Outside tells tells_images} {status : Status}
    (told : ReadsOut asked Has Stops (λ reason. NoMemory) line last old new status) where
  owed : Owes line last asked old.media.disk Has Stops old.output new.output status
  owed = owes line last asked old.media.disk Has Stops old.output new.output status told.shown

  pub selected_owed : OneAnswer old.media.disk.reads → TellsSelected line last asked old new status
  selected_owed law = record {
    own = owed.own;
    printed = owed.printed;
    cut = owed.cut;
    output = owed.output;
    channel = owed.channel;
    silent = owed.silent;
    media = told.media;
    missing = told.missing;
    bytes = told.bytes;
    complete = λ none t. plays_all asked old.media new.media t law status (λ is. none.output (owed.output is)) (λ is. none.media (told.media.media.fault is)) owed.own told.media;
  }

  pub lines_known : status ≡ Words → ⊥
  lines_known is = subst IsPlayStatus is owed.own

-- The same of all records of a medium, for which no channel is asked.
module _ {tells tells_images R : Type 0} {line : List Record → Record → List ℕ} {last : List Record → List ℕ} {medium : Medium} {Has : List Record → Type 0} {Stops : List Record → R → Type 0} {old new : Outside tells tells_images} {status : Status}
    (told : ReadsOut (whole_of medium) Has Stops (λ reason. NoMemory) line last old new status) where
  none_lacks : status ≡ NoChannel → ⊥
  none_lacks = no_channel line last (whole_of medium) old.media.disk Has Stops old.output new.output status told.shown refl

  pub lines_owed : OneAnswer old.media.disk.reads → TellsLines line last medium old new status
  lines_owed law =
      let s = selected_owed told law in
      record {
        own = s.own;
        no_channel = none_lacks;
        printed = s.printed;
        cut = s.cut;
        output = s.output;
        silent = ⊎_elim inl (λ rest. inr (⊎_elim (λ is. absurd (none_lacks is)) (λ others. others) rest)) s.silent;
        media = s.media;
        missing = s.missing;
        bytes = s.bytes;
        complete = s.complete;
      }
