-- What `evidence` owes, from what the calls on the media ensure.
use Rattle.std.proofs.Common.{◌≡◌, ◌⊎◌, inl, inr, ⊎_elim, ℕ, List, [], Option, refl, sym, ◌∙◌, subst}
use Rattle.std.proofs.KnownBytes.{Appends-nil}
use Rattle.vdr_terms.specs.Records.{Record}
use Rattle.vdr_core.specs.Histories as histories
use Rattle.vdr_outside.specs.Disk.{Disk}
use Rattle.vdr_opening.specs.Media.{Contents, HoldsContents}
use Rattle.vdr_opening.specs.declared.refused.OpenRefused.{OpenRefused}
use Rattle.vdr_opening.specs.declared.refused.OpenRefused.TheVariants as openings
use Rattle.vdr_outside.specs.declared.fault.PartRefused.{PartRefused}
use Rattle.vdr_outside.specs.declared.fault.PartRefused.TheVariants as parts
use Rattle.vdr_evidence.specs.Files.{evidence_bytes, last_lines, line_at}
use Rattle.vdr_evidence.specs.Laws.{EvidenceIsWritten}
use Rattle.vdr_visit.specs.Prints.{text_of, whole_text}
use Rattle.vdr_command.specs.Endings.{IsWorkDone}
use Rattle.vdr_command.specs.Opened.{AddsMissing, AreLooks, MediaEnds, OneAnswer, PrintsText}
use Rattle.vdr_command.specs.Outside.{Outside, OutputFailed, OutputSeen, Prints, PrintsFront, Writes}
use Rattle.vdr_command.specs.StatusLine.{IsNoChannel, channel_line}
use Rattle.vdr_command.specs.Statuses.{status_of_opening}
use Rattle.vdr_command.specs.declared.status.Status.{Status}
use Rattle.vdr_command.specs.declared.status.Status.TheVariants.{Done, Words, Config, Small, Unformatted, Formatted, Damaged, MediaFault, PortFault, LinkFault, InputFault, OutputFault, NoMemory, Feed, NoChannel, NoIncident, SaveRefused, Place, Tick, ExportKind, ExportNothing, ExportMixed, ExportLong, ExportPart, Capture, NoEvidence, Missing}
use Rattle.vdr_readout.specs.Evidences.{Evidences, evidence_of, heading_asked}
use Rattle.vdr_readout.specs.Plays.{IsCut, IsPlayStatus}
use Rattle.vdr_readout.specs.Reads.{AreFirst, AskedPlay, CanBeRead, CanPlay, MetUnreadable, PlayEnds, ShowsReading, StoppedItself, id_of, records_asked}
use Rattle.vdr_readout.specs.Telling.{status_of_part}
use Rattle.vdr_readout.proofs.PlayCompleteness.{plays_all}
use Rattle.vdr_readout.proofs.RefusedLemmas.{with_media}

-- What stands before the records is told by what was opened.
pub heading_is : (heading text : List ℕ) (table : List (Option histories.Incident)) (asked : AskedPlay) (x : Contents) → heading ≡ heading_asked text table asked → text ≡ x.text → table ≡ x.table
    → heading ≡ heading_asked x.text x.table asked
heading_is heading text table asked x is texts tables = is ∙ (λ i. heading_asked (texts i) (tables i) asked)

-- Nothing was written.
module _ {tells tells_images : Type 0} (asked : AskedPlay) (old new : Outside tells tells_images) (law : OneAnswer old.media.disk.reads) (missing : AddsMissing old.media.disk new.media.disk) where
  unread : (status : Status) → IsPlayStatus status → ((text : List ℕ) → PrintsText text status old.output new.output) → (status ≡ OutputFault → ⊥) → (status ≡ NoChannel → ⊥)
      → new.output ≡ old.output → PlayEnds asked old.media new.media status → Evidences asked old new status
  unread status own printed no_output no_line same media = record {
    own = own;
    written = λ x t holds can. printed (evidence_of x asked);
    cut = λ cut. ([], [], subst (λ (o : OutputSeen). Prints [] old.output o) (sym same) (Appends-nil old.output.taken), (λ x t holds can. (records_asked x asked, refl)), (λ x t holds can. inl refl));
    output = λ is. absurd (no_output is);
    line = λ is. absurd (no_line is);
    silent = inr (inr (inr same));
    media = media;
    missing = missing;
    complete = λ none t. plays_all asked old.media new.media t law status no_output (λ is. none.media (media.media.fault is)) own media;
  }

  pub incident_evidence : new.output ≡ old.output → PlayEnds asked old.media new.media (NoIncident (id_of asked.medium)) → Evidences asked old new (NoIncident (id_of asked.medium))
  incident_evidence same media = unread (NoIncident (id_of asked.medium)) tt (λ text. tt) (λ is. let none : ⊥ = cc in none) (λ is. let none : ⊥ = cc in none) same media

  -- The media were not opened.
  pub refused_evidence : (refused : OpenRefused) → new.output ≡ old.output
      → MediaEnds (λ x. CanPlay x asked.medium asked.channel) (MetUnreadable asked old.media.disk new.media.disk (λ x. CanPlay x asked.medium asked.channel)) AreLooks old.media new.media (status_of_opening refused)
      → Evidences asked old new (status_of_opening refused)
  refused_evidence openings.NoMemory same media = unread NoMemory tt (λ text. tt) (λ is. let none : ⊥ = cc in none) (λ is. let none : ⊥ = cc in none) same (with_media asked old.media new.media openings.NoMemory media)
  refused_evidence openings.NotFormatted same media = unread Unformatted tt (λ text. tt) (λ is. let none : ⊥ = cc in none) (λ is. let none : ⊥ = cc in none) same (with_media asked old.media new.media openings.NotFormatted media)
  refused_evidence (openings.Damaged m offset) same media =
      unread (Damaged m offset) tt (λ text. tt) (λ is. let none : ⊥ = cc in none) (λ is. let none : ⊥ = cc in none) same (with_media asked old.media new.media (openings.Damaged m offset) media)
  refused_evidence openings.Fault same media = unread MediaFault tt (λ text. tt) (λ is. let none : ⊥ = cc in none) (λ is. let none : ⊥ = cc in none) same (with_media asked old.media new.media openings.Fault media)

  -- The text of the configuration could not be read.
  pub part_evidence : (part : PartRefused) → new.output ≡ old.output → PlayEnds asked old.media new.media (status_of_part part) → Evidences asked old new (status_of_part part)
  part_evidence parts.NoMemory same media = unread NoMemory tt (λ text. tt) (λ is. let none : ⊥ = cc in none) (λ is. let none : ⊥ = cc in none) same media
  part_evidence (parts.Damaged m offset) same media = unread (Damaged m offset) tt (λ text. tt) (λ is. let none : ⊥ = cc in none) (λ is. let none : ⊥ = cc in none) same media
  part_evidence parts.Fault same media = unread MediaFault tt (λ text. tt) (λ is. let none : ⊥ = cc in none) (λ is. let none : ⊥ = cc in none) same media

  -- No such channel is configured.
  pub channel_evidence : Writes (channel_line asked.channel) old.output new.output → PlayEnds asked old.media new.media NoChannel → Evidences asked old new NoChannel
  channel_evidence wrote media = record {
    own = tt;
    written = λ x t holds can. tt;
    cut = λ cut. absurd cut;
    output = λ is. let none : ⊥ = cc in absurd none;
    line = λ is. wrote;
    silent = inr (inl tt);
    media = media;
    missing = missing;
    complete = λ none t. plays_all asked old.media new.media t law NoChannel (λ is. let no : ⊥ = cc in no) (λ is. let no : ⊥ = cc in no) tt media;
  }

-- Records were visited behind this heading.
module _ {tells tells_images : Type 0} (R : Type 0) (asked : AskedPlay) (disk : Disk tells tells_images) (Has : List Record → Type 0) (heading : List ℕ) (wrote : EvidenceIsWritten) (was next : OutputSeen)
    (is : (x : Contents) → tells → HoldsContents disk.reads x → heading ≡ heading_asked x.text x.table asked) where
  abbrev Stopped : Status → Type 0
  Stopped status = StoppedItself {R = R} asked disk (λ seen reason. ⊥) (λ reason. NoMemory) (line_at heading) was next status

  abbrev Shows : Status → Type 0
  Shows status = ShowsReading {R = R} asked disk Has (λ seen reason. ⊥) (λ reason. NoMemory) (line_at heading) (last_lines heading) was next status

  -- What is owed of the output.
  record Owes (status : Status) : Type 0 where
    own : IsPlayStatus status
    written : (x : Contents) → tells → HoldsContents disk.reads x → CanBeRead x → PrintsText (evidence_of x asked) status was next
    cut : IsCut status → (first : List Record) × (of : List ℕ) × Prints (text_of (line_at of) first) was next × AreFirst asked disk first
        × ((x : Contents) → tells → HoldsContents disk.reads x → CanBeRead x → (first ≡ []) ⊎ (of ≡ heading_asked x.text x.table asked))
    output : status ≡ OutputFault → OutputFailed was next
    line : status ≡ NoChannel → Writes (channel_line asked.channel) was next
    silent : IsWorkDone status ⊎ (IsNoChannel status ⊎ (IsCut status ⊎ (next ≡ was)))

  text_is : (x : Contents) (all : List Record) → tells → HoldsContents disk.reads x → all ≡ records_asked x asked → whole_text (line_at heading) (last_lines heading) all ≡ evidence_of x asked
  text_is x all t holds same = wrote heading all ∙ (λ i. evidence_bytes (is x t holds i) (same i))

  cut_off : (status : Status) → IsPlayStatus status → IsCut status → ((text : List ℕ) → PrintsText text status was next) → (status ≡ OutputFault → ⊥) → (status ≡ NoChannel → ⊥)
      → (first : List Record) → Prints (text_of (line_at heading) first) was next → AreFirst asked disk first → Owes status
  cut_off status own cut printed no_output no_line first told are = record {
    own = own;
    written = λ x t holds can. printed (evidence_of x asked);
    cut = λ it. (first, heading, told, are, (λ x t holds can. inr (is x t holds)));
    output = λ e. absurd (no_output e);
    line = λ e. absurd (no_line e);
    silent = inr (inr (inl cut));
  }

  nothing : (status : Status) → IsPlayStatus status → (IsCut status → ⊥) → ((text : List ℕ) → PrintsText text status was next) → (status ≡ OutputFault → ⊥) → (status ≡ NoChannel → ⊥) → next ≡ was → Owes status
  nothing status own no_cut printed no_output no_line same = record {
    own = own;
    written = λ x t holds can. printed (evidence_of x asked);
    cut = λ it. absurd (no_cut it);
    output = λ e. absurd (no_output e);
    line = λ e. absurd (no_line e);
    silent = inr (inr (inr same));
  }

  memory : (status : Status) → ((status ≡ NoMemory) × (next ≡ was)) ⊎ Stopped status → Owes status
  memory status shown = ⊎_elim
      (λ (m : (status ≡ NoMemory) × (next ≡ was)). subst Owes (sym m.0) (nothing NoMemory tt (λ it. it) (λ text. tt) (λ e. let none : ⊥ = cc in none) (λ e. let none : ⊥ = cc in none) m.1))
      (λ (s : Stopped status). absurd s.stops) shown

  owes : (status : Status) → Shows status → Owes status
  owes Done shown = record {
    own = tt;
    written = λ x t holds can. subst (λ (l : List ℕ). Prints l was next) (text_is x shown.0 t holds (shown.3 x t holds can)) shown.2;
    cut = λ it. absurd it;
    output = λ e. let none : ⊥ = cc in absurd none;
    line = λ e. let none : ⊥ = cc in absurd none;
    silent = inl tt;
  }
  owes OutputFault shown = record {
    own = tt;
    written = λ x t holds can. subst (λ (l : List ℕ). PrintsFront l was next) (text_is x (records_asked x asked) t holds refl) (shown.1 x t holds can);
    cut = λ it. absurd it;
    output = λ e. shown.0;
    line = λ e. let none : ⊥ = cc in absurd none;
    silent = inl tt;
  }
  owes MediaFault shown = cut_off MediaFault tt tt (λ text. tt) (λ e. let none : ⊥ = cc in none) (λ e. let none : ⊥ = cc in none) shown.0 shown.1 shown.2
  owes (Damaged k at) shown = cut_off (Damaged k at) tt tt (λ text. tt) (λ e. let none : ⊥ = cc in none) (λ e. let none : ⊥ = cc in none) shown.0 shown.1 shown.2
  owes Unformatted shown = nothing Unformatted tt (λ it. it) (λ text. tt) (λ e. let none : ⊥ = cc in none) (λ e. let none : ⊥ = cc in none) shown
  owes (NoIncident id) shown = nothing (NoIncident id) tt (λ it. it) (λ text. tt) (λ e. let none : ⊥ = cc in none) (λ e. let none : ⊥ = cc in none) shown
  owes NoChannel shown = record {
    own = tt;
    written = λ x t holds can. tt;
    cut = λ it. absurd it;
    output = λ e. let none : ⊥ = cc in absurd none;
    line = λ e. shown.0;
    silent = inr (inl tt);
  }
  owes NoMemory shown = memory NoMemory shown
  owes Words shown = memory Words shown
  owes (Config n) shown = memory (Config n) shown
  owes (Small small) shown = memory (Small small) shown
  owes Formatted shown = memory Formatted shown
  owes (PortFault group) shown = memory (PortFault group) shown
  owes (LinkFault link) shown = memory (LinkFault link) shown
  owes InputFault shown = memory InputFault shown
  owes (Feed n at) shown = memory (Feed n at) shown
  owes (SaveRefused cause) shown = memory (SaveRefused cause) shown
  owes Place shown = memory Place shown
  owes Tick shown = memory Tick shown
  owes ExportKind shown = memory ExportKind shown
  owes ExportNothing shown = memory ExportNothing shown
  owes (ExportMixed place) shown = memory (ExportMixed place) shown
  owes ExportLong shown = memory ExportLong shown
  owes (ExportPart number) shown = memory (ExportPart number) shown
  owes (Missing place) shown = memory (Missing place) shown
  owes (Capture number offset) shown = memory (Capture number offset) shown
  owes (NoEvidence named offset) shown = memory (NoEvidence named offset) shown

-- What a writer made of the media is what the command owes.
pub evidence_owed : {tells tells_images : Type 0} (R : Type 0) (asked : AskedPlay) (Has : List Record → Type 0) (heading : List ℕ) → EvidenceIsWritten → (old new : Outside tells tells_images) (status : Status)
    → ((x : Contents) → tells → HoldsContents old.media.disk.reads x → heading ≡ heading_asked x.text x.table asked)
    → ShowsReading {R = R} asked old.media.disk Has (λ seen reason. ⊥) (λ reason. NoMemory) (line_at heading) (last_lines heading) old.output new.output status
    → OneAnswer old.media.disk.reads → PlayEnds asked old.media new.media status → AddsMissing old.media.disk new.media.disk → Evidences asked old new status
evidence_owed R asked Has heading wrote old new status is shown law media missing =
    let owed = owes R asked old.media.disk Has heading wrote old.output new.output is status shown in
    record {
      own = owed.own;
      written = owed.written;
      cut = owed.cut;
      output = owed.output;
      line = owed.line;
      silent = owed.silent;
      media = media;
      missing = missing;
      complete = λ none t. plays_all asked old.media new.media t law status (λ e. none.output (owed.output e)) (λ e. none.media (media.media.fault e)) owed.own media;
    }

pub evidence_known : {tells tells_images : Type 0} {asked : AskedPlay} {old new : Outside tells tells_images} {status : Status} → Evidences asked old new status → status ≡ Words → ⊥
evidence_known owed is = subst IsPlayStatus is owed.own
