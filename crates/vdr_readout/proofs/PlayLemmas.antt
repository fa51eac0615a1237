-- What `play` owes, from what reading out ensures.
use Rattle.std.proofs.Common.{◌≡◌, ◌⊎◌, inl, inr, ⊎_elim, ℕ, List, [], refl, sym, ap, subst, ◌∙◌}
use Rattle.vdr_terms.specs.Records.{Record}
use Rattle.vdr_outside.specs.Disk.{Disk}
use Rattle.vdr_opening.specs.Media.{Contents, HoldsContents}
use Rattle.vdr_play.specs.Streams.{Seen, nothing_seen}
use Rattle.vdr_play.specs.Texts.{records_text}
use Rattle.vdr_visit.specs.Prints.{whole_text}
use Rattle.vdr_command.specs.Endings.{IsWorkDone}
use Rattle.vdr_command.specs.Opened.{OneAnswer, PrintsText}
use Rattle.vdr_command.specs.Outside.{Outside, OutputFailed, OutputSeen, Prints, PrintsFront, Writes}
use Rattle.vdr_command.specs.StatusLine.{IsNoChannel, channel_line}
use Rattle.vdr_command.specs.declared.status.Status.{Status}
use Rattle.vdr_command.specs.declared.status.Status.TheVariants.{Done, Words, Config, Small, Unformatted, Formatted, Damaged, MediaFault, PortFault, LinkFault, InputFault, OutputFault, NoMemory, Feed, NoChannel, NoIncident, SaveRefused, Place, Tick, ExportKind, ExportNothing, ExportMixed, ExportLong, ExportPart, Capture, NoEvidence, Missing}
use Rattle.vdr_recorder.proofs.Printing.{line_after, lines_are, whole_is}
use Rattle.vdr_readout.specs.Plays.{IsCut, IsPlayStatus, Plays, play_text}
use Rattle.vdr_readout.specs.Reads.{AreFirst, AskedPlay, CanBeRead, ReadsOut, ShowsReading, StoppedItself, records_asked}
use Rattle.vdr_readout.proofs.PlayCompleteness.{plays_all}

module _ {tells tells_images R : Type 0} (asked : AskedPlay) (disk : Disk tells tells_images) (Has : List Record → Type 0) (status_of : R → Status) (first : Seen) (new : first ≡ nothing_seen) (was next : OutputSeen) where
  abbrev Shows : Status → Type 0
  Shows status = ShowsReading asked disk Has (λ seen reason. ⊥) status_of (line_after first) (λ all. []) was next status

  -- A player never ends it by itself.
  never : (status : Status) → StoppedItself asked disk (λ seen reason. ⊥) status_of (line_after first) was next status → ⊥
  never status stopped = stopped.stops

  of_memory : (status : Status) → ((status ≡ NoMemory) × (next ≡ was)) ⊎ StoppedItself asked disk (λ seen reason. ⊥) status_of (line_after first) was next status → (status ≡ NoMemory) × (next ≡ was)
  of_memory status shown = ⊎_elim (λ (m : (status ≡ NoMemory) × (next ≡ was)). m) (λ (s : StoppedItself asked disk (λ seen reason. ⊥) status_of (line_after first) was next status). absurd (never status s)) shown

  is_play : (status : Status) → status ≡ NoMemory → IsPlayStatus status
  is_play status is = subst IsPlayStatus (sym is) tt

  play_status : (status : Status) → Shows status → IsPlayStatus status
  play_status Done shown = tt
  play_status Words shown = is_play Words (of_memory Words shown).0
  play_status (Config n) shown = is_play (Config n) (of_memory (Config n) shown).0
  play_status (Small small) shown = is_play (Small small) (of_memory (Small small) shown).0
  play_status Unformatted shown = tt
  play_status Formatted shown = is_play Formatted (of_memory Formatted shown).0
  play_status (Damaged k at) shown = tt
  play_status MediaFault shown = tt
  play_status (PortFault group) shown = is_play (PortFault group) (of_memory (PortFault group) shown).0
  play_status (LinkFault link) shown = is_play (LinkFault link) (of_memory (LinkFault link) shown).0
  play_status InputFault shown = is_play InputFault (of_memory InputFault shown).0
  play_status OutputFault shown = tt
  play_status NoMemory shown = tt
  play_status (Feed n at) shown = is_play (Feed n at) (of_memory (Feed n at) shown).0
  play_status NoChannel shown = tt
  play_status (NoIncident id) shown = tt
  play_status (SaveRefused cause) shown = is_play (SaveRefused cause) (of_memory (SaveRefused cause) shown).0
  play_status Place shown = is_play Place (of_memory Place shown).0
  play_status Tick shown = is_play Tick (of_memory Tick shown).0
  play_status ExportKind shown = is_play ExportKind (of_memory ExportKind shown).0
  play_status ExportNothing shown = is_play ExportNothing (of_memory ExportNothing shown).0
  play_status (ExportMixed place) shown = is_play (ExportMixed place) (of_memory (ExportMixed place) shown).0
  play_status ExportLong shown = is_play ExportLong (of_memory ExportLong shown).0
  play_status (ExportPart number) shown = is_play (ExportPart number) (of_memory (ExportPart number) shown).0
  play_status (Missing place) shown = is_play (Missing place) (of_memory (Missing place) shown).0
  play_status (Capture number offset) shown = is_play (Capture number offset) (of_memory (Capture number offset) shown).0
  play_status (NoEvidence named offset) shown = is_play (NoEvidence named offset) (of_memory (NoEvidence named offset) shown).0

  text_is : (x : Contents) (all : List Record) → all ≡ records_asked x asked → whole_text (line_after first) (λ all. []) all ≡ play_text x asked
  text_is x all is = whole_is first all new ∙ ap (λ (rs : List Record). records_text nothing_seen rs) is

  play_printed : (status : Status) → Shows status → (x : Contents) → tells → HoldsContents disk.reads x → CanBeRead x → PrintsText (play_text x asked) status was next
  play_printed Done shown x t holds can = subst (λ (l : List ℕ). Prints l was next) (text_is x shown.0 (shown.3 x t holds can)) shown.2
  play_printed Words shown x t holds can = tt
  play_printed (Config n) shown x t holds can = tt
  play_printed (Small small) shown x t holds can = tt
  play_printed Unformatted shown x t holds can = tt
  play_printed Formatted shown x t holds can = tt
  play_printed (Damaged k at) shown x t holds can = tt
  play_printed MediaFault shown x t holds can = tt
  play_printed (PortFault group) shown x t holds can = tt
  play_printed (LinkFault link) shown x t holds can = tt
  play_printed InputFault shown x t holds can = tt
  play_printed OutputFault shown x t holds can = subst (λ (l : List ℕ). PrintsFront l was next) (text_is x (records_asked x asked) refl) (shown.1 x t holds can)
  play_printed NoMemory shown x t holds can = tt
  play_printed (Feed n at) shown x t holds can = tt
  play_printed NoChannel shown x t holds can = tt
  play_printed (NoIncident id) shown x t holds can = tt
  play_printed (SaveRefused cause) shown x t holds can = tt
  play_printed Place shown x t holds can = tt
  play_printed Tick shown x t holds can = tt
  play_printed ExportKind shown x t holds can = tt
  play_printed ExportNothing shown x t holds can = tt
  play_printed (ExportMixed place) shown x t holds can = tt
  play_printed ExportLong shown x t holds can = tt
  play_printed (ExportPart number) shown x t holds can = tt
  play_printed (Missing place) shown x t holds can = tt
  play_printed (Capture number offset) shown x t holds can = tt
  play_printed (NoEvidence named offset) shown x t holds can = tt

  play_cut : (status : Status) → Shows status → IsCut status → (front : List Record) × Prints (records_text nothing_seen front) was next × AreFirst asked disk front
  play_cut Done shown cut = absurd cut
  play_cut Words shown cut = absurd cut
  play_cut (Config n) shown cut = absurd cut
  play_cut (Small small) shown cut = absurd cut
  play_cut Unformatted shown cut = absurd cut
  play_cut Formatted shown cut = absurd cut
  play_cut (Damaged k at) shown cut = (shown.0, subst (λ (l : List ℕ). Prints l was next) (lines_are first shown.0 new) shown.1, shown.2)
  play_cut MediaFault shown cut = (shown.0, subst (λ (l : List ℕ). Prints l was next) (lines_are first shown.0 new) shown.1, shown.2)
  play_cut (PortFault group) shown cut = absurd cut
  play_cut (LinkFault link) shown cut = absurd cut
  play_cut InputFault shown cut = absurd cut
  play_cut OutputFault shown cut = absurd cut
  play_cut NoMemory shown cut = absurd cut
  play_cut (Feed n at) shown cut = absurd cut
  play_cut NoChannel shown cut = absurd cut
  play_cut (NoIncident id) shown cut = absurd cut
  play_cut (SaveRefused cause) shown cut = absurd cut
  play_cut Place shown cut = absurd cut
  play_cut Tick shown cut = absurd cut
  play_cut ExportKind shown cut = absurd cut
  play_cut ExportNothing shown cut = absurd cut
  play_cut (ExportMixed place) shown cut = absurd cut
  play_cut ExportLong shown cut = absurd cut
  play_cut (ExportPart number) shown cut = absurd cut
  play_cut (Missing place) shown cut = absurd cut
  play_cut (Capture number offset) shown cut = absurd cut
  play_cut (NoEvidence named offset) shown cut = absurd cut

  play_output : (status : Status) → Shows status → status ≡ OutputFault → OutputFailed was next
  play_output status shown is = (subst Shows is shown).0

  play_line : (status : Status) → Shows status → status ≡ NoChannel → Writes (channel_line asked.channel) was next
  play_line status shown is = (subst Shows is shown).0

  play_silent : (status : Status) → Shows status → IsWorkDone status ⊎ (IsNoChannel status ⊎ (IsCut status ⊎ (next ≡ was)))
  play_silent Done shown = inl tt
  play_silent Words shown = inr (inr (inr (of_memory Words shown).1))
  play_silent (Config n) shown = inr (inr (inr (of_memory (Config n) shown).1))
  play_silent (Small small) shown = inr (inr (inr (of_memory (Small small) shown).1))
  play_silent Unformatted shown = inr (inr (inr shown))
  play_silent Formatted shown = inr (inr (inr (of_memory Formatted shown).1))
  play_silent (Damaged k at) shown = inr (inr (inl tt))
  play_silent MediaFault shown = inr (inr (inl tt))
  play_silent (PortFault group) shown = inr (inr (inr (of_memory (PortFault group) shown).1))
  play_silent (LinkFault link) shown = inr (inr (inr (of_memory (LinkFault link) shown).1))
  play_silent InputFault shown = inr (inr (inr (of_memory InputFault shown).1))
  play_silent OutputFault shown = inl tt
  play_silent NoMemory shown = inr (inr (inr (of_memory NoMemory shown).1))
  play_silent (Feed n at) shown = inr (inr (inr (of_memory (Feed n at) shown).1))
  play_silent NoChannel shown = inr (inl tt)
  play_silent (NoIncident id) shown = inr (inr (inr shown))
  play_silent (SaveRefused cause) shown = inr (inr (inr (of_memory (SaveRefused cause) shown).1))
  play_silent Place shown = inr (inr (inr (of_memory Place shown).1))
  play_silent Tick shown = inr (inr (inr (of_memory Tick shown).1))
  play_silent ExportKind shown = inr (inr (inr (of_memory ExportKind shown).1))
  play_silent ExportNothing shown = inr (inr (inr (of_memory ExportNothing shown).1))
  play_silent (ExportMixed place) shown = inr (inr (inr (of_memory (ExportMixed place) shown).1))
  play_silent ExportLong shown = inr (inr (inr (of_memory ExportLong shown).1))
  play_silent (ExportPart number) shown = inr (inr (inr (of_memory (ExportPart number) shown).1))
  play_silent (Missing place) shown = inr (inr (inr (of_memory (Missing place) shown).1))
  play_silent (Capture number offset) shown = inr (inr (inr (of_memory (Capture number offset) shown).1))
  play_silent (NoEvidence named offset) shown = inr (inr (inr (of_memory (NoEvidence named offset) shown).1))

-- What a player made of the media is what `play` owes.
module _ {tells tells_images R : Type 0} {asked : AskedPlay} {Has : List Record → Type 0} {status_of : R → Status} {first : Seen} {old new : Outside tells tells_images} {status : Status} (fresh : first ≡ nothing_seen)
    (told : ReadsOut asked Has (λ seen reason. ⊥) status_of (line_after first) (λ all. []) old new status) (law : OneAnswer old.media.disk.reads) where
  pub plays_owed : Plays asked old new status
  plays_owed =
      let own = play_status asked old.media.disk Has status_of first fresh old.output new.output status told.shown in
      let output = play_output asked old.media.disk Has status_of first fresh old.output new.output status told.shown in
      record {
        own = own;
        printed = play_printed asked old.media.disk Has status_of first fresh old.output new.output status told.shown;
        cut = play_cut asked old.media.disk Has status_of first fresh old.output new.output status told.shown;
        output = output;
        line = play_line asked old.media.disk Has status_of first fresh old.output new.output status told.shown;
        silent = play_silent asked old.media.disk Has status_of first fresh old.output new.output status told.shown;
        media = told.media;
        missing = told.missing;
        bytes = told.bytes;
        complete = λ none t. plays_all asked old.media new.media t law status (λ is. none.output (output is)) (λ is. none.media (told.media.media.fault is)) own told.media;
      }

  pub play_known : status ≡ Words → ⊥
  play_known is = subst IsPlayStatus is (play_status asked old.media.disk Has status_of first fresh old.output new.output status told.shown)
