-- What a command that reads records out answers where it reads none: opening was refused, or no such channel is configured.
use Rattle.std.specs.Prelude.{true, false, bytes_eq, length, is_none}
use Rattle.std.proofs.Common.{◌≡◌, inl, inr, ℕ, List, [], Option, Some, None, Result, Ok, refl, sym, ap, subst}
use Rattle.std.proofs.KnownBytes.{Appends-nil}
use Rattle.vdr_core.specs.Histories.{live}
use Rattle.vdr_core.specs.Histories as histories
use Rattle.vdr_durability.specs.Readings.{EndsMeet}
use Rattle.vdr_outside.specs.Disk.{Disk, SameBut}
use Rattle.vdr_terms.specs.Records.{Record}
use Rattle.vdr_config.specs.Configuration.{Configuration}
use Rattle.vdr_entry.specs.Queries.{asked_medium}
use Rattle.vdr_entry.specs.declared.query.Medium.{Medium as Played}
use Rattle.vdr_entry.specs.declared.query.Medium.TheVariants.{Capsule, LongTerm, Incident}
use Rattle.vdr_opening.specs.Media.{members_with, Contents, HoldsContents, opening_of, reading_of}
use Rattle.vdr_opening.specs.declared.refused.OpenRefused.{OpenRefused}
use Rattle.vdr_opening.specs.declared.refused.OpenRefused.TheVariants as openings
use Rattle.vdr_vault.specs.Openings.{OpensAtEachMoment}
use Rattle.vdr_vault.proofs.OpenMoments.{never_both}
use Rattle.vdr_vault.specs.Vaults.{VaultState, ShowsHistory}
use Rattle.vdr_command.specs.Opened.{AddsMissing, AreLooks, MediaEnds, WasRecorded}
use Rattle.vdr_command.specs.Endings.{IsWorkDone}
use Rattle.vdr_command.specs.Statuses.{status_of_opening}
use Rattle.vdr_command.specs.Outside.{MediaSeen, Outside, OutputSeen, Writes}
use Rattle.vdr_command.specs.StatusLine.{channel_line}
use Rattle.vdr_vault.proofs.Channels.{has_number, number_if, position_within}
use Rattle.vdr_visit.specs.Refusals.{lacks_channel, lacks_incident}
use Rattle.vdr_readout.specs.Reads.{AskedPlay, CanPlay, IsOwnStatus, LacksChannel, LacksIncident, MetUnreadable, PlayEnds, ReadsOut, ShowsReading, StoppedItself, channel_asked, channel_in, all_records, id_of, records_asked}
use Rattle.vdr_command.specs.declared.status.Status.{Status}
use Rattle.vdr_command.specs.declared.status.Status.TheVariants.{Done, Words, Config, Small, Unformatted, Formatted, Damaged, MediaFault, PortFault, LinkFault, InputFault, OutputFault, NoMemory, Feed, NoChannel, NoIncident, SaveRefused, Place, Tick, ExportKind, ExportNothing, ExportMixed, ExportLong, ExportPart, Capture, NoEvidence, Missing}
use Rattle.vdr_recorder.proofs.Playing.{config_read}
use Rattle.vdr_command.proofs.OpenedLemmas.{OpenedOn, kept_opened, no_looks, opened_so}

none_of : {A : Type 0} (o : Option A) → is_none o ≡ true → o ≡ None
none_of None e = refl
none_of (Some x) e = let none : ⊥ = cc in absurd none

-- An incident that is not live is asked for, in both words.
pub lacks_is : (table : List (Option histories.Incident)) (medium : Played) → lacks_incident table (asked_medium medium) ≡ true → LacksIncident table medium
lacks_is table Capsule e = let none : ⊥ = cc in absurd none
lacks_is table LongTerm e = let none : ⊥ = cc in absurd none
lacks_is table (Incident id) e = none_of (live table id) e

pub lacks_from : (table : List (Option histories.Incident)) (medium : Played) → LacksIncident table medium → lacks_incident table (asked_medium medium) ≡ true
lacks_from table Capsule lacks = absurd lacks
lacks_from table LongTerm lacks = absurd lacks
lacks_from table (Incident id) lacks = ap (λ (o : Option histories.Incident). is_none o) lacks

pub medium_is : (table : List (Option histories.Incident)) (medium : Played) → lacks_incident table (asked_medium medium) ≡ true → medium ≡ Incident (id_of medium)
medium_is table Capsule e = let none : ⊥ = cc in absurd none
medium_is table LongTerm e = let none : ⊥ = cc in absurd none
medium_is table (Incident id) e = refl

-- A channel that is asked for by its name is configured.
pub asked_within : (c : Configuration) (name : List ℕ) → lacks_channel (length c.channels) (channel_asked c name) ≡ false
asked_within c name = has_number (length c.channels) (channel_asked c name)
    (λ k is. position_within (λ channel. bytes_eq channel.name name) c.channels k (number_if (bytes_eq name all_records) (channel_in c name) k is))

-- Where opening is refused the work is not done.
pub not_done : (refused : OpenRefused) → IsWorkDone (status_of_opening refused) → ⊥
not_done openings.NoMemory done = done
not_done openings.NotFormatted done = done
not_done (openings.Damaged m offset) done = done
not_done openings.Fault done = done

module _ {tells tells_images : Type 0} where
  -- A play ends so where it is not of its own refusals.
  pub with_media : (asked : AskedPlay) (old new : MediaSeen tells tells_images) (refused : OpenRefused)
      → MediaEnds (λ x. CanPlay x asked.medium asked.channel) (MetUnreadable asked old.disk new.disk (λ x. CanPlay x asked.medium asked.channel)) AreLooks old new (status_of_opening refused)
      → PlayEnds asked old new (status_of_opening refused)
  with_media asked old new openings.NoMemory media = record {
    media = media;
    no_channel = λ e. let none : ⊥ = cc in absurd none;
    no_incident = tt;
    whole = λ e. let none : ⊥ = cc in absurd none;
  }
  with_media asked old new openings.NotFormatted media = record {
    media = media;
    no_channel = λ e. let none : ⊥ = cc in absurd none;
    no_incident = tt;
    whole = λ e. let none : ⊥ = cc in absurd none;
  }
  with_media asked old new (openings.Damaged m offset) media = record {
    media = media;
    no_channel = λ e. let none : ⊥ = cc in absurd none;
    no_incident = tt;
    whole = λ e. let none : ⊥ = cc in absurd none;
  }
  with_media asked old new openings.Fault media = record {
    media = media;
    no_channel = λ e. let none : ⊥ = cc in absurd none;
    no_incident = tt;
    whole = λ e. let none : ⊥ = cc in absurd none;
  }

  -- No such channel is configured.
  pub channel_ends : {T : Type 0} (asked : AskedPlay) (old new : MediaSeen tells tells_images) (result : Result T OpenRefused) (r : T) → result ≡ Ok r
      → (vault : VaultState) → LacksChannel vault.config asked.channel → OpenedOn old.disk vault
      → (tells → SameBut 1 old.disk.reads new.disk.reads)
      → ((x : Contents) → tells → HoldsContents old.disk.reads x → EndsMeet (members_with x.further) (reading_of x) → WasRecorded x → OpensAtEachMoment old.disk new.disk result (ShowsHistory (opening_of x) []))
      → PlayEnds asked old new NoChannel
  channel_ends asked old new result r is vault lacks parts others moments = record {
    media = record {
      unformatted = λ e. let none : ⊥ = cc in absurd none;
      damaged = tt;
      fault = λ e. let none : ⊥ = cc in absurd none;
      openable = λ played. absurd played;
      others = others;
      blank = λ t un. absurd (never_both old.disk.reads (parts t).0 un);
      kept = λ x t holds meet regular. inr (kept_opened x (config_read old.disk.reads x holds) regular AreLooks NoChannel old.disk new.disk result r is no_looks (λ worked. absurd worked) (moments x t holds meet regular));
    };
    no_channel = λ e. opened_so (λ x. LacksChannel x.config asked.channel) old.disk vault parts (λ x read. subst (λ (d : Configuration). LacksChannel d asked.channel) read.config lacks);
    no_incident = tt;
    whole = λ e. let none : ⊥ = cc in absurd none;
  }

  -- A visitor that ended it by itself shows so.
  pub own_shown : {R : Type 0} (asked : AskedPlay) (disk : Disk tells tells_images) (Has : List Record → Type 0) (Stops : List Record → R → Type 0) (status_of : R → Status) (line : List Record → Record → List ℕ)
      (last : List Record → List ℕ) (was next : OutputSeen) (status : Status) → IsOwnStatus status → StoppedItself asked disk Stops status_of line was next status
      → ShowsReading asked disk Has Stops status_of line last was next status
  own_shown asked disk Has Stops status_of line last was next Done own stopped = absurd own
  own_shown asked disk Has Stops status_of line last was next Words own stopped = absurd own
  own_shown asked disk Has Stops status_of line last was next (Config n) own stopped = inr stopped
  own_shown asked disk Has Stops status_of line last was next (Small small) own stopped = inr stopped
  own_shown asked disk Has Stops status_of line last was next Unformatted own stopped = absurd own
  own_shown asked disk Has Stops status_of line last was next Formatted own stopped = inr stopped
  own_shown asked disk Has Stops status_of line last was next (Damaged k at) own stopped = absurd own
  own_shown asked disk Has Stops status_of line last was next MediaFault own stopped = absurd own
  own_shown asked disk Has Stops status_of line last was next (PortFault group) own stopped = inr stopped
  own_shown asked disk Has Stops status_of line last was next (LinkFault link) own stopped = inr stopped
  own_shown asked disk Has Stops status_of line last was next InputFault own stopped = inr stopped
  own_shown asked disk Has Stops status_of line last was next OutputFault own stopped = absurd own
  own_shown asked disk Has Stops status_of line last was next NoMemory own stopped = inr stopped
  own_shown asked disk Has Stops status_of line last was next (Feed n at) own stopped = inr stopped
  own_shown asked disk Has Stops status_of line last was next NoChannel own stopped = absurd own
  own_shown asked disk Has Stops status_of line last was next (NoIncident id) own stopped = absurd own
  own_shown asked disk Has Stops status_of line last was next (SaveRefused cause) own stopped = inr stopped
  own_shown asked disk Has Stops status_of line last was next Place own stopped = inr stopped
  own_shown asked disk Has Stops status_of line last was next Tick own stopped = inr stopped
  own_shown asked disk Has Stops status_of line last was next ExportKind own stopped = inr stopped
  own_shown asked disk Has Stops status_of line last was next ExportNothing own stopped = inr stopped
  own_shown asked disk Has Stops status_of line last was next (ExportMixed place) own stopped = inr stopped
  own_shown asked disk Has Stops status_of line last was next ExportLong own stopped = inr stopped
  own_shown asked disk Has Stops status_of line last was next (ExportPart number) own stopped = inr stopped
  own_shown asked disk Has Stops status_of line last was next (Missing place) own stopped = inr stopped
  own_shown asked disk Has Stops status_of line last was next (Capture number offset) own stopped = inr stopped
  own_shown asked disk Has Stops status_of line last was next (NoEvidence named offset) own stopped = inr stopped

  -- Where opening is refused nothing is printed.
  opening_shown : {R : Type 0} (asked : AskedPlay) (disk : Disk tells tells_images) (Has : List Record → Type 0) (Stops : List Record → R → Type 0) (status_of : R → Status) (line : List Record → Record → List ℕ)
      (last : List Record → List ℕ) (was : OutputSeen) (refused : OpenRefused) → ShowsReading asked disk Has Stops status_of line last was was (status_of_opening refused)
  opening_shown asked disk Has Stops status_of line last was openings.NoMemory = inl (refl, refl)
  opening_shown asked disk Has Stops status_of line last was openings.NotFormatted = refl
  opening_shown asked disk Has Stops status_of line last was (openings.Damaged m offset) = ([], Appends-nil was.taken, λ x t holds can. (records_asked x asked, refl))
  opening_shown asked disk Has Stops status_of line last was openings.Fault = ([], Appends-nil was.taken, λ x t holds can. (records_asked x asked, refl))

  pub opening_reads : {R : Type 0} (asked : AskedPlay) (Has : List Record → Type 0) (Stops : List Record → R → Type 0) (status_of : R → Status) (line : List Record → Record → List ℕ) (last : List Record → List ℕ)
      (old new : Outside tells tells_images) (refused : OpenRefused) → new.output ≡ old.output
      → MediaEnds (λ x. CanPlay x asked.medium asked.channel) (MetUnreadable asked old.media.disk new.media.disk (λ x. CanPlay x asked.medium asked.channel)) AreLooks old.media new.media (status_of_opening refused)
      → AddsMissing old.media.disk new.media.disk → ReadsOut asked Has Stops status_of line last old new (status_of_opening refused)
  opening_reads asked Has Stops status_of line last old new refused same media missing = record {
    shown = subst (λ (o : OutputSeen). ShowsReading asked old.media.disk Has Stops status_of line last old.output o (status_of_opening refused)) (sym same)
        (opening_shown asked old.media.disk Has Stops status_of line last old.output refused);
    media = with_media asked old.media new.media refused media;
    missing = missing;
    bytes = λ worked. absurd (not_done refused worked);
  }

  pub channel_reads : {T R : Type 0} (asked : AskedPlay) (Has : List Record → Type 0) (Stops : List Record → R → Type 0) (status_of : R → Status) (line : List Record → Record → List ℕ) (last : List Record → List ℕ)
      (old new : Outside tells tells_images) (result : Result T OpenRefused) (r : T) → result ≡ Ok r
      → (vault : VaultState) → LacksChannel vault.config asked.channel → OpenedOn old.media.disk vault
      → (tells → SameBut 1 old.media.disk.reads new.media.disk.reads)
      → ((x : Contents) → tells → HoldsContents old.media.disk.reads x → EndsMeet (members_with x.further) (reading_of x) → WasRecorded x → OpensAtEachMoment old.media.disk new.media.disk result (ShowsHistory (opening_of x) []))
      → Writes (channel_line asked.channel) old.output new.output → AddsMissing old.media.disk new.media.disk → ReadsOut asked Has Stops status_of line last old new NoChannel
  channel_reads asked Has Stops status_of line last old new result r is vault lacks parts others moments wrote missing = record {
    shown = (wrote, lacks.0);
    media = channel_ends asked old.media new.media result r is vault lacks parts others moments;
    missing = missing;
    bytes = λ worked. absurd worked;
  }
