-- What a page says where its command ended with a status of its own kind.
use Rattle.std.proofs.Common.{◌≡◌, ◌∙◌, ◌⊎◌, ⊎_elim, inl, inr, ℕ, List, Option, None, Result, Ok, Err, sym, subst}
use Rattle.std.specs.Prelude.{◌≢◌, take}
use Rattle.vdr_feed.specs.Feed.{feed_header}
use Rattle.vdr_feed.specs.Reader.{IfKnown}
use Rattle.vdr_opening.specs.Media.{Contents, opening_of}
use Rattle.vdr_outside.specs.Disk.{content, Image}
use Rattle.vdr_recorder.specs.Refusals.{MayBegin}
use Rattle.vdr_replay.specs.Answers.{Decides, IfOpened, TellsHeader}
use Rattle.vdr_replay.specs.Feeding.{AreConfigured, ReadsFeed, RefusesNext}
use Rattle.vdr_replay.specs.declared.ended.FeedEnd.{FeedEnd}
use Rattle.vdr_replay.specs.declared.ended.Replayed.{Replayed}
use Rattle.vdr_replay.specs.declared.ended.ReplayRefused.{ReplayRefused}
use Rattle.vdr_replay.specs.declared.ended.ReplayRefused.TheVariants as stops
use Rattle.vdr_rescue.specs.Findings.{found_in}
use Rattle.vdr_rescue.specs.declared.found.Found.TheVariants as found
use Rattle.vdr_terms.specs.Records.{FeedItem, Record}
use Rattle.vdr_command.specs.Opened.{IfDamaged, IsOpenableWith, IsRefusedAt, MediaEnds}
use Rattle.vdr_command.specs.Outside.{OutputSeen, Outside}
use Rattle.vdr_command.specs.declared.status.Status.{Status}
use Rattle.vdr_command.specs.declared.status.Status.TheVariants.{Unformatted, Damaged, MediaFault, InputFault, NoMemory, Feed, NoChannel, NoIncident, Place, Tick, ExportKind, Missing}
use Rattle.vdr_readout.specs.Exports.{file_in}
use Rattle.vdr_readout.specs.Readings.{Reading, RescuesReading, asked_in}
use Rattle.vdr_readout.specs.Readings.Reading.{Play, Values, Track, Sources, Watch, Runs, Digest, Targets, Wav, TimedWav, Picture, Pictures}
use Rattle.vdr_readout.specs.Reads.{AskedPlay, LacksChannel, number_asked}
use Rattle.vdr_readout.specs.RescuedFiles.{RescuesFile, ShowsFile}
use Rattle.vdr_readout.specs.Rescues.{Rescues, ShowsRescue}
use Rattle.vdr_export.specs.declared.wish.Wish.{Wish}
use Rattle.vdr_tool.specs.Own.{IsDamagedAlone, LacksIncidentAlone, OfAlone}
use Rattle.vdr_tool.specs.Replays.{TellsRun}
use Rattle.vdr_tool.specs.Summaries.{summary_text}
use Rattle.vdr_tool.proofs.ReplayStatuses.{run_refused}
use Rattle.vdr_core.specs.Histories.{Event}

pub feed_refused : (left now : Option (List ℕ)) (image : Image) (tells : Type 0) (answer : Result Replayed ReplayRefused) (status : Status) (was next : OutputSeen) (number offset : ℕ)
    → TellsRun answer status was next → TellsHeader left now answer → (tells → IfOpened answer (IsOpenableWith image (λ x. Decides x left now answer))) → status ≡ Feed number offset
    → ((number ≡ 1) × (offset ≡ 0) × IfKnown left (λ bytes. take 8 bytes ≢ feed_header))
    ⊎ (tells → IsOpenableWith image (λ x. MayBegin (opening_of x) × IfKnown left (λ bytes. (feed : List FeedItem) × RefusesNext x.config.groups bytes number offset feed × AreConfigured x.config.groups feed)))
feed_refused left now image tells (Ok run) status was next number offset told header openable is = inr (λ t.
    subst (λ (e : FeedEnd). IsOpenableWith image (λ x. MayBegin (opening_of x) × IfKnown left (λ bytes. (feed : List FeedItem) × ReadsFeed x.config.groups bytes now e feed × AreConfigured x.config.groups feed)))
    (run_refused status was next number offset run.end (summary_text run.groups run.records) told is) (openable t))
feed_refused left now image tells (Err (stops.Refused k at)) status was next number offset told header openable is =
    let same : Feed k at ≡ Feed number offset = sym told.0 ∙ is in
    let n : k ≡ number = cc in
    let o : at ≡ offset = cc in
    inl (sym n ∙ header.0, sym o ∙ header.1, header.2)
feed_refused left now image tells (Err stops.NoMemory) status was next number offset told header openable is = let clash : Feed number offset ≡ NoMemory = sym is ∙ told.0 in let none : ⊥ = cc in absurd none
feed_refused left now image tells (Err stops.Input) status was next number offset told header openable is = let clash : Feed number offset ≡ InputFault = sym is ∙ told.0 in let none : ⊥ = cc in absurd none
feed_refused left now image tells (Err stops.NotFormatted) status was next number offset told header openable is = let clash : Feed number offset ≡ Unformatted = sym is ∙ told.0 in let none : ⊥ = cc in absurd none
feed_refused left now image tells (Err (stops.Damaged k at)) status was next number offset told header openable is = let clash : Feed number offset ≡ Damaged k at = sym is ∙ told.0 in let none : ⊥ = cc in absurd none
feed_refused left now image tells (Err stops.Place) status was next number offset told header openable is = let clash : Feed number offset ≡ Place = sym is ∙ told.0 in let none : ⊥ = cc in absurd none
feed_refused left now image tells (Err stops.Tick) status was next number offset told header openable is = let clash : Feed number offset ≡ Tick = sym is ∙ told.0 in let none : ⊥ = cc in absurd none
feed_refused left now image tells (Err stops.Media) status was next number offset told header openable is = let clash : Feed number offset ≡ MediaFault = sym is ∙ told.0 in let none : ⊥ = cc in absurd none

module _ {tells tells_images : Type 0} (old new : Outside tells tells_images) (status : Status) where
  -- What opening refused, or was met behind it.
  pub damaged_of : (Can : Contents → Type 0) (Met : (m offset : ℕ) → Type 0) (MayBe : List Event → Type 0) → MediaEnds Can Met MayBe old.media new.media status → (m offset : ℕ) → status ≡ Damaged m offset
      → IsRefusedAt old.media.disk new.media.disk m offset ⊎ Met m offset
  damaged_of Can Met MayBe h m offset is = subst (λ (s : Status). IfDamaged s (λ k at. IsRefusedAt old.media.disk new.media.disk k at ⊎ Met k at)) is h.damaged

  pub refused_of : (Can : Contents → Type 0) (MayBe : List Event → Type 0) → MediaEnds Can (λ m offset. ⊥) MayBe old.media new.media status → (m offset : ℕ) → status ≡ Damaged m offset
      → IsRefusedAt old.media.disk new.media.disk m offset
  refused_of Can MayBe h m offset is = ⊎_elim (λ r. r) (λ none. absurd none) (damaged_of Can (λ k at. ⊥) MayBe h m offset is)

  -- What a rescue found.
  pub rescue_damaged : (asked : AskedPlay) (line : List Record → Record → List ℕ) (last : List Record → List ℕ) → Rescues asked line last old new status → (m offset : ℕ) → status ≡ Damaged m offset → IsDamagedAlone old asked m offset
  rescue_damaged asked line last h m offset is =
      let shown = subst (λ (s : Status). ShowsRescue tells asked (content old.media.disk.reads (number_asked asked)) line last old.output new.output s) is h.shown in
      let either = shown.1 in (
        shown.0,
        elim either [
          | inl refused ↦ inl refused.1
          | inr shows ↦ inr (λ x told given. (shows x told given).1)
        ],
      )

  pub rescue_missing : (asked : AskedPlay) (line : List Record → Record → List ℕ) (last : List Record → List ℕ) → Rescues asked line last old new status → (place : ℕ) → status ≡ Missing place → OfAlone old asked (λ x. found_in x.findings ≡ found.Missing place)
  rescue_missing asked line last h place is =
      let shown = subst (λ (s : Status). ShowsRescue tells asked (content old.media.disk.reads (number_asked asked)) line last old.output new.output s) is h.shown in
      λ x told given. (shown x told given).1

  pub rescue_channel : (asked : AskedPlay) (line : List Record → Record → List ℕ) (last : List Record → List ℕ) → Rescues asked line last old new status → status ≡ NoChannel → OfAlone old asked (λ x. LacksChannel x.config asked.channel)
  rescue_channel asked line last h is = (subst (λ (s : Status). ShowsRescue tells asked (content old.media.disk.reads (number_asked asked)) line last old.output new.output s) is h.shown).1

  pub rescue_incident : (asked : AskedPlay) (line : List Record → Record → List ℕ) (last : List Record → List ℕ) → Rescues asked line last old new status → (id : ℕ) → status ≡ NoIncident id → LacksIncidentAlone old asked id
  rescue_incident asked line last h id is =
      let shown = subst (λ (s : Status). ShowsRescue tells asked (content old.media.disk.reads (number_asked asked)) line last old.output new.output s) is h.shown in
      (shown.1, shown.2)

  -- The same of a file.
  file_damaged : (wish : Wish) (asked : AskedPlay) → RescuesFile wish asked old new status → (m offset : ℕ) → status ≡ Damaged m offset → IsDamagedAlone old asked m offset
  file_damaged wish asked h m offset is =
      let shown = subst (λ (s : Status). ShowsFile tells wish asked (content old.media.disk.reads (number_asked asked)) old.output new.output s) is h.shown in
      let either = shown.1 in (
        shown.0,
        elim either [
          | inl refused ↦ inl refused.1
          | inr written ↦ inr (λ x told given. (written x told given).4)
        ],
      )

  file_missing : (wish : Wish) (asked : AskedPlay) → RescuesFile wish asked old new status → (place : ℕ) → status ≡ Missing place → OfAlone old asked (λ x. found_in x.findings ≡ found.Missing place)
  file_missing wish asked h place is =
      let shown = subst (λ (s : Status). ShowsFile tells wish asked (content old.media.disk.reads (number_asked asked)) old.output new.output s) is h.shown in
      λ x told given. (shown x told given).4

  file_channel : (wish : Wish) (asked : AskedPlay) → RescuesFile wish asked old new status → status ≡ NoChannel → OfAlone old asked (λ x. LacksChannel x.config asked.channel)
  file_channel wish asked h is = (subst (λ (s : Status). ShowsFile tells wish asked (content old.media.disk.reads (number_asked asked)) old.output new.output s) is h.shown).1

  file_incident : (wish : Wish) (asked : AskedPlay) → RescuesFile wish asked old new status → (id : ℕ) → status ≡ NoIncident id → LacksIncidentAlone old asked id
  file_incident wish asked h id is =
      let shown = subst (λ (s : Status). ShowsFile tells wish asked (content old.media.disk.reads (number_asked asked)) old.output new.output s) is h.shown in
      (shown.1, shown.2)

  pub no_kind : (wish : Wish) (asked : AskedPlay) → RescuesFile wish asked old new status → status ≡ ExportKind → OfAlone old asked (λ x. file_in wish x.config asked.channel ≡ None)
  no_kind wish asked h is = (subst (λ (s : Status). ShowsFile tells wish asked (content old.media.disk.reads (number_asked asked)) old.output new.output s) is h.shown).1

  pub reading_damaged : (reading : Reading) → RescuesReading reading old new status → (m offset : ℕ) → status ≡ Damaged m offset → IsDamagedAlone old (asked_in reading) m offset
  reading_damaged (Play asked) owed m offset is = rescue_damaged _ _ _ owed m offset is
  reading_damaged (Values asked) owed m offset is = rescue_damaged _ _ _ owed m offset is
  reading_damaged (Track asked source) owed m offset is = rescue_damaged _ _ _ owed m offset is
  reading_damaged (Sources medium) owed m offset is = rescue_damaged _ _ _ owed m offset is
  reading_damaged (Watch medium) owed m offset is = rescue_damaged _ _ _ owed m offset is
  reading_damaged (Runs medium) owed m offset is = rescue_damaged _ _ _ owed m offset is
  reading_damaged (Digest medium) owed m offset is = rescue_damaged _ _ _ owed m offset is
  reading_damaged (Targets medium at) owed m offset is = rescue_damaged _ _ _ owed m offset is
  reading_damaged (Wav asked) owed m offset is = file_damaged _ _ owed m offset is
  reading_damaged (TimedWav asked) owed m offset is = file_damaged _ _ owed m offset is
  reading_damaged (Picture asked block) owed m offset is = file_damaged _ _ owed m offset is
  reading_damaged (Pictures asked) owed m offset is = file_damaged _ _ owed m offset is

  pub reading_missing : (reading : Reading) → RescuesReading reading old new status → (place : ℕ) → status ≡ Missing place → OfAlone old (asked_in reading) (λ x. found_in x.findings ≡ found.Missing place)
  reading_missing (Play asked) owed place is = rescue_missing _ _ _ owed place is
  reading_missing (Values asked) owed place is = rescue_missing _ _ _ owed place is
  reading_missing (Track asked source) owed place is = rescue_missing _ _ _ owed place is
  reading_missing (Sources medium) owed place is = rescue_missing _ _ _ owed place is
  reading_missing (Watch medium) owed place is = rescue_missing _ _ _ owed place is
  reading_missing (Runs medium) owed place is = rescue_missing _ _ _ owed place is
  reading_missing (Digest medium) owed place is = rescue_missing _ _ _ owed place is
  reading_missing (Targets medium at) owed place is = rescue_missing _ _ _ owed place is
  reading_missing (Wav asked) owed place is = file_missing _ _ owed place is
  reading_missing (TimedWav asked) owed place is = file_missing _ _ owed place is
  reading_missing (Picture asked block) owed place is = file_missing _ _ owed place is
  reading_missing (Pictures asked) owed place is = file_missing _ _ owed place is

  pub reading_channel : (reading : Reading) → RescuesReading reading old new status → status ≡ NoChannel → OfAlone old (asked_in reading) (λ x. LacksChannel x.config (asked_in reading).channel)
  reading_channel (Play asked) owed is = rescue_channel _ _ _ owed is
  reading_channel (Values asked) owed is = rescue_channel _ _ _ owed is
  reading_channel (Track asked source) owed is = rescue_channel _ _ _ owed is
  reading_channel (Sources medium) owed is = rescue_channel _ _ _ owed is
  reading_channel (Watch medium) owed is = rescue_channel _ _ _ owed is
  reading_channel (Runs medium) owed is = rescue_channel _ _ _ owed is
  reading_channel (Digest medium) owed is = rescue_channel _ _ _ owed is
  reading_channel (Targets medium at) owed is = rescue_channel _ _ _ owed is
  reading_channel (Wav asked) owed is = file_channel _ _ owed is
  reading_channel (TimedWav asked) owed is = file_channel _ _ owed is
  reading_channel (Picture asked block) owed is = file_channel _ _ owed is
  reading_channel (Pictures asked) owed is = file_channel _ _ owed is

  pub reading_incident : (reading : Reading) → RescuesReading reading old new status → (id : ℕ) → status ≡ NoIncident id → LacksIncidentAlone old (asked_in reading) id
  reading_incident (Play asked) owed id is = rescue_incident _ _ _ owed id is
  reading_incident (Values asked) owed id is = rescue_incident _ _ _ owed id is
  reading_incident (Track asked source) owed id is = rescue_incident _ _ _ owed id is
  reading_incident (Sources medium) owed id is = rescue_incident _ _ _ owed id is
  reading_incident (Watch medium) owed id is = rescue_incident _ _ _ owed id is
  reading_incident (Runs medium) owed id is = rescue_incident _ _ _ owed id is
  reading_incident (Digest medium) owed id is = rescue_incident _ _ _ owed id is
  reading_incident (Targets medium at) owed id is = rescue_incident _ _ _ owed id is
  reading_incident (Wav asked) owed id is = file_incident _ _ owed id is
  reading_incident (TimedWav asked) owed id is = file_incident _ _ owed id is
  reading_incident (Picture asked block) owed id is = file_incident _ _ owed id is
  reading_incident (Pictures asked) owed id is = file_incident _ _ owed id is
