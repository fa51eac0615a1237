-- What may be asked of recorded media, and of one medium alone (this project's profile).
use Rattle.std.specs.Prelude.{◌≡◌, ◌∷◌, ℕ, ℤ, List, [], codes, ⊤}
use Rattle.vdr_durability.specs.Playback.{medium_of}
use Rattle.vdr_entry.specs.Queries.{asked_medium}
use Rattle.vdr_entry.specs.declared.query.Medium.{Medium}
use Rattle.vdr_play.specs.Streams.{nothing_seen}
use Rattle.vdr_play.specs.Texts.{record_text, seen_by}
use Rattle.vdr_sources.specs.Tables.{sources_of, sources_text}
use Rattle.vdr_watch.specs.Supervision.{met_in}
use Rattle.vdr_watch.specs.Texts.{closing_text, record_text as shown_text}
use Rattle.vdr_ais.specs.Targets.{targets_of, targets_text}
use Rattle.vdr_export.specs.declared.block.Block.{Block}
use Rattle.vdr_export.specs.declared.timing.Timing.TheVariants.{Numbered}
use Rattle.vdr_digest.specs.Digests.{last_lines as digest_last, line_at as digest_line}
use Rattle.vdr_rows.specs.Tables.{last_lines as table_last, line_at as table_line}
use Rattle.vdr_track.specs.Texts.{last_lines as track_last, line_at as track_line}
use Rattle.vdr_runs.specs.Runs.{last_lines as runs_last, line_at as runs_line}
use Rattle.vdr_command.specs.Outside.{Outside}
use Rattle.vdr_command.specs.Promises.{Promise}
use Rattle.vdr_command.specs.declared.status.Status.{Status}
use Rattle.vdr_export.specs.Wishes.{timed_from}
use Rattle.vdr_readout.specs.Exports.{Exports, listing, picturing, sounding, sounding_in_time}
use Rattle.vdr_readout.specs.Lines.{TellsLines, telling}
use Rattle.vdr_readout.specs.Plays.{Plays, playing}
use Rattle.vdr_readout.specs.Reads.{AskedPlay, plain_play}
use Rattle.vdr_readout.specs.Rescues.{Rescues}
use Rattle.vdr_readout.specs.RescuedFiles.{RescuesFile}
use Rattle.vdr_readout.specs.Selections.{TellsTrack, TellsValues, tabling, tracking}
use Rattle.vdr_readout.specs.Sources.{TellsSources, sourcing, whole_of}
use Rattle.vdr_readout.specs.Targets.{TellsTargets, targeting, up_to}
use Rattle.vdr_readout.specs.Watches.{TellsWatch, watching}
use Rattle.vdr_readout.specs.declared.answering.Reading.{Reading as Told}
use Rattle.vdr_readout.specs.declared.answering.Reading.TheVariants as told
use Rattle.vdr_export.specs.declared.wish.Wish.TheVariants as wishes

pub data Reading : Type 0 where
  Play : (asked : AskedPlay) → Reading
  Values : (asked : AskedPlay) → Reading
  Track : (asked : AskedPlay) (source : List ℕ) → Reading
  Sources : (medium : Medium) → Reading
  Watch : (medium : Medium) → Reading
  Runs : (medium : Medium) → Reading
  Digest : (medium : Medium) → Reading
  Targets : (medium : Medium) (at : ℤ) → Reading
  Wav : (asked : AskedPlay) → Reading
  TimedWav : (asked : AskedPlay) → Reading
  Picture : (asked : AskedPlay) (block : Block) → Reading
  Pictures : (asked : AskedPlay) → Reading

-- It as contracts see it: with the bytes that it borrows.
abbrev pub plain_reading : Told → Reading
plain_reading (told.Play wanted) = Play (plain_play wanted)
plain_reading (told.Values wanted) = Values (plain_play wanted)
plain_reading (told.Track wanted source) = Track (plain_play wanted) source.now
plain_reading (told.Sources medium) = Sources medium
plain_reading (told.Watch medium) = Watch medium
plain_reading (told.Runs medium) = Runs medium
plain_reading (told.Digest medium) = Digest medium
plain_reading (told.Targets medium at) = Targets medium at
plain_reading (told.Wav wanted) = Wav (plain_play wanted)
plain_reading (told.TimedWav wanted) = TimedWav (plain_play wanted)
plain_reading (told.Picture wanted block) = Picture (plain_play wanted) block
plain_reading (told.Pictures wanted) = Pictures (plain_play wanted)

-- The records of which it is.
abbrev pub asked_in : Reading → AskedPlay
asked_in (Play asked) = asked
asked_in (Values asked) = asked
asked_in (Track asked source) = asked
asked_in (Sources medium) = whole_of medium
asked_in (Watch medium) = whole_of medium
asked_in (Runs medium) = whole_of medium
asked_in (Digest medium) = whole_of medium
asked_in (Targets medium at) = up_to medium at
asked_in (Wav asked) = asked
asked_in (TimedWav asked) = asked
asked_in (Picture asked block) = asked
asked_in (Pictures asked) = asked

-- The number of the medium on which they stand.
abbrev pub number_read : Reading → ℕ
number_read reading = medium_of (asked_medium (asked_in reading).medium)

-- The page of the same on both media.
abbrev pub reads : Reading → Promise
reads (Play asked) = playing asked
reads (Values asked) = tabling asked
reads (Track asked source) = tracking asked source
reads (Sources medium) = sourcing medium
reads (Watch medium) = watching medium
reads (Runs medium) = telling (codes "runs") runs_line runs_last medium
reads (Digest medium) = telling (codes "digest") digest_line digest_last medium
reads (Targets medium at) = targeting medium at
reads (Wav asked) = sounding asked
reads (TimedWav asked) = sounding_in_time asked
reads (Picture asked block) = picturing asked block
reads (Pictures asked) = listing asked

-- What it owes of both media.
abbrev pub OwesReading : {tells tells_images : Type 0} → Reading → (old new : Outside tells tells_images) → Status → Type 0
OwesReading (Play asked) old new status = Plays asked old new status
OwesReading (Values asked) old new status = TellsValues asked old new status
OwesReading (Track asked source) old new status = TellsTrack asked source old new status
OwesReading (Sources medium) old new status = TellsSources medium old new status
OwesReading (Watch medium) old new status = TellsWatch medium old new status
OwesReading (Runs medium) old new status = TellsLines runs_line runs_last medium old new status
OwesReading (Digest medium) old new status = TellsLines digest_line digest_last medium old new status
OwesReading (Targets medium at) old new status = TellsTargets medium at old new status
OwesReading (Wav asked) old new status = Exports (wishes.Sound Numbered) asked old new status
OwesReading (TimedWav asked) old new status = Exports (wishes.Sound (timed_from asked.from)) asked old new status
OwesReading (Picture asked block) old new status = Exports (wishes.Picture block) asked old new status
OwesReading (Pictures asked) old new status = Exports wishes.Listing asked old new status

-- What it owes of one medium alone: its text of the records that the medium gives, and what was found.
abbrev pub RescuesReading : {tells tells_images : Type 0} → Reading → (old new : Outside tells tells_images) → Status → Type 0
RescuesReading (Play asked) old new status = Rescues asked (λ seen r. record_text (seen_by nothing_seen seen) r) (λ seen. []) old new status
RescuesReading (Values asked) old new status = Rescues asked table_line table_last old new status
RescuesReading (Track asked source) old new status = Rescues asked (track_line source) (track_last source) old new status
RescuesReading (Sources medium) old new status = Rescues (whole_of medium) (λ seen r. []) (λ seen. sources_text (sources_of seen)) old new status
RescuesReading (Watch medium) old new status = Rescues (whole_of medium) (λ seen r. shown_text (met_in seen) r) (λ seen. closing_text seen) old new status
RescuesReading (Runs medium) old new status = Rescues (whole_of medium) runs_line runs_last old new status
RescuesReading (Digest medium) old new status = Rescues (whole_of medium) digest_line digest_last old new status
RescuesReading (Targets medium at) old new status = Rescues (up_to medium at) (λ seen r. []) (λ seen. targets_text (targets_of seen)) old new status
RescuesReading (Wav asked) old new status = RescuesFile (wishes.Sound Numbered) asked old new status
RescuesReading (TimedWav asked) old new status = RescuesFile (wishes.Sound (timed_from asked.from)) asked old new status
RescuesReading (Picture asked block) old new status = RescuesFile (wishes.Picture block) asked old new status
RescuesReading (Pictures asked) old new status = RescuesFile wishes.Listing asked old new status

-- The texts are those of a reading.
pub record SpellsReading (texts : List (List ℕ)) (reading : Reading) : Type 0 where
  pub words : (reads reading).words texts
  pub legal : (reads reading).legal

-- The page of a command that reads out both media.
abbrev pub reading_out : Reading → Promise
reading_out reading = record {
  words = (reads reading).words;
  legal = (reads reading).legal;
  reads_input = ⊥;
  uses_media = ⊤;
  owes = λ old new hears w status. OwesReading reading old new status;
}

-- `rescue` before the words of a reading.
pub record AreRescueWords (texts : List (List ℕ)) (reading : Reading) : Type 0 where
  pub rest : List (List ℕ)
  pub words : texts ≡ codes "rescue" ∷ rest
  pub spelled : (reads reading).words rest

abbrev pub rescuing : Reading → Promise
rescuing reading = record {
  words = λ texts. AreRescueWords texts reading;
  legal = (reads reading).legal;
  reads_input = ⊥;
  uses_media = ⊤;
  owes = λ old new hears w status. RescuesReading reading old new status;
}
