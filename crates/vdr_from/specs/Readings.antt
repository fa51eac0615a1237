-- What `from` owes for each reading, and for its words (this project's profile).
use Rattle.std.specs.Prelude.{◌≡◌, ◌≤◌, ℕ, List, [], Option, String, map, string_bytes}
use Rattle.std.specs.declared.alloc.Global.{Global}
use Rattle.vdr_play.specs.Streams.{nothing_seen}
use Rattle.vdr_play.specs.Texts.{record_text, seen_by}
use Rattle.vdr_sources.specs.Tables.{sources_of, sources_text}
use Rattle.vdr_watch.specs.Supervision.{met_in}
use Rattle.vdr_watch.specs.Texts.{closing_text, record_text as shown_text}
use Rattle.vdr_ais.specs.Targets.{targets_of, targets_text}
use Rattle.vdr_digest.specs.Digests.{last_lines as digest_last, line_at as digest_line}
use Rattle.vdr_export.specs.declared.timing.Timing.TheVariants.{Numbered}
use Rattle.vdr_rows.specs.Tables.{last_lines as table_last, line_at as table_line}
use Rattle.vdr_track.specs.Texts.{last_lines as track_last, line_at as track_line}
use Rattle.vdr_runs.specs.Runs.{last_lines as runs_last, line_at as runs_line}
use Rattle.vdr_command.specs.Endings.{WritesLine}
use Rattle.vdr_command.specs.Outside.{OutputSeen}
use Rattle.vdr_command.specs.declared.status.Status.{Status}
use Rattle.vdr_command.specs.declared.status.Status.TheVariants.{Words}
use Rattle.vdr_export.specs.Wishes.{timed_from}
use Rattle.vdr_readout.specs.Readings.{Reading}
use Rattle.vdr_readout.specs.Readings.Reading.{Play, Values, Track, Sources, Watch, Runs, Digest, Targets, Wav, TimedWav, Picture, Pictures}
use Rattle.vdr_readout.specs.Sources.{whole_of}
use Rattle.vdr_readout.specs.Targets.{up_to}
use Rattle.vdr_export.specs.declared.wish.Wish.TheVariants as wishes
use Rattle.vdr_from.specs.Tellings.{TellsHeld}
use Rattle.vdr_from.specs.Words.{SpellsFrom}
use Rattle.vdr_from.specs.Writings.{WritesHeld}

-- What each prints of the file's records is what it prints of those of media.
abbrev pub OwesFrom : Reading → (whole : Option (List ℕ)) → (was next : OutputSeen) → Status → Type 0
OwesFrom (Play asked) whole was next status = TellsHeld whole asked (λ seen r. record_text (seen_by nothing_seen seen) r) (λ seen. []) was next status
OwesFrom (Values asked) whole was next status = TellsHeld whole asked table_line table_last was next status
OwesFrom (Track asked source) whole was next status = TellsHeld whole asked (track_line source) (track_last source) was next status
OwesFrom (Sources medium) whole was next status = TellsHeld whole (whole_of medium) (λ seen r. []) (λ seen. sources_text (sources_of seen)) was next status
OwesFrom (Watch medium) whole was next status = TellsHeld whole (whole_of medium) (λ seen r. shown_text (met_in seen) r) (λ seen. closing_text seen) was next status
OwesFrom (Runs medium) whole was next status = TellsHeld whole (whole_of medium) runs_line runs_last was next status
OwesFrom (Digest medium) whole was next status = TellsHeld whole (whole_of medium) digest_line digest_last was next status
OwesFrom (Targets medium at) whole was next status = TellsHeld whole (up_to medium at) (λ seen r. []) (λ seen. targets_text (targets_of seen)) was next status
OwesFrom (Wav asked) whole was next status = WritesHeld whole (wishes.Sound Numbered) asked was next status
OwesFrom (TimedWav asked) whole was next status = WritesHeld whole (wishes.Sound (timed_from asked.from)) asked was next status
OwesFrom (Picture asked block) whole was next status = WritesHeld whole (wishes.Picture block) asked was next status
OwesFrom (Pictures asked) whole was next status = WritesHeld whole wishes.Listing asked was next status

-- What is read out did what it owes, and then the line of its status was written.
pub record EndsFrom (reading : Reading) (whole : Option (List ℕ)) (was next : OutputSeen) (status : Status) : Type 0 where
  pub between : OutputSeen
  pub owed : OwesFrom reading whole was between status
  pub line : WritesLine status between next
  pub later : (was.faults ≤ between.faults) × (between.faults ≤ next.faults)

-- What is owed for the words.
pub record RunsFrom (words : List (String Global)) (whole : Option (List ℕ)) (was next : OutputSeen) (status : Status) : Type 0 where
  -- what they ask for is done; where they ask for nothing, that is told, and the line stands alone
  pub done : (reading : Reading) → SpellsFrom (map string_bytes words) reading → EndsFrom reading whole was next status
  pub refused : ((reading : Reading) → SpellsFrom (map string_bytes words) reading → ⊥) → (status ≡ Words) × WritesLine Words was next
  pub words_only : status ≡ Words → (reading : Reading) → SpellsFrom (map string_bytes words) reading → ⊥
