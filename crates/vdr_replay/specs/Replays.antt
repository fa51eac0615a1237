-- What `replay` ensures of the media, of the input and of its answer.
use Rattle.std.specs.Prelude.{◌≡◌, ◌≤◌, ℕ, List, sum, Some, Result, Err, IfOk, IsErrOf}
use Rattle.std.specs.Io.KnownBytes.{IsAtEnd}
use Rattle.vdr_durability.specs.Readings.{EndsMeet}
use Rattle.vdr_outside.specs.Causes.{Rose}
use Rattle.vdr_outside.specs.Disk.{SameBut}
use Rattle.vdr_outside.specs.declared.media.Media.{Ghosts as MediaTells}
use Rattle.vdr_outside.specs.declared.source.Source.{Ghosts as SourceTells}
use Rattle.vdr_media.specs.Formatted.{IsFormatted, IsUnformatted}
use Rattle.vdr_opening.specs.Media.{members_with, Contents, HoldsContents, reading_of}
use Rattle.vdr_opening.specs.Refusals.{IsRefused}
use Rattle.vdr_vault.specs.Calls.{SameElsewhere}
use Rattle.vdr_vault.specs.Openings.{LeavesAll, WritesMissing}
use Rattle.vdr_vault.specs.Regularity.{AreSound}
use Rattle.vdr_recorder.specs.Watched.{Watched}
use Rattle.vdr_replay.specs.Answers.{Answers, Decides, EndsAtHeader, HasReplayCause, IfOpened, IsOpenable, RefusesMedia, RefusesRun, TellsHeader}
use Rattle.vdr_replay.specs.Headline.{LeavesHistory}
use Rattle.vdr_replay.specs.declared.ended.FeedEnd.TheVariants.{Whole, Input as InputEnds}
use Rattle.vdr_replay.specs.declared.ended.Replayed.{Replayed}
use Rattle.vdr_replay.specs.declared.ended.ReplayRefused.{ReplayRefused}
use Rattle.vdr_replay.specs.declared.ended.ReplayRefused.TheVariants.{Damaged, Input, NotFormatted}

-- The media were `old` and the input `before` at entry, and they are `new` and `after` at the return. `w`: what an object outside was told, where
-- it `hears`.
pub record ReplaysFeed {M I : Type 0} (media : MediaTells M) (source : SourceTells I) (old new : M) (before after : I)
    (hears : Type 0) (w : Watched) (result : Result Replayed ReplayRefused) : Type 0 where
  -- What is recorded, and what a stop leaves.

  -- of a feed that is known, one history of it, whole and at every moment
  pub replayed : (x : Contents) (bytes : List ℕ) → media.tells → HoldsContents (media.disk old).reads x → AreSound x → source.left before ≡ Some bytes
      → Answers x bytes (source.left after) (Rose (sum (media.faults old)) (sum (media.faults new))) (media.disk old) (media.disk new) hears w result
  -- of any feed, one history of some feed
  pub left : (x : Contents) → media.tells → HoldsContents (media.disk old).reads x → EndsMeet (members_with x.further) (reading_of x) → AreSound x
      → LeavesHistory x (Rose (sum (media.faults old)) (sum (media.faults new))) (media.disk old) (media.disk new) hears w
  -- of media that are not formatted, what it might have left before
  pub blank : media.tells → IsUnformatted (media.disk old).reads → LeavesAll (media.disk old) (media.disk new)
  -- What each answer says of the feed and of the media at entry.

  -- a header is refused, or can't be read, exactly where it is none, or the source fails in it
  pub header : TellsHeader (source.left before) (source.left after) result
  -- where the media were opened, what was read of them decides whether the run begins and how its feed ends
  pub openable : media.tells → IfOpened result (IsOpenable (media.disk old).reads (λ x. Decides x (source.left before) (source.left after) result))
  -- media are refused as not formatted only where they are
  pub unformatted : result ≡ Err NotFormatted → media.tells → IsUnformatted (media.disk old).reads
  -- and as damaged only at their first part that is not legal
  pub damaged : (m offset : ℕ) → result ≡ Err (Damaged m offset) → media.tells → IsFormatted (media.disk old).reads × IsRefused (media.disk old).reads m offset
  -- What each refusal leaves of the media.

  -- where it ends at the header, they are not touched
  pub unopened : EndsAtHeader result → new ≡ old
  -- where they are refused, nothing is written
  pub untouched : RefusesMedia result → LeavesAll (media.disk old) (media.disk new) × (media.tells → (media.disk new).reads ≡ (media.disk old).reads)
  -- where the run is, at most the batch that the long-term medium lacks, and nothing where both end with the last one
  pub missing : RefusesRun result → (x : Contents) → media.tells → HoldsContents (media.disk old).reads x → WritesMissing x (media.disk old) (media.disk new)
  -- and no other medium in any case
  pub beside : RefusesRun result → media.tells → SameBut 1 (media.disk old).reads (media.disk new).reads
  -- How far the input was read, and when it failed.

  -- a whole feed ends with the input
  pub whole : IfOk result (λ r. r.end ≡ Whole → IsAtEnd (source.left after))
  -- a run ends at a fault of the input only where the count of its faults rose
  pub input_ends : IfOk result (λ r. r.end ≡ InputEnds → Rose (source.faults before) (source.faults after))
  -- and so does the call without a run
  pub input_failed : IsErrOf result Input → Rose (source.faults before) (source.faults after)
  -- this count does not fall
  pub later : source.faults before ≤ source.faults after
  -- What the call keeps of the media, whatever it answers.

  -- media but the capsule and the long-term one read as before
  pub others : media.tells → SameElsewhere (members_with 0) (media.disk old).reads (media.disk new).reads
  -- no medium changes its size
  pub sizes : (media.disk new).sizes ≡ (media.disk old).sizes
  -- no count of faults falls, and a fault of the media has its cause
  pub cause : HasReplayCause (media.faults old) (media.faults new) result
