-- What code keeps of the frames that were heard so far.
use Rattle.std.specs.Prelude.{◌≡◌, ℕ, ◌^◌, min, List, [], length, slice_get, option_map, Option, Some, None}
use Rattle.vdr_terms.specs.Records.{Record}
use Rattle.vdr_export.specs.Numbers.{mixed_at}
use Rattle.vdr_export.specs.Sounds.{Heard, heard, heard_in, piece, rates_of, sound, track_of}
use Rattle.vdr_export.specs.Tails.{tail_of}
use Rattle.vdr_export.specs.Tracks.{Track}
use Rattle.vdr_export.specs.declared.refused.ExportRefused.{ExportRefused}
use Rattle.vdr_export.specs.declared.refused.ExportRefused.TheVariants.{Mixed}
use Rattle.vdr_export.specs.declared.sizing.Sizing.{Sizing}
use Rattle.vdr_export.specs.declared.timing.Timing.{Timing}
use Rattle.vdr_export.specs.declared.track.Track.{Track as Kept}
use Rattle.vdr_export.specs.declared.writing.Writing.{Writing}

-- Where the sound goes on, of which 2^56 samples stand for any more.
pub record IsTrack (of : Timing) (t : Track) (kept : Kept) : Type 0 where
  pub timing : kept.timing ≡ of
  pub last : kept.last ≡ option_map tail_of t.last
  pub first : kept.first ≡ t.first
  pub end : kept.end ≡ min t.end (2 ^ 56)

-- Their one rate, where the sound goes on, and how many bytes of it they come to, of which 2^32 stands for any more.
pub record IsSized (timing : Timing) (hs : List Heard) (s : Sizing) : Type 0 where
  pub uniform : mixed_at (rates_of hs) ≡ None
  pub rate : option_map (λ r. r.hertz) s.rate ≡ option_map (λ h. h.frame.rate) (slice_get hs 0)
  pub track : IsTrack timing (track_of timing hs) s.track
  pub bytes : s.bytes ≡ min (length (sound timing hs)) (2 ^ 32)

-- The last of them is the first whose rate is another.
abbrev pub IsMixed : List Heard → ExportRefused → Type 0
IsMixed hs stop = (place : ℕ) × (stop ≡ Mixed place) × (mixed_at (rates_of hs) ≡ Some place)

-- The microphone, and where the sound goes on behind those of its frames that were written.
pub record IsWritten (of : ℕ) (timing : Timing) (hs : List Heard) (w : Writing) : Type 0 where
  pub microphone : w.microphone ≡ of
  pub track : IsTrack timing (track_of timing hs) w.track

-- What a record adds to the sound of a microphone, behind the records before it.
abbrev pub added_by : Timing → (before : Track) → Option Heard → List ℕ
added_by timing before None = []
added_by timing before (Some h) = piece timing before h

abbrev pub added : (microphone : ℕ) → Timing → (seen : List Record) → Record → List ℕ
added microphone timing seen r = added_by timing (track_of timing (heard microphone seen)) (heard_in microphone r)
