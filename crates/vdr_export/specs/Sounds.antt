-- The sound of a microphone out of recorded frames of PCM samples (IEC 61996-1 and IMO MSC.333(90) ask that bridge audio be recorded; the
-- frames are this project's profile).
use Rattle.std.specs.Prelude.{ℕ, ◌*◌, ◌==◌, if◌then◌else◌, List, [], ◌∷◌, ◌++◌, fold, map, replicate, unsigned_abs, Option, Some, None}
use Rattle.std.specs.List.{filter_map}
use Rattle.std.specs.Option.{option_and_then}
use Rattle.vdr_terms.specs.Records.{Content, Record}
use Rattle.vdr_terms.specs.Records.Content.{Start, Datagram, Gap, Stop}
use Rattle.vdr_pcm.specs.Datagrams.{pcm_in}
use Rattle.vdr_pcm.specs.Frames.{Frame}
use Rattle.vdr_export.specs.Numbers.{Numbered}
use Rattle.vdr_export.specs.Tracks.{Track, gap, next, no_track}
use Rattle.vdr_export.specs.declared.timing.Timing.{Timing}

-- A frame, and the place and the stamp of its record.
pub record Heard : Type 0 where
  pub place : ℕ
  pub stamp : ℕ  -- milliseconds since 1970
  pub frame : Frame

-- The frame of a record, if it has one.
abbrev pub frame_in : Content → Option Frame
frame_in (Datagram payload) = pcm_in payload
frame_in Start = None
frame_in (Gap missed) = None
frame_in Stop = None

-- The frame, if it is of this microphone.
abbrev pub of_microphone : (microphone place stamp : ℕ) → Frame → Option Heard
of_microphone microphone place stamp f = if f.microphone == microphone then Some (record { place = place; stamp = stamp; frame = f }) else None

abbrev pub heard_in : ℕ → Record → Option Heard
heard_in microphone r = option_and_then (of_microphone microphone r.place (unsigned_abs r.utc)) (frame_in r.content)

-- The frames of a microphone that the records have, in order.
abbrev pub heard : ℕ → List Record → List Heard
heard microphone records = filter_map (heard_in microphone) records

abbrev pub rates_of : List Heard → List Numbered
rates_of hs = map (λ h. record { place = h.place; number = h.frame.rate }) hs

-- Samples of two bytes, all zero.
abbrev pub silence : ℕ → List ℕ
silence n = replicate (2 * n) 0

-- What a frame adds behind the frames before it: silence, and its own samples.
abbrev pub piece : Timing → (before : Track) → Heard → List ℕ
piece timing before h = silence (gap timing before h.stamp h.frame) ++ h.frame.samples

-- The frames with one more.
abbrev pub with_heard : Timing → Track → Heard → Track
with_heard timing before h = next timing before h.stamp h.frame

-- The samples of frames, each behind those before it.
unfoldable pub sound_after : Timing → (before : Track) → List Heard → List ℕ
sound_after timing before [] = []
sound_after timing before (h ∷ hs) = piece timing before h ++ sound_after timing (with_heard timing before h) hs

abbrev pub sound : Timing → List Heard → List ℕ
sound timing hs = sound_after timing no_track hs

-- Where it goes on behind them.
abbrev pub track_of : Timing → List Heard → Track
track_of timing hs = fold (with_heard timing) no_track hs
