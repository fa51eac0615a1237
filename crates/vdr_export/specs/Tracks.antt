-- Where a sound goes on behind frames: by their numbers, or by the stamps of their records (this project's profile).
use Rattle.std.specs.Prelude.{ℕ, ◌+◌, ◌-◌, ◌*◌, ◌/◌, nat_lt, if◌then◌else◌, Option, Some, None}
use Rattle.std.specs.Option.{option_or, unwrap_or}
use Rattle.vdr_pcm.specs.Frames.{Frame, sample_count}
use Rattle.vdr_export.specs.declared.timing.Timing.{Timing}
use Rattle.vdr_export.specs.declared.timing.Timing.TheVariants.{Numbered, Stamped}

-- Frames: the last of them, the stamp of the first, and how many samples they come to, with the silence between them.
pub record Track : Type 0 where
  pub last : Option Frame
  pub first : Option ℕ
  pub end : ℕ

abbrev pub no_track : Track
no_track = record { last = None; first = None; end = 0 }

-- How many samples are missing before a frame: as many for each frame that is missing as the frame before it has.
abbrev pub missing : (before : Option Frame) → Frame → ℕ
missing None f = 0
missing (Some e) f = (f.frame - (e.frame + 1)) * sample_count e.samples

-- How many whole samples a number of milliseconds has.
abbrev pub samples_in : (rate milliseconds : ℕ) → ℕ
samples_in rate milliseconds = milliseconds * rate / 1000

-- Stamps are whole milliseconds of the host that took the datagrams, and each of these is on its way a few milliseconds longer or shorter than the
-- one before it. So a frame that lies at most this many milliseconds behind the end of the sound follows right behind it: silence of a few samples
-- would click. Frames of speech last 20 ms by default (RFC 3551, 4.2), so that one that is missing is silent.
abbrev pub jitter : ℕ
jitter = 10

-- The silence before a frame that comes so late: none where it is no later than that.
abbrev pub pause : (slack late : ℕ) → ℕ
pause slack late = if nat_lt slack late then late else 0

-- The stamp of the first sample: FROM, or else that of the first frame.
abbrev pub start_of : (from first : Option ℕ) → (stamp : ℕ) → ℕ
start_of from first stamp = unwrap_or (option_or from first) stamp

-- The sample at which a frame lies by its stamp.
abbrev pub position : (start stamp : ℕ) → Frame → ℕ
position start stamp f = samples_in f.rate (stamp - start)

-- How many samples of silence stand before a frame. By its stamp it stands at its sample, or right behind the frame before it where that is later.
unfoldable pub gap : Timing → Track → (stamp : ℕ) → Frame → ℕ
gap Numbered t stamp f = missing t.last f
gap (Stamped from) t stamp f = pause (samples_in f.rate jitter) (position (start_of from t.first stamp) stamp f - t.end)

-- The frames with one more.
unfoldable pub next : Timing → Track → (stamp : ℕ) → Frame → Track
next timing t stamp f = record { last = Some f; first = Some (unwrap_or t.first stamp); end = t.end + (gap timing t stamp f + sample_count f.samples) }
