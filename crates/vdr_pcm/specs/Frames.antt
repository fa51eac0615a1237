-- PCM frames (this project's profile).
use Rattle.std.specs.Prelude.{◌≡◌, ◌<◌, ◌≤◌, ◌*◌, ◌/◌, ◌^◌, ℕ, List, length}

-- The samples of a microphone, in the order of time, under the number of the frame.
pub record Frame : Type 0 where
  pub microphone : ℕ
  pub frame : ℕ  -- its number
  pub rate : ℕ  -- samples a second
  pub samples : List ℕ  -- two bytes each

abbrev pub sample_count : List ℕ → ℕ
sample_count samples = length samples / 2

-- A frame of the profile.
pub record IsFrame (f : Frame) : Type 0 where
  pub microphone : f.microphone < 2 ^ 8
  pub frame : f.frame < 2 ^ 32
  pub least : 1 ≤ f.rate
  pub greatest : f.rate ≤ 192_000
  pub whole : length f.samples ≡ 2 * sample_count f.samples
  pub counted : sample_count f.samples < 2 ^ 16
