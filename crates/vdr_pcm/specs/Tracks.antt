-- How a PCM frame follows the one last seen (this project's profile).
use Rattle.std.specs.Prelude.{ℕ, ◌+◌, ◌-◌, ◌==◌, nat_lt, Option, Some, None, if◌then◌else◌}
use Rattle.vdr_pcm.specs.Frames.{Frame}
use Rattle.vdr_pcm.specs.declared.frame_number.FrameNumber.{FrameNumber}
use Rattle.vdr_pcm.specs.declared.step.PcmStep.{PcmStep}
use Rattle.vdr_pcm.specs.declared.step.PcmStep.TheVariants.{First, Missing, Back}

abbrev pub number_of : Frame → FrameNumber
number_of f = record { microphone = f.microphone; frame = f.frame }

-- The step between the numbers of two frames of one microphone: between n and n + m + 1, m frames are missing. Behind the greatest number
-- none follows.
abbrev pub after : (last now : ℕ) → PcmStep
after last now = if nat_lt last now then Missing (now - (last + 1)) else Back

-- The step from the frame last seen, None where none was, to this one.
abbrev pub pcm_step : (last : Option FrameNumber) → (now : FrameNumber) → PcmStep
pcm_step None now = First
pcm_step (Some last) now = if last.microphone == now.microphone then after last.frame now.frame else First
