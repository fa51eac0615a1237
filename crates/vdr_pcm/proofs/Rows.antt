-- Worked examples, computed.
use Rattle.std.proofs.Common.{◌≡◌, refl, ℕ, List, [], ◌∷◌, ◌++◌, Some, None}
use Rattle.std.specs.Prelude.{codes}
use Rattle.vdr_bytes.specs.Numbers.{le_u16, le_u32, u16_at, u32_at}
use Rattle.vdr_pcm.specs.Frames.{Frame}
use Rattle.vdr_pcm.specs.Datagrams.{frame_at, pcm_bytes, pcm_in}
use Rattle.vdr_pcm.specs.Tracks.{number_of, pcm_step}
use Rattle.vdr_pcm.specs.declared.step.PcmStep.TheVariants.{First, Missing, Back}

-- The samples 1 and 2 of microphone 1, at 8,000 a second.
abbrev numbered : (number : ℕ) → Frame
numbered number = record { microphone = 1; frame = number; rate = 8000; samples = 1 ∷ 0 ∷ 2 ∷ 0 ∷ [] }

-- The datagram of frame 4.
abbrev datagram : List ℕ
datagram = codes "PcmFr" ++ 0 ∷ 1 ∷ 4 ∷ 0 ∷ 0 ∷ 0 ∷ 0x40 ∷ 0x1f ∷ 0 ∷ 0 ∷ 2 ∷ 0 ∷ 1 ∷ 0 ∷ 2 ∷ 0 ∷ []

frame_spelled : pcm_bytes (numbered 4) ≡ datagram
unfolding pcm_bytes le_u16 le_u32
frame_spelled = refl

frame_read : pcm_in datagram ≡ Some (numbered 4)
unfolding pcm_in frame_at u16_at u32_at
frame_read = refl

-- One byte more than the count says.
odd_refused : pcm_in (datagram ++ 3 ∷ []) ≡ None
unfolding pcm_in frame_at u16_at u32_at
odd_refused = refl

-- Frames 0, 1, 4 and 2.

first_step : pcm_step None (number_of (numbered 0)) ≡ First
first_step = refl

none_missing : pcm_step (Some (number_of (numbered 0))) (number_of (numbered 1)) ≡ Missing 0
none_missing = refl

two_missing : pcm_step (Some (number_of (numbered 1))) (number_of (numbered 4)) ≡ Missing 2
two_missing = refl

step_back : pcm_step (Some (number_of (numbered 4))) (number_of (numbered 2)) ≡ Back
step_back = refl
