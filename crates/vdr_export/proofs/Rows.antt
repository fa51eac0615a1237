-- Worked examples: theorems by computation.
use Rattle.std.proofs.Common.{◌≡◌, ◌++◌, ℕ, List, [], ◌∷◌, Some, None, Ok, Err, refl}
use Rattle.vdr_pcm.specs.Frames.{Frame}
use Rattle.vdr_export.specs.Answers.{joined, size_of}
use Rattle.vdr_export.specs.Sounds.{Heard, silence, sound}
use Rattle.vdr_export.specs.declared.refused.ExportRefused.TheVariants.{Mixed, Nothing, Part}
use Rattle.vdr_export.specs.declared.timing.Timing.TheVariants.{Numbered, Stamped}

-- Frames 0 and 2 of two samples each: frame 1 is silent.
first : Frame
first = record { microphone = 1; frame = 0; rate = 8_000; samples = 1 ∷ 0 ∷ 2 ∷ 0 ∷ [] }

third : Frame
third = record { microphone = 1; frame = 2; rate = 8_000; samples = 3 ∷ 0 ∷ 4 ∷ 0 ∷ [] }

other_rate : Frame
other_rate = record { microphone = 1; frame = 3; rate = 16_000; samples = [] }

-- Of records with these stamps.
of : (place stamp : ℕ) → Frame → Heard
of place stamp f = record { place = place; stamp = stamp; frame = f }

two_frames : sound Numbered (of 1 0 first ∷ of 2 1000 third ∷ []) ≡ 1 ∷ 0 ∷ 2 ∷ 0 ∷ 0 ∷ 0 ∷ 0 ∷ 0 ∷ 3 ∷ 0 ∷ 4 ∷ 0 ∷ []
unfolding first third of Rattle.vdr_export.specs.Sounds.sound_after Rattle.vdr_export.specs.Tracks.gap Rattle.vdr_export.specs.Tracks.next
two_frames = refl

back_again : sound Numbered (of 1 0 third ∷ of 2 1000 first ∷ []) ≡ 3 ∷ 0 ∷ 4 ∷ 0 ∷ 1 ∷ 0 ∷ 2 ∷ 0 ∷ []
unfolding first third of Rattle.vdr_export.specs.Sounds.sound_after Rattle.vdr_export.specs.Tracks.gap Rattle.vdr_export.specs.Tracks.next
back_again = refl

its_size : size_of Numbered (of 1 0 first ∷ of 2 1000 third ∷ []) ≡ Ok (record { rate = 8_000; bytes = 12 })
unfolding first third of Rattle.vdr_export.specs.Sounds.sound_after Rattle.vdr_export.specs.Tracks.gap Rattle.vdr_export.specs.Tracks.next
its_size = refl

mixed : size_of Numbered (of 1 0 first ∷ of 2 1000 other_rate ∷ of 3 2000 third ∷ []) ≡ Err (Mixed 2)
unfolding first third other_rate of
mixed = refl

silent : size_of Numbered [] ≡ Err Nothing
silent = refl

-- Ten samples a second. The second frame lies where the first one ends, to 3 milliseconds, and then the source begins anew, a second behind the start.
before_pause : Frame
before_pause = record { microphone = 1; frame = 0; rate = 10; samples = 1 ∷ 0 ∷ 2 ∷ 0 ∷ [] }

next_one : Frame
next_one = record { microphone = 1; frame = 1; rate = 10; samples = 3 ∷ 0 ∷ 4 ∷ 0 ∷ [] }

behind_pause : Frame
behind_pause = record { microphone = 1; frame = 0; rate = 10; samples = 5 ∷ 0 ∷ 6 ∷ 0 ∷ [] }

restarted : List Heard
restarted = of 1 5000 before_pause ∷ of 2 5203 next_one ∷ of 3 6000 behind_pause ∷ []

by_numbers : sound Numbered restarted ≡ 1 ∷ 0 ∷ 2 ∷ 0 ∷ 3 ∷ 0 ∷ 4 ∷ 0 ∷ 5 ∷ 0 ∷ 6 ∷ 0 ∷ []
unfolding before_pause next_one behind_pause restarted of Rattle.vdr_export.specs.Sounds.sound_after Rattle.vdr_export.specs.Tracks.gap Rattle.vdr_export.specs.Tracks.next
by_numbers = refl

by_stamps : sound (Stamped None) restarted ≡ 1 ∷ 0 ∷ 2 ∷ 0 ∷ 3 ∷ 0 ∷ 4 ∷ 0 ∷ silence 6 ++ 5 ∷ 0 ∷ 6 ∷ 0 ∷ []
unfolding before_pause next_one behind_pause restarted of Rattle.vdr_export.specs.Sounds.sound_after Rattle.vdr_export.specs.Tracks.gap Rattle.vdr_export.specs.Tracks.next
by_stamps = refl

from_before : sound (Stamped (Some 4700)) restarted ≡ silence 3 ++ 1 ∷ 0 ∷ 2 ∷ 0 ∷ 3 ∷ 0 ∷ 4 ∷ 0 ∷ silence 6 ++ 5 ∷ 0 ∷ 6 ∷ 0 ∷ []
unfolding before_pause next_one behind_pause restarted of Rattle.vdr_export.specs.Sounds.sound_after Rattle.vdr_export.specs.Tracks.gap Rattle.vdr_export.specs.Tracks.next
from_before = refl

-- Of three parts the third is missing.
a_part_missing : joined (Some (1 ∷ []) ∷ Some (2 ∷ []) ∷ None ∷ []) ≡ Err (Part 3)
a_part_missing = refl

all_parts : joined (Some (1 ∷ []) ∷ Some (2 ∷ 3 ∷ []) ∷ []) ≡ Ok (1 ∷ 2 ∷ 3 ∷ [])
all_parts = refl
