-- What code keeps of frames.
use Rattle.std.specs.Prelude.{ℕ}
use Rattle.vdr_pcm.specs.Frames.{Frame, sample_count}
use Rattle.vdr_pcm.specs.Views.{frame_of}
use Rattle.vdr_pcm.specs.declared.frame.PcmFrame.{PcmFrame}
use Rattle.vdr_export.specs.Sounds.{Heard}
use Rattle.vdr_export.specs.declared.frames.Tail.{Tail}

abbrev pub tail_of : Frame → Tail
tail_of f = record { frame = f.frame; samples = sample_count f.samples }

-- A frame of the record at this place, with this stamp.
abbrev pub heard_as : (place stamp : ℕ) → PcmFrame → Heard
heard_as place stamp frame = record { place = place; stamp = stamp; frame = frame_of frame }
