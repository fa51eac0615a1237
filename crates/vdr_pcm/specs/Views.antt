-- What contracts see of a frame.
use Rattle.vdr_pcm.specs.Frames.{Frame}
use Rattle.vdr_pcm.specs.declared.frame.PcmFrame.{PcmFrame}

abbrev pub frame_of : PcmFrame → Frame
frame_of f = record { microphone = f.microphone; frame = f.frame; rate = f.rate; samples = f.samples.now }
