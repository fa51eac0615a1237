use Rattle.vdr_track.proofs.Streaming.{track_is_printed}
use Rattle.vdr_track.proofs.laws.law_of_tracks.Goals as goal

pub returns : goal.returns
returns c = track_is_printed
