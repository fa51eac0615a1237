use Rattle.vdr_track.proofs.Joining.{each_point_is_drawn, no_segment_goes_over}
use Rattle.vdr_track.proofs.laws.law_of_segments.Goals as goal

pub returns : goal.returns
returns c = record { whole = no_segment_goes_over; each = each_point_is_drawn }
