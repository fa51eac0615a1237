use Rattle.std.proofs.Common.{refl}
use Rattle.vdr_readout.proofs.ReadingLemmas.{file_known, play_rescued, rescue_known, same_rescued, sources_rescued}
use Rattle.vdr_readout.proofs.TrackLemmas.{nothing_drawn, track_rescued}
use Rattle.vdr_readout.proofs.answering.answer_rescue.Goals as goal

pub returns-in-Play-clause-owed : goal.returns-in-Play-clause-owed
returns-in-Play-clause-owed g c = rw c.in-Play.is (play_rescued _ _ _ _ c.new.result.player.tracks c.new.ensures (c.rescue_out.ensures.rescues c.new.result refl))

pub returns-in-Values-clause-owed : goal.returns-in-Values-clause-owed
returns-in-Values-clause-owed g c = rw c.in-Values.is (c.rescue_out-in-Values.ensures.rescues c.new-in-Values.result c.new-in-Values.ensures)

pub returns-in-Track-clause-owed : goal.returns-in-Track-clause-owed
returns-in-Track-clause-owed g c =
    rw c.in-Track.is
    (track_rescued c.in-Track.source.now c.new-in-Track.result.source.now c.new-in-Track.ensures.source_is
    (c.rescue_out-in-Track.ensures.rescues c.new-in-Track.result (nothing_drawn c.new-in-Track.ensures)))

pub returns-in-Sources-clause-owed : goal.returns-in-Sources-clause-owed
returns-in-Sources-clause-owed g c = rw c.in-Sources.is (sources_rescued _ _ _ _ _ c.up_to-wanted.ensures c.new-in-Sources.result.table c.new-in-Sources.ensures (c.rescue_out-in-Sources.ensures.rescues c.new-in-Sources.result refl))

pub returns-in-Watch-clause-owed : goal.returns-in-Watch-clause-owed
returns-in-Watch-clause-owed g c = rw c.in-Watch.is (same_rescued _ _ _ _ _ c.up_to-wanted-in-Watch.ensures _ _ (c.rescue_out-in-Watch.ensures.rescues c.new-in-Watch.result c.new-in-Watch.ensures))

pub returns-in-Runs-clause-owed : goal.returns-in-Runs-clause-owed
returns-in-Runs-clause-owed g c = rw c.in-Runs.is (same_rescued _ _ _ _ _ c.up_to-wanted-in-Runs.ensures _ _ (c.rescue_out-in-Runs.ensures.rescues c.new-in-Runs.result (c.new-in-Runs.ensures, c.new-in-Runs.ensures)))

pub returns-in-Digest-clause-owed : goal.returns-in-Digest-clause-owed
returns-in-Digest-clause-owed g c = rw c.in-Digest.is (same_rescued _ _ _ _ _ c.up_to-wanted-in-Digest.ensures _ _ (c.rescue_out-in-Digest.ensures.rescues c.new-in-Digest.result (c.new-in-Digest.ensures, c.new-in-Digest.ensures)))

pub returns-in-Play-clause-known : goal.returns-in-Play-clause-known
returns-in-Play-clause-known g c = rescue_known _ _ _ _ _ _ (c.rescue_out.ensures.rescues c.new.result refl)

pub returns-in-Values-clause-known : goal.returns-in-Values-clause-known
returns-in-Values-clause-known g c = rescue_known _ _ _ _ _ _ (c.rescue_out-in-Values.ensures.rescues c.new-in-Values.result c.new-in-Values.ensures)

pub returns-in-Track-clause-known : goal.returns-in-Track-clause-known
returns-in-Track-clause-known g c = rescue_known _ _ _ _ _ _ (c.rescue_out-in-Track.ensures.rescues c.new-in-Track.result (nothing_drawn c.new-in-Track.ensures))

pub returns-in-Sources-clause-known : goal.returns-in-Sources-clause-known
returns-in-Sources-clause-known g c = rescue_known _ _ _ _ _ _ (c.rescue_out-in-Sources.ensures.rescues c.new-in-Sources.result refl)

pub returns-in-Watch-clause-known : goal.returns-in-Watch-clause-known
returns-in-Watch-clause-known g c = rescue_known _ _ _ _ _ _ (c.rescue_out-in-Watch.ensures.rescues c.new-in-Watch.result c.new-in-Watch.ensures)

pub returns-in-Runs-clause-known : goal.returns-in-Runs-clause-known
returns-in-Runs-clause-known g c = rescue_known _ _ _ _ _ _ (c.rescue_out-in-Runs.ensures.rescues c.new-in-Runs.result (c.new-in-Runs.ensures, c.new-in-Runs.ensures))

pub returns-in-Digest-clause-known : goal.returns-in-Digest-clause-known
returns-in-Digest-clause-known g c = rescue_known _ _ _ _ _ _ (c.rescue_out-in-Digest.ensures.rescues c.new-in-Digest.result (c.new-in-Digest.ensures, c.new-in-Digest.ensures))

pub returns-in-Wav-clause-known : goal.returns-in-Wav-clause-known
returns-in-Wav-clause-known g c = file_known _ _ _ _ _ c.rescue_file.ensures.rescues

pub returns-in-TimedWav-clause-known : goal.returns-in-TimedWav-clause-known
returns-in-TimedWav-clause-known g c = file_known _ _ _ _ _ c.rescue_file-in-TimedWav.ensures.rescues

pub returns-in-Picture-clause-known : goal.returns-in-Picture-clause-known
returns-in-Picture-clause-known g c = file_known _ _ _ _ _ c.rescue_file-in-Picture.ensures.rescues

pub returns-in-Pictures-clause-known : goal.returns-in-Pictures-clause-known
returns-in-Pictures-clause-known g c = file_known _ _ _ _ _ c.rescue_file-in-Pictures.ensures.rescues
