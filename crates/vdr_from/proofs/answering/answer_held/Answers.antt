use Rattle.std.proofs.Common.{rules, ◌≡◌, ◌∙◌, to_z, of_z, w64, ap, refl}
use Rattle.vdr_export.specs.Wishes.{timed_from}
use Rattle.vdr_readout.proofs.TrackLemmas.{nothing_drawn}
use Rattle.vdr_from.proofs.OwedLemmas.{play_told, same_sound, same_stamp, same_told, sources_told, track_told}
use Rattle.vdr_from.proofs.answering.answer_held.Goals as goal

pub returns-in-Play-clause-owed : goal.returns-in-Play-clause-owed
returns-in-Play-clause-owed g c = rw c.in-Play.is (λ kept. play_told _ _ _ _ _ c.new.result.player.tracks c.new.ensures (c.tell_held.ensures.tells c.new.result refl kept))

pub returns-in-Values-clause-owed : goal.returns-in-Values-clause-owed
returns-in-Values-clause-owed g c = rw c.in-Values.is (λ kept. c.tell_held-in-Values.ensures.tells c.new-in-Values.result c.new-in-Values.ensures kept)

pub returns-in-Track-clause-owed : goal.returns-in-Track-clause-owed
returns-in-Track-clause-owed g c =
    rw c.in-Track.is
    (λ kept. track_told _ _ _ _ _ c.in-Track.source.now c.new-in-Track.result.source.now c.new-in-Track.ensures.source_is
    (c.tell_held-in-Track.ensures.tells c.new-in-Track.result (nothing_drawn c.new-in-Track.ensures) kept))

pub returns-in-Sources-clause-owed : goal.returns-in-Sources-clause-owed
returns-in-Sources-clause-owed g c =
    rw c.in-Sources.is (λ kept. sources_told _ _ _ _ _ _ c.up_to-wanted.ensures c.new-in-Sources.result.table c.new-in-Sources.ensures (c.tell_held-in-Sources.ensures.tells c.new-in-Sources.result refl kept))

pub returns-in-Watch-clause-owed : goal.returns-in-Watch-clause-owed
returns-in-Watch-clause-owed g c =
    rw c.in-Watch.is (λ kept. same_told _ _ _ _ _ _ c.up_to-wanted-in-Watch.ensures _ _ (c.tell_held-in-Watch.ensures.tells c.new-in-Watch.result c.new-in-Watch.ensures kept))

pub returns-in-Runs-clause-owed : goal.returns-in-Runs-clause-owed
returns-in-Runs-clause-owed g c =
    rw c.in-Runs.is (λ kept. same_told _ _ _ _ _ _ c.up_to-wanted-in-Runs.ensures _ _ (c.tell_held-in-Runs.ensures.tells c.new-in-Runs.result (c.new-in-Runs.ensures, c.new-in-Runs.ensures) kept))

pub returns-in-Digest-clause-owed : goal.returns-in-Digest-clause-owed
returns-in-Digest-clause-owed g c =
    rw c.in-Digest.is
    (λ kept. same_told _ _ _ _ _ _ c.up_to-wanted-in-Digest.ensures _ _ (c.tell_held-in-Digest.ensures.tells c.new-in-Digest.result (c.new-in-Digest.ensures, c.new-in-Digest.ensures) kept))

pub returns-in-Targets-clause-owed : goal.returns-in-Targets-clause-owed
returns-in-Targets-clause-owed g c =
    let same : to_z w64 (of_z w64 c.in-Targets.at) ≡ c.in-Targets.at = search rules in
    rw c.in-Targets.is (λ kept. same_stamp c.in-Targets.medium _ _ same _ _ _ _ (c.tell_targets.ensures.owed kept))

pub returns-in-TimedWav-clause-owed : goal.returns-in-TimedWav-clause-owed
returns-in-TimedWav-clause-owed g c =
    let same : to_z w64 (of_z w64 c.in-TimedWav.wanted.from) ≡ c.in-TimedWav.wanted.from = search rules in
    rw c.in-TimedWav.is (λ kept. same_sound _ _ (c.timed_from.ensures ∙ ap timed_from same) _ _ _ _ _ (c.write_held-in-TimedWav.ensures.writes kept))

pub returns-in-Picture-clause-owed : goal.returns-in-Picture-clause-owed
returns-in-Picture-clause-owed g c = rw c.in-Picture.is c.write_held-in-Picture.ensures.writes
