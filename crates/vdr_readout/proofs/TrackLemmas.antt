-- The track of the source that is asked for, from that of the source that a visitor keeps.
use Rattle.std.proofs.Common.{◌≡◌, ℕ, List, [], refl, subst}
use Rattle.vdr_track.specs.Drawn.{HasDrawn}
use Rattle.vdr_track.specs.Texts.{last_lines as track_last, line_at as track_line}
use Rattle.vdr_track.specs.declared.track.Track.{Track}
use Rattle.vdr_command.specs.Outside.{Outside}
use Rattle.vdr_command.specs.declared.status.Status.{Status}
use Rattle.vdr_readout.specs.Reads.{AskedPlay}
use Rattle.vdr_readout.specs.Rescues.{Rescues}
use Rattle.vdr_readout.specs.Selections.{TellsSelected, TellsTrack}

-- It has drawn nothing of its own source.
pub nothing_drawn : {source : List ℕ} {t : Track} → HasDrawn source [] t → HasDrawn t.source.now [] t × HasDrawn t.source.now [] t
nothing_drawn {t = t} h =
    let own : HasDrawn t.source.now [] t = record { source_is = refl; begun_is = h.begun_is; last_is = h.last_is } in
    (own, own)

module _ {tells tells_images : Type 0} {asked : AskedPlay} {old new : Outside tells tells_images} {status : Status} (source own : List ℕ) (is : own ≡ source) where
  pub track_owed : TellsSelected (track_line own) (track_last own) asked old new status → TellsTrack asked source old new status
  track_owed h = subst (λ (s : List ℕ). TellsSelected (track_line s) (track_last s) asked old new status) is h

  pub track_rescued : Rescues asked (track_line own) (track_last own) old new status → Rescues asked (track_line source) (track_last source) old new status
  track_rescued h = subst (λ (s : List ℕ). Rescues asked (track_line s) (track_last s) old new status) is h
