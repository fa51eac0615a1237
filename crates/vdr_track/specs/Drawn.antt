-- What a track has seen of records.
use Rattle.std.specs.Prelude.{◌≡◌, ℕ, Bool, true, false, List, [], ◌∷◌}
use Rattle.vdr_terms.specs.Records.{Record}
use Rattle.vdr_track.specs.Segments.{open_behind}
use Rattle.vdr_track.specs.declared.track.Track.{Track}

abbrev pub is_begun : List Record → Bool
is_begun [] = false
is_begun (r ∷ records) = true

-- It has drawn these records, of this source.
pub record HasDrawn (source : List ℕ) (seen : List Record) (t : Track) : Type 0 where
  pub source_is : t.source.now ≡ source
  pub begun_is : t.begun ≡ is_begun seen
  pub last_is : t.last ≡ open_behind source seen
