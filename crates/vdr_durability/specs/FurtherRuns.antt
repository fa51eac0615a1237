-- A run on what a stop left of the run before it (this project's profile: places run on over the whole life of the media).
use Rattle.std.specs.Prelude.{◌≤◌, ℕ, List, [], Contains}
use Rattle.vdr_terms.specs.Order.{AreInOrder}
use Rattle.vdr_core.specs.Histories.{Event, MayFollow, Opening, all_records}
use Rattle.vdr_durability.specs.Readings.{Reading, lead}
use Rattle.vdr_durability.specs.Shown.{GoesOnFrom, Shows, opened}

-- A run over the opening left media that show the first events; they were opened again, and what the next run left of them shows the
-- second.
pub record IsTwoRuns (members : List ℕ) (opening : Opening) (first : List Event) (between : Reading) (second : List Event) (after : Reading) : Type 0 where
  pub longer : opening.settings.incident_seconds ≤ opening.settings.seconds 1
  pub leads : Contains members (lead members)
  pub goes_on : GoesOnFrom (lead members) opening
  pub follow : MayFollow opening [] first
  pub shown : Shows members opening first between
  pub again : MayFollow (opened members opening.settings between) [] second
  pub shown_again : Shows members (opened members opening.settings between) second after
  pub order : (m : ℕ) → Contains members m → AreInOrder (all_records opening m first)
  pub order_again : (m : ℕ) → Contains members m → AreInOrder (all_records (opened members opening.settings between) m second)
