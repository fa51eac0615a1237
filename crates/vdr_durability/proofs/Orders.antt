-- The act of an order may come.
use Rattle.std.proofs.Common.{ℕ, ◌<◌, List, [], ◌∷◌, ◌++◌, Bool, true, false, Contains, slice_get, option_map, Option, Some, None, ◌≡◌, refl, sym, ◌∙◌, arith}
use Rattle.std.proofs.lemmas.Option.{none-some}
use Rattle.vdr_terms.specs.Records.{Record, last, last_after}
use Rattle.vdr_terms.specs.Windows.{HasWindowPlaces, window}
use Rattle.vdr_core.specs.Runs.{Stamp}
use Rattle.vdr_core.specs.Histories.{Event, Opening, MayCome, all_records, incidents, last_stamp, live, recorded, records_of_act, stamp_of}
use Rattle.vdr_core.specs.Histories as histories
use Rattle.vdr_durability.proofs.Lists.{last_contained, none_contained}
use Rattle.vdr_durability.proofs.Retained.{in_the_window}
use Rattle.vdr_terms.specs.Texts.{is_label}
use Rattle.vdr_durability.specs.Replies.{LongTermHasTheLast, Order, Reply, act_of, free_id, place_or_0, release_reply, reply, save_reply}
use Rattle.vdr_durability.specs.Replies.Order.{Status, Save, Release, Play}
use Rattle.vdr_durability.specs.Replies.Reply.{State, Saved, Released, Played, NoLabel, NothingToSave, TableFull, NoChannel, NoMedium, NoIncident, Failed}

-- a window of records has a first one
window_places : (seconds : ℕ) → 0 < seconds → (rs : List Record) → (last rs ≡ None → ⊥)
    → HasWindowPlaces seconds rs (place_or_0 (slice_get (window seconds rs) 0)) (place_or_0 (last rs))
window_places seconds some [] there = absurd (there refl)
window_places seconds some (x ∷ xs) there = record { first = first_of (window seconds (x ∷ xs)) newest_in; newest = refl }
  where
    newest_in : Contains (window seconds (x ∷ xs)) (last_after x xs)
    newest_in = in_the_window seconds (x ∷ xs) (last_after x xs)
        (record { newest = last_after x xs; ends = refl; there = last_contained (x ∷ xs) (last_after x xs) refl; close = omega (arith, some) })

    first_of : (rs : List Record) → Contains rs (last_after x xs) → option_map (λ r. r.place) (slice_get rs 0) ≡ Some (place_or_0 (slice_get rs 0))
    first_of [] m = absurd (none_contained (last_after x xs) m)
    first_of (r ∷ rs) m = refl

module _ (opening : Opening) (events : List Event) (some : 0 < opening.settings.incident_seconds) (ends : LongTermHasTheLast opening) where
  -- where there is a last stamp, the long-term medium was given a record
  has_records : (stamp : Stamp) → last_stamp opening events ≡ Some stamp → last (all_records opening 1 events) ≡ None → ⊥
  has_records stamp e = go (opening.records 1) (recorded events) ends e
    where
      go : (there more : List Record) → opening.last ≡ stamp_of (last there) None → stamp_of (last more) opening.last ≡ Some stamp → last (there ++ more) ≡ None → ⊥
      go [] [] o e n = none-some stamp (sym o ∙ e)
      go [] (x ∷ xs) o e n = none-some (last_after x xs) (sym n)
      go (x ∷ xs) more o e n = none-some (last_after x (xs ++ more)) (sym n)

  pub may_come : (media : List ℕ) (order : Order) → MayCome opening events (act_of opening events order (reply media opening events order))
  may_come media Status = tt
  may_come media (Save label) = go (is_label label) (last_stamp opening events) (free_id opening events) refl refl
    where
      go : (t : Bool) (o : Option Stamp) (f : Option ℕ) → last_stamp opening events ≡ o → free_id opening events ≡ f → MayCome opening events (act_of opening events (Save label) (save_reply t o f))
      go false o f e q = tt
      go true None f e q = tt
      go true (Some stamp) None e q = tt
      go true (Some stamp) (Some id) e q = (q, window_places opening.settings.incident_seconds some (all_records opening 1 events) (has_records stamp e))
  may_come media (Release id) = go (live (incidents opening events) id) refl
    where
      go : (o : Option histories.Incident) → live (incidents opening events) id ≡ o → MayCome opening events (act_of opening events (Release id) (release_reply o))
      go None e = tt
      go (Some incident) e = (incident, e)
  may_come media (Play named query) = tt

-- No order records anything.
pub records_nothing : (opening : Opening) (events : List Event) (order : Order) (answer : Reply) → records_of_act (act_of opening events order answer) ≡ []
records_nothing opening events Status answer = refl
records_nothing opening events (Save label) (State next_place tick live) = refl
records_nothing opening events (Save label) (Saved id) = refl
records_nothing opening events (Save label) Released = refl
records_nothing opening events (Save label) (Played records) = refl
records_nothing opening events (Save label) NoLabel = refl
records_nothing opening events (Save label) NothingToSave = refl
records_nothing opening events (Save label) TableFull = refl
records_nothing opening events (Save label) NoChannel = refl
records_nothing opening events (Save label) NoMedium = refl
records_nothing opening events (Save label) NoIncident = refl
records_nothing opening events (Save label) Failed = refl
records_nothing opening events (Release id) (State next_place tick live) = refl
records_nothing opening events (Release id) (Saved other) = refl
records_nothing opening events (Release id) Released = refl
records_nothing opening events (Release id) (Played records) = refl
records_nothing opening events (Release id) NoLabel = refl
records_nothing opening events (Release id) NothingToSave = refl
records_nothing opening events (Release id) TableFull = refl
records_nothing opening events (Release id) NoChannel = refl
records_nothing opening events (Release id) NoMedium = refl
records_nothing opening events (Release id) NoIncident = refl
records_nothing opening events (Release id) Failed = refl
records_nothing opening events (Play named query) answer = refl
