-- What the orders of control lines are answered, and the events that they are (this project's profile). How an answer is
-- spelled, and what a link is sent where the media fail in the middle of it, is the grammar's of control lines.
use Rattle.std.specs.Prelude.{ℕ, suc, ◌≡◌, Bool, true, false, List, count_by, is_some, is_none, position, slice_get, option_map, ◌==◌, Option, Some, None}
use Rattle.std.specs.List.{list_any}
use Rattle.vdr_terms.specs.Texts.{is_label}
use Rattle.vdr_terms.specs.Records.{Record, last}
use Rattle.vdr_terms.specs.Windows.{window}
use Rattle.vdr_terms.specs.Queries.{Medium, Query}
use Rattle.vdr_terms.specs.Queries.Medium.{WindowOf, Incident}
use Rattle.vdr_core.specs.Runs.{Stamp, last_tick}
use Rattle.vdr_core.specs.Histories.{Act, Event, Opening, all_records, incidents, last_stamp, live, next_place, stamp_of}
use Rattle.vdr_core.specs.Histories as histories
use Rattle.vdr_durability.specs.Playback.{selected}

-- An order of the grammar. Where `named` is false, the configuration has no channel of the name that a play gives.
pub data Order : Type 0 where
  Status : Order
  Save : (label : List ℕ) → Order
  Release : (id : ℕ) → Order
  Play : (named : Bool) (query : Query) → Order

pub data Reply : Type 0 where
  State : (next_place tick incidents : ℕ) → Reply
  Saved : (id : ℕ) → Reply
  Released : Reply
  Played : (records : List Record) → Reply
  NoLabel : Reply
  NothingToSave : Reply
  TableFull : Reply
  NoChannel : Reply
  NoMedium : Reply
  NoIncident : Reply
  Failed : Reply  -- the media have failed

-- The id of the next save, None where each slot is live.
abbrev pub free_id : Opening → List Event → Option ℕ
free_id opening events = option_map suc (position is_none (incidents opening events))

-- By its cases in order: no legal label, nothing recorded, no free slot.
abbrev pub save_reply : Bool → Option Stamp → Option ℕ → Reply
save_reply false stamp free = NoLabel
save_reply true None free = NothingToSave
save_reply true (Some stamp) None = TableFull
save_reply true (Some stamp) (Some id) = Saved id

abbrev pub release_reply : Option histories.Incident → Reply
release_reply None = NoIncident
release_reply (Some incident) = Released

-- A channel that is not configured is refused first.
abbrev pub play_reply : Bool → Bool → Reply → List Record → Reply
play_reply false there none records = NoChannel
play_reply true false none records = none
play_reply true true none records = Played records

-- The medium is one of these, or the incident is live.
abbrev pub is_there : List ℕ → Opening → List Event → Medium → Bool
is_there media opening events (WindowOf m) = list_any (λ k. k == m) media
is_there media opening events (Incident id) = is_some (live (incidents opening events) id)

abbrev pub refusal_of : Medium → Reply
refusal_of (WindowOf m) = NoMedium
refusal_of (Incident id) = NoIncident

-- The answer to an order after these events, where the recorder has these media.
abbrev pub reply : List ℕ → Opening → List Event → Order → Reply
reply media opening events Status = State (next_place opening events) (last_tick (last_stamp opening events)) (count_by is_some (incidents opening events))
reply media opening events (Save label) = save_reply (is_label label) (last_stamp opening events) (free_id opening events)
reply media opening events (Release id) = release_reply (live (incidents opening events) id)
reply media opening events (Play named query) =
    play_reply named (is_there media opening events query.medium) (refusal_of query.medium) (selected opening events query)

abbrev pub place_or_0 : Option Record → ℕ
place_or_0 None = 0
place_or_0 (Some r) = r.place

-- The save of an incident from the first record of its window on to the last one.
abbrev pub save_of : Opening → List Event → List ℕ → ℕ → Act
save_of opening events label id =
    Act.Save id label (place_or_0 (slice_get (window opening.settings.incident_seconds (all_records opening 1 events)) 0)) (place_or_0 (last (all_records opening 1 events)))

-- The act of an order: a save or a release that is granted, else a look.
abbrev pub act_of : Opening → List Event → Order → Reply → Act
act_of opening events (Save label) (Saved id) = save_of opening events label id
act_of opening events (Release id) Released = Act.Release id
act_of opening events order answer = Act.Look

-- The answer to an order whose event this is, after those before it. One without a moment met a fault, or came after one that did.
abbrev pub answer_before : Option ℕ → Reply → Reply
answer_before None answer = Failed
answer_before (Some moment) answer = answer

abbrev pub reply_with : List ℕ → Opening → List Event → Event → Order → Reply
reply_with media opening before own order = answer_before own.moment (reply media opening before order)

-- The last record of the opening stands on the long-term medium, where there is any.
abbrev pub LongTermHasTheLast : Opening → Type 0
LongTermHasTheLast opening = opening.last ≡ stamp_of (last (opening.records 1)) None
