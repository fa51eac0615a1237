-- What media show of a history.
use Rattle.std.specs.Prelude.{ℕ, ◌≡◌, List, [], All, Contains, ◌==◌, if◌then◌else◌, Option, None, option_map}
use Rattle.std.specs.List.{filter_map}
use Rattle.vdr_terms.specs.Records.{Record, last}
use Rattle.vdr_core.specs.Histories.{Event, Incident, Settings, Opening, stamp_of, all_records, incidents}
use Rattle.vdr_durability.specs.Retention.{Pin, Retains}
use Rattle.vdr_durability.specs.Readings.{Reading, AreMembers, AreLevel, EndsMeet, lead, leading_batch, next_after, records_on, restored}

-- The places of the live incidents.
abbrev pub pins_of : List (Option Incident) → List Pin
pins_of table = filter_map (λ slot. option_map (λ i. record { a = i.a; b = i.b }) slot) table

-- What medium m keeps besides its window: the long-term medium the live incidents, the others nothing.
abbrev pub pins_on : ℕ → List (Option Incident) → List Pin
pins_on m table = if m == 1 then pins_of table else []

-- Medium m retains of all that it was given what the settings and this table ask of it.
abbrev pub RetainsOn : Settings → List (Option Incident) → (all held : ℕ → List Record) → ℕ → Type 0
RetainsOn settings table all held m = Retains (settings.seconds m) (pins_on m table) (all m) (held m)

-- All that each medium was given, by its number.
abbrev pub given_with : Opening → List Event → ℕ → List Record
given_with opening events m = all_records opening m events

-- Each of these media, restored, retains what the opening and the events gave it.
pub record ShowsMedia (members : List ℕ) (opening : Opening) (events : List Event) (reading : Reading) : Type 0 where
  pub are_members : AreMembers members
  pub text : reading.text ≡ opening.settings.text
  pub ends : EndsMeet members reading
  pub media : All (RetainsOn opening.settings (incidents opening events) (given_with opening events) (records_on (restored members reading))) members

-- The long-term medium is one of them, and the table on it is that of the events.
pub record ShowsSaves (members : List ℕ) (opening : Opening) (events : List Event) (reading : Reading) : Type 0 where
  pub long_term : Contains members 1
  pub table : reading.table ≡ incidents opening events

-- The media show these events over the opening.
pub record Shows (members : List ℕ) (opening : Opening) (events : List Event) (reading : Reading) : Type 0 where
  pub media : ShowsMedia members opening events reading
  pub saves : ShowsSaves members opening events reading

-- The image is legible as media of some numbers, and what it reads as shows the events.
abbrev pub ImageShows : {Image : Type 0} → (Image → List ℕ → Reading → Type 0) → Opening → List Event → Image → Type 0
ImageShows reads opening events image = (members : List ℕ) × (reading : Reading) × reads image members reading × Shows members opening events reading

-- What a further run begins with, where the media read so: the media restored, under the settings of their text.
abbrev pub opened : List ℕ → Settings → Reading → Opening
opened members settings reading = record {
  settings = settings;
  records = λ m. records_on (restored members reading) m;
  table = reading.table;
  next_place = next_after (last (records_on (restored members reading) (lead members)));
  last = stamp_of (last (records_on (restored members reading) (lead members))) None;
}

-- The opening goes on from the last record of this medium.
pub record GoesOnFrom (m : ℕ) (opening : Opening) : Type 0 where
  pub place : opening.next_place ≡ next_after (last (opening.records m))
  pub stamp : opening.last ≡ stamp_of (last (opening.records m)) None

-- What opening leaves of media that read so before: text and table as they were, each medium ends with the last batch, and
-- of what it had with this batch it retains its window and its pins. A segment may have made room for the batch.
pub record IsReconciled (members : List ℕ) (settings : Settings) (before after : Reading) : Type 0 where
  pub text : after.text ≡ before.text
  pub table : after.table ≡ before.table
  pub batch : leading_batch members after ≡ leading_batch members before
  pub level : AreLevel members after
  pub media : All (RetainsOn settings before.table (records_on (restored members before)) (records_on after)) members
