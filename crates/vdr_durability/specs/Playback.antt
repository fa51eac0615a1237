-- What a query selects of a history, and what it finds on a medium (this project's profile).
use Rattle.std.specs.Prelude.{ℕ, List, [], filter, filter_map, flat_map, option_map, ◌&&◌, ◌==◌, if◌then◌else◌, Option, Some, None}
use Rattle.vdr_terms.specs.Records.{Record, second, last}
use Rattle.vdr_terms.specs.Windows.{window}
use Rattle.vdr_terms.specs.Order.{NeverFalls, RunOn}
use Rattle.vdr_terms.specs.Queries.{Medium, Query, Span, Summary, IsSummary, in_span, matches, meets}
use Rattle.vdr_terms.specs.Queries.Medium.{WindowOf, Incident}
use Rattle.vdr_terms.specs.Queries.Span.{Window, Places}
use Rattle.vdr_core.specs.Histories.{Event, Opening, all_records, incidents, live}
use Rattle.vdr_core.specs.Histories as histories
use Rattle.vdr_durability.specs.Retention.{Pin, at_places}

-- The records of a live incident, by its places.
abbrev pub records_of_incident : Option histories.Incident → List Record → List Record
records_of_incident None records = []
records_of_incident (Some incident) records = at_places incident.a incident.b records

-- What a query is asked of: the window of a medium, or the records of a live incident, which the long-term medium has.
abbrev pub extent : Opening → List Event → Medium → List Record
extent opening events (WindowOf m) = window (opening.settings.seconds m) (all_records opening m events)
extent opening events (Incident id) = records_of_incident (live (incidents opening events) id) (all_records opening 1 events)

-- The records that a query selects, in order of place.
abbrev pub selected : Opening → List Event → Query → List Record
selected opening events query = filter (matches query) (extent opening events query.medium)

-- The medium that a query reads.
abbrev pub medium_of : Medium → ℕ
medium_of (WindowOf m) = m
medium_of (Incident id) = 1

-- What its medium comes to: the seconds up to the last record's, or an incident's places. None where there is no record, or no such incident.
abbrev pub span_of : Opening → List Event → Medium → Option Span
span_of opening events (WindowOf m) = option_map (λ r. Window (second r.tick) (opening.settings.seconds m)) (last (all_records opening m events))
span_of opening events (Incident id) = option_map (λ incident. Places incident.a incident.b) (live (incidents opening events) id)

-- The records of a span that the query selects.
abbrev pub found : Query → Option Span → List Record → List Record
found query None records = []
found query (Some span) records = filter (λ r. in_span span r && matches query r) records

-- The pins of a table: the places of each live incident.
abbrev pub pins_of : List (Option histories.Incident) → List Pin
pins_of table = filter_map (λ slot. option_map (λ incident. record { a = incident.a; b = incident.b }) slot) table

-- What is pinned on a medium: on the long-term medium the live incidents, on another nothing.
abbrev pub pins_on : Opening → List Event → ℕ → List Pin
pins_on opening events m = if m == 1 then pins_of (incidents opening events) else []

-- Records that are read together, with their summary.
pub record Summarised : Type 0 where
  pub summary : Summary
  pub records : List Record

-- Their places run on, their ticks do not fall, and the summary is theirs.
pub record IsSummarised (part : Summarised) : Type 0 where
  pub is_theirs : IsSummary part.summary part.records
  pub run_on : RunOn part.summary.first part.records
  pub rising : NeverFalls 0 part.records

abbrev pub records_of_parts : List Summarised → List Record
records_of_parts parts = flat_map (λ part. part.records) parts

-- The parts whose summary meets the query.
abbrev pub that_meet : Query → Span → List Summarised → List Summarised
that_meet query span parts = filter (λ part. meets query span part.summary) parts
