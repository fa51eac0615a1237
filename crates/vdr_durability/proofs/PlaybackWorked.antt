-- Worked examples, computed: a window's edge, a range of stamps, a channel, an incident, and a table of sources with a bad line.
use Rattle.std.proofs.Common.{◌≡◌, ℕ, pos, List, [], ◌∷◌, Bool, true, false, slice_index, ◌==◌, if◌then◌else◌, Option, Some, None, refl}
use Rattle.vdr_terms.specs.Records.{Record}
use Rattle.vdr_terms.specs.Queries.{Medium, Query}
use Rattle.vdr_terms.specs.Queries.Medium.{WindowOf, Incident}
use Rattle.vdr_terms.specs.Queries.Span.{Window, Places}
use Rattle.vdr_core.specs.Histories.{Event}
use Rattle.vdr_core.specs.Histories.Act.{Commit, Save, Release, Look}
use Rattle.vdr_core.proofs.HistoryRows.{small, data_at, start, stop}
use Rattle.vdr_core.proofs.Checks.{fresh, at, run}
use Rattle.vdr_durability.specs.Playback.{found, pins_on, selected, span_of}
use Rattle.vdr_durability.specs.Replies.{Order, Reply, act_of, reply, reply_with}
use Rattle.vdr_durability.specs.Replies.Order.{Status, Play}
use Rattle.vdr_durability.specs.Replies.Reply.{State, Saved, Released, Played, NoLabel, NothingToSave, TableFull, NoChannel, NoMedium, NoIncident, Failed}
use Rattle.vdr_durability.specs.Sources.{Reading, Row, breaks_in, lines_of, table_of}

abbrev all : Medium → ℕ → ℕ → Query
all medium from to = record { medium = medium; channel = None; from = pos from; to = pos to }

-- Of a run of a minute the capsule's window of 60 seconds: the record of second 1 is in it, that of second 0 is not.
a_minute : selected fresh (run ∷ []) (all (WindowOf 0) 0 100000) ≡ data_at 3 2 1000 small ∷ data_at 4 3 60000 small ∷ stop 5 60000 ∷ []
a_minute = refl

its_span : span_of fresh (run ∷ []) (WindowOf 0) ≡ Some (Window 60 60)
its_span = refl

-- A medium that holds more gives no more.
of_more : found (all (WindowOf 0) 0 100000) (span_of fresh (run ∷ []) (WindowOf 0)) (data_at 2 1 999 small ∷ data_at 3 2 1000 small ∷ data_at 4 3 60000 small ∷ stop 5 60000 ∷ [])
    ≡ data_at 3 2 1000 small ∷ data_at 4 3 60000 small ∷ stop 5 60000 ∷ []
of_more = refl

-- By utc, both ends included.
by_utc : selected fresh (run ∷ []) (all (WindowOf 0) 1000 59999) ≡ data_at 3 2 1000 small ∷ []
by_utc = refl

to_the_end : selected fresh (run ∷ []) (all (WindowOf 0) 1001 60000) ≡ data_at 4 3 60000 small ∷ stop 5 60000 ∷ []
to_the_end = refl

nothing_recorded : selected fresh [] (all (WindowOf 0) 0 100000) ≡ []
nothing_recorded = refl

-- By channel: the first record is of the channels 0 and 2, the second of channel 1.
abbrev with_bits : ℕ → Record → Record
with_bits bits r = record r { bits = bits }

abbrev two : List Event
two = at 7 (Commit (with_bits 5 (data_at 0 0 0 small) ∷ with_bits 2 (data_at 1 1 10 small) ∷ []) []) ∷ []

abbrev of_channel : ℕ → Query
of_channel k = record { medium = WindowOf 1; channel = Some k; from = pos 0; to = pos 100000 }

channel_two : selected fresh two (of_channel 2) ≡ with_bits 5 (data_at 0 0 0 small) ∷ []
channel_two = refl

channel_one : selected fresh two (of_channel 1) ≡ with_bits 2 (data_at 1 1 10 small) ∷ []
channel_one = refl

channel_three : selected fresh two (of_channel 3) ≡ []
channel_three = refl

-- An incident that was saved has its places, also outside the window; a released one, and one that was not saved, have none.
abbrev with_save : List Event
with_save = run ∷ at 9 (Save 1 (65 ∷ []) 2 4) ∷ []

of_incident : selected fresh with_save (all (Incident 1) 0 100000) ≡ data_at 2 1 999 small ∷ data_at 3 2 1000 small ∷ data_at 4 3 60000 small ∷ []
of_incident = refl

its_places : span_of fresh with_save (Incident 1) ≡ Some (Places 2 4)
its_places = refl

its_pin : pins_on fresh with_save 1 ≡ record { a = 2; b = 4 } ∷ []
its_pin = refl

none_on_the_capsule : pins_on fresh with_save 0 ≡ []
none_on_the_capsule = refl

not_saved : selected fresh with_save (all (Incident 2) 0 100000) ≡ []
not_saved = refl

no_zero : selected fresh with_save (all (Incident 0) 0 100000) ≡ []
no_zero = refl

released : selected fresh (run ∷ at 9 (Save 1 (65 ∷ []) 2 4) ∷ at 11 (Release 1) ∷ []) (all (Incident 1) 0 100000) ≡ []
released = refl

-- Counts 998, 999, 0, 2: one break. After 999 also 1 is next.
one_break : breaks_in (998 ∷ 999 ∷ 0 ∷ 2 ∷ []) ≡ 1
one_break = refl

no_break : breaks_in (999 ∷ 1 ∷ 2 ∷ []) ≡ 0
no_break = refl

-- Four lines in two datagrams: of `GP` one with count 7, one without a count, and one with count 9 that is not good; and one
-- that names no source.
abbrev gps : List ℕ
gps = 71 ∷ 80 ∷ []

abbrev reading : List ℕ → Option ℕ → Bool → Reading
reading name count good = record { name = name; count = count; good = good }

-- What the datagrams of these first bytes hold.
abbrev read : List ℕ → List Reading
read bytes =
    if slice_index bytes 0 == 1 then reading gps (Some 7) true ∷ reading gps None true ∷ []
    else if slice_index bytes 0 == 2 then reading gps (Some 9) false ∷ reading (45 ∷ []) None false ∷ []
    else []

abbrev row : List ℕ → ℕ → ℕ → ℕ → ℕ → ℕ → Option ℕ → Row
row name first last lines bad breaks count =
    record { source = record { group = 3; name = name }; first = pos first; last = pos last; lines = lines; bad = bad; breaks = breaks; count = count }

-- `-` comes before `GP`. The bad line's count is no successor of 7.
two_sources : table_of (lines_of read (start ∷ data_at 1 0 0 (1 ∷ []) ∷ data_at 2 1 20 (2 ∷ []) ∷ stop 3 20 ∷ []))
    ≡ row (45 ∷ []) 20 20 1 1 0 None ∷ row gps 0 20 3 1 1 (Some 9) ∷ []
two_sources = refl

no_sources : table_of (lines_of read (start ∷ stop 1 0 ∷ [])) ≡ []
no_sources = refl

-- Orders after a run, and after the save of its last 30 seconds.
abbrev one_save : List Event
one_save = run ∷ at 9 (Save 1 (65 ∷ []) 4 5) ∷ []

abbrev answer : List Event → Order → Reply
answer events order = reply (0 ∷ 1 ∷ []) fresh events order

state : answer one_save Status ≡ State 6 60000 1
state = refl

nothing_yet : answer [] Status ≡ State 0 0 0
nothing_yet = refl

first_id : answer (run ∷ []) (Order.Save (65 ∷ [])) ≡ Saved 1
first_id = refl

its_act : act_of fresh (run ∷ []) (Order.Save (65 ∷ [])) (Saved 1) ≡ Save 1 (65 ∷ []) 4 5
its_act = refl

second_id : answer one_save (Order.Save (65 ∷ [])) ≡ Saved 2
second_id = refl

empty_label : answer [] (Order.Save []) ≡ NoLabel
empty_label = refl

nothing_to_save : answer [] (Order.Save (65 ∷ [])) ≡ NothingToSave
nothing_to_save = refl

table_full : answer (run ∷ at 9 (Save 1 (65 ∷ []) 4 5) ∷ at 10 (Save 2 (65 ∷ []) 4 5) ∷ []) (Order.Save (65 ∷ [])) ≡ TableFull
table_full = refl

its_release : answer one_save (Order.Release 1) ≡ Released
its_release = refl

no_release : answer one_save (Order.Release 2) ≡ NoIncident
no_release = refl

-- A play is refused for its channel before its incident.
played : answer (run ∷ []) (Play true (all (WindowOf 0) 1000 1000)) ≡ Played (data_at 3 2 1000 small ∷ [])
played = refl

no_channel : answer one_save (Play false (all (Incident 2) 0 1)) ≡ NoChannel
no_channel = refl

no_incident : answer one_save (Play true (all (Incident 2) 0 1)) ≡ NoIncident
no_incident = refl

no_third_medium : answer one_save (Play true (all (WindowOf 2) 0 1)) ≡ NoMedium
no_third_medium = refl

after_a_fault : reply_with (0 ∷ 1 ∷ []) fresh (run ∷ []) (record { act = Look; moment = None }) Status ≡ Failed
after_a_fault = refl
