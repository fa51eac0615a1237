-- What a further run meets: its media show a prefix, and it goes on where this prefix ends.
use Rattle.std.proofs.Common.{ℕ, zero, suc, ◌+◌, List, [], ◌∷◌, ◌++◌, length, Contains, Option, Some, None, ◌≡◌, refl, sym, ap, ◌∙◌, subst, arith, add-zero, append-nil, length-append, length-set}
use Rattle.std.proofs.lemmas.List.Elements.{All-contains}
use Rattle.vdr_terms.specs.Records.{Record, last}
use Rattle.vdr_terms.specs.Order.{AreInOrder, RunOn}
use Rattle.vdr_terms.specs.Windows.{window}
use Rattle.vdr_terms.proofs.Running.{run_on_join, last_of_run}
use Rattle.vdr_core.specs.Histories.{Act, Event, Incident, IsOpening, MayCome, MayFollow, Opening, Settings, all_records, incidents, last_stamp, next_place, recorded, records_of_act, stamp_of, table_after, table_along}
use Rattle.vdr_core.specs.Histories.Act.{Commit, Save, Release, Look}
use Rattle.vdr_core.specs.Runs.{Stamp}
use Rattle.vdr_core.proofs.Growing.{continues_run}
use Rattle.vdr_durability.specs.Retention.{HoldsPlaces, Pin, Retains, at_places}
use Rattle.vdr_durability.proofs.Lists.{last_behind}
use Rattle.vdr_durability.proofs.Ordered.{same_window, same_places}
use Rattle.vdr_durability.specs.Readings.{Reading, lead, next_after, records_on, restored}
use Rattle.vdr_durability.specs.Shown.{GoesOnFrom, Shows, opened, pins_on}
use Rattle.vdr_durability.proofs.Shows.{OnSlot, recorded_with, slots_hold}

module _ (members : List ℕ) (opening : Opening) (events : List Event) (reading : Reading) (shown : Shows members opening events reading) where
  abbrev pub Retained : ℕ → Type 0
  Retained m = Retains (opening.settings.seconds m) (pins_on m (incidents opening events)) (all_records opening m events) (records_on (restored members reading) m)

  pub retained : (m : ℕ) → Contains members m → Retained m
  retained m there = All-contains Retained members m shown.media.media there

  -- Each medium's window is that of the events.
  pub reopened_window : (m : ℕ) → Contains members m → AreInOrder (all_records opening m events) → AreInOrder (records_on (restored members reading) m)
      → window (opening.settings.seconds m) (records_on (restored members reading) m) ≡ window (opening.settings.seconds m) (all_records opening m events)
  reopened_window m there order order' = same_window (opening.settings.seconds m) (all_records opening m events) (records_on (restored members reading) m) order order' (retained m there).window

  -- And a live incident's places are.
  pub reopened_places : (incident : Incident) → Contains (incidents opening events) (Some incident) → AreInOrder (all_records opening 1 events) → AreInOrder (records_on (restored members reading) 1)
      → at_places incident.a incident.b (records_on (restored members reading) 1) ≡ at_places incident.a incident.b (all_records opening 1 events)
  reopened_places incident live order order' =
      same_places (all_records opening 1 events) (records_on (restored members reading) 1) incident.a incident.b order order' (retained 1 shown.saves.long_term).window.own
      (All-contains (OnSlot Held) (incidents opening events) (Some incident) (slots_hold Held (incidents opening events) (retained 1 shown.saves.long_term).places) live)
    where
      Held : Pin → Type 0
      Held pin = HoldsPlaces (all_records opening 1 events) (records_on (restored members reading) 1) pin.a pin.b

act_runs : (opening : Opening) (before : List Event) (act : Act) → MayCome opening before act → RunOn (next_place opening before) (records_of_act act)
act_runs opening before (Commit records taken) may = continues_run opening.settings.channels (next_place opening before) records may
act_runs opening before (Save id label a b) may = tt
act_runs opening before (Release id) may = tt
act_runs opening before Look may = tt

next_with : (opening : Opening) (before : List Event) (e : Event) → next_place opening (before ++ e ∷ []) ≡ next_place opening before + length (records_of_act e.act)
next_with opening before e =
    let a = ap (λ (rs : List Record). length rs) (recorded_with before e) in
    let b = length-append (recorded before) (records_of_act e.act) in
    omega (arith, a, b)

pub events_run : (opening : Opening) (before events : List Event) → MayFollow opening before events → RunOn (next_place opening before) (recorded events)
events_run opening before [] h = tt
events_run opening before (e ∷ es) (may, more) = run_on_join (next_place opening before) (records_of_act e.act) (recorded es) (act_runs opening before e.act may)
    (subst (λ (n : ℕ). RunOn n (recorded es)) (next_with opening before e) (events_run opening (before ++ e ∷ []) es more))

next_after_run : (held rs : List Record) (place : ℕ) → place ≡ next_after (last held) → RunOn place rs → next_after (last (held ++ rs)) ≡ place + length rs
next_after_run held [] place e run = let a = ap (λ (xs : List Record). next_after (last xs)) (append-nil held) in omega (arith, a, e)
next_after_run held (r ∷ rs) place e run = ap next_after (last_behind held r rs) ∙ last_of_run place r rs run

last_stamp_after : (held rs : List Record) (before : Option Stamp) → before ≡ stamp_of (last held) None → stamp_of (last (held ++ rs)) None ≡ stamp_of (last rs) before
last_stamp_after held [] before e = ap (λ (xs : List Record). stamp_of (last xs) None) (append-nil held) ∙ sym e
last_stamp_after held (r ∷ rs) before e = ap (λ (o : Option Record). stamp_of o None) (last_behind held r rs)

-- A further run goes on where the events end.
pub reopened_goes_on : (members : List ℕ) (opening : Opening) (events : List Event) (settings : Settings) (reading : Reading) → Contains members (lead members) → GoesOnFrom (lead members) opening
    → MayFollow opening [] events → Shows members opening events reading
    → ((opened members settings reading).next_place ≡ next_place opening events) × ((opened members settings reading).last ≡ last_stamp opening events)
reopened_goes_on members opening events settings reading there from follow shown = (
  ap next_after ends ∙ next_after_run (opening.records (lead members)) (recorded events) opening.next_place from.place (subst (λ (n : ℕ). RunOn n (recorded events)) (add-zero opening.next_place) (events_run opening [] events follow)),
  ap (λ (o : Option Record). stamp_of o None) ends ∙ last_stamp_after (opening.records (lead members)) (recorded events) opening.last from.stamp,
)
  where
    ends : last (records_on (restored members reading) (lead members)) ≡ last (all_records opening (lead members) events)
    ends = (retained members opening events reading shown (lead members) there).window.newest

-- What it opens is an opening, with as many slots in its table.
slots_after : (records : List Record) (table : List (Option Incident)) (act : Act) → length (table_after records table act) ≡ length table
slots_after records table (Commit more taken) = refl
slots_after records table (Save zero label a b) = refl
slots_after records table (Save (suc i) label a b) = length-set table i _
slots_after records table (Release zero) = refl
slots_after records table (Release (suc i)) = length-set table i None
slots_after records table Look = refl

slots_along : (records : List Record) (table : List (Option Incident)) (events : List Event) → length (table_along records table events) ≡ length table
slots_along records table [] = refl
slots_along records table (e ∷ es) = slots_along (records ++ records_of_act e.act) (table_after records table e.act) es ∙ slots_after records table e.act

pub opened_is_opening : (members : List ℕ) (settings : Settings) (reading : Reading) → length reading.table ≡ settings.incident_slots → IsOpening (opened members settings reading)
opened_is_opening members settings reading slots = record { slots = slots; first = none (last (records_on (restored members reading) (lead members))) }
  where
    none : (o : Option Record) → stamp_of o None ≡ None → next_after o ≡ 0
    none None e = refl
    none (Some r) e = absurd (clash (record { tick = r.tick; utc = r.utc }) e)
      where
        clash : (s : Stamp) → Some s ≡ None → ⊥
        clash s e = cc

pub reopened_is_opening : (members : List ℕ) (opening : Opening) (events : List Event) (reading : Reading) → IsOpening opening → Shows members opening events reading → IsOpening (opened members opening.settings reading)
reopened_is_opening members opening events reading is shown =
    opened_is_opening members opening.settings reading (ap (λ (t : List (Option Incident)). length t) shown.saves.table ∙ (slots_along (opening.records 1) opening.table events ∙ is.slots))
