-- What media show as an event comes, and as they are opened.
use Rattle.std.proofs.Common.{ℕ, zero, suc, ◌<◌, ◌≤◌, List, [], ◌∷◌, ◌++◌, length, Bool, true, false, All, Contains, set, find, ◌==◌, if◌then◌else◌, Option, Some, None, ◌≡◌, refl, sym, ap, ◌∙◌, subst, arith, append_assoc, append-nil}
use Rattle.std.proofs.lemmas.Bool.{eqb-true}
use Rattle.std.proofs.lemmas.List.Elements.{All-nil, All-cons, All-head, All-tail, All-set, All-weaker, All-contains, All-contains_itself, Contains-append_right}
use Rattle.std.proofs.lemmas.Grind.{flat_map-append}
use Rattle.vdr_terms.specs.Records.{Record, last}
use Rattle.vdr_terms.specs.Order.{AreInOrder}
use Rattle.vdr_terms.specs.Windows.{window}
use Rattle.vdr_core.specs.Histories.{Event, Incident, Opening, Settings, MayCome, all_records, incident_of, incidents, recorded, records_of_act, table_after, table_along, with_slot}
use Rattle.vdr_core.specs.Histories.Act.{Commit, Save, Release}
use Rattle.vdr_core.specs.Taken.{Captured}
use Rattle.vdr_durability.specs.Retention.{Holds, HoldsPlaces, Pin, Retains, at_places, within}
use Rattle.vdr_durability.specs.Regular.{FollowOn}
use Rattle.vdr_durability.proofs.Lists.{all_from, filter_was}
use Rattle.vdr_durability.proofs.Retained.{recent}
use Rattle.vdr_durability.proofs.Ordered.{save_keeps_places}
use Rattle.vdr_durability.specs.Readings.{Reading, AreLevel, AreMembers, EndsMeet, IsPassedOn, ends_before, leading_batch, records_on, restored, with_next}
use Rattle.vdr_durability.specs.Shown.{IsReconciled, Shows, opened, pins_of, pins_on}
use Rattle.vdr_durability.proofs.Meeting.{level_meet}
use Rattle.vdr_durability.proofs.Restored.{follow_is_in_order, level_retained, passed_meet, passed_retained, next_added}

-- The records and the table of a history with one more event.
pub recorded_with : (events : List Event) (e : Event) → recorded (events ++ e ∷ []) ≡ recorded events ++ records_of_act e.act
recorded_with events e = flat_map-append (λ (e : Event). records_of_act e.act) events (e ∷ []) ∙ ap (λ (xs : List Record). recorded events ++ xs) (append-nil (records_of_act e.act))

pub all_records_with : (opening : Opening) (m : ℕ) (events : List Event) (e : Event) → all_records opening m (events ++ e ∷ []) ≡ all_records opening m events ++ records_of_act e.act
all_records_with opening m events e =
    ap (λ (xs : List Record). opening.records m ++ xs) (recorded_with events e) ∙ sym (append_assoc (opening.records m) (recorded events) (records_of_act e.act))

along_with : (records : List Record) (table : List (Option Incident)) (events : List Event) (e : Event)
    → table_along records table (events ++ e ∷ []) ≡ table_after (records ++ recorded events) (table_along records table events) e.act
along_with records table [] e = ap (λ (rs : List Record). table_after rs table e.act) (sym (append-nil records))
along_with records table (x ∷ xs) e =
    along_with (records ++ records_of_act x.act) (table_after records table x.act) xs e
    ∙ ap (λ (rs : List Record). table_after rs (table_along (records ++ records_of_act x.act) (table_after records table x.act) xs) e.act)
    (append_assoc records (records_of_act x.act) (recorded xs))

pub incidents_with : (opening : Opening) (events : List Event) (e : Event) → incidents opening (events ++ e ∷ []) ≡ table_after (all_records opening 1 events) (incidents opening events) e.act
incidents_with opening events e = along_with (opening.records 1) opening.table events e

module _ (members : List ℕ) (opening : Opening) (events : List Event) (e : Event) (reading : Reading) where
  -- The table after the event, and all that a medium was given with it.
  abbrev pub table_with : List (Option Incident)
  table_with = table_after (all_records opening 1 events) (incidents opening events) e.act

  abbrev pub all_with : ℕ → List Record
  all_with m = all_records opening m events ++ records_of_act e.act

  -- What each medium has to show of a history with one more event.
  pub shows_with : AreMembers members → Contains members 1 → reading.text ≡ opening.settings.text → EndsMeet members reading
      → All (λ m. Retains (opening.settings.seconds m) (pins_on m table_with) (all_with m) (records_on (restored members reading) m)) members
      → reading.table ≡ table_with → Shows members opening (events ++ e ∷ []) reading
  shows_with named long text ends media table = record {
    media = record {
      are_members = named;
      text = text;
      ends = ends;
      media = All-weaker (λ m. Retains (opening.settings.seconds m) (pins_on m table_with) (all_with m) (records_on (restored members reading) m))
          (λ m. Retains (opening.settings.seconds m) (pins_on m (incidents opening (events ++ e ∷ []))) (all_records opening m (events ++ e ∷ [])) (records_on (restored members reading) m))
          (λ m h. subst (λ (all : List Record). Retains (opening.settings.seconds m) (pins_on m (incidents opening (events ++ e ∷ []))) all (records_on (restored members reading) m)) (sym (all_records_with opening m events e))
          (subst (λ (t : List (Option Incident)). Retains (opening.settings.seconds m) (pins_on m t) (all_with m) (records_on (restored members reading) m)) (sym (incidents_with opening events e)) h))
          members media;
    };
    saves = record { long_term = long; table = table ∙ sym (incidents_with opening events e) };
  }

  no_more : records_of_act e.act ≡ [] → (m : ℕ) → all_with m ≡ all_records opening m events
  no_more none m = ap (λ (xs : List Record). all_records opening m events ++ xs) none ∙ append-nil (all_records opening m events)

  -- An event without records that changes no table, as a look or an empty commit, shows at once.
  pub shows_silent : records_of_act e.act ≡ [] → table_with ≡ incidents opening events → Shows members opening events reading → Shows members opening (events ++ e ∷ []) reading
  shows_silent none same h = shows_with h.media.are_members h.saves.long_term h.media.text h.media.ends
      (All-weaker (λ m. Retains (opening.settings.seconds m) (pins_on m (incidents opening events)) (all_records opening m events) (records_on (restored members reading) m))
      (λ m. Retains (opening.settings.seconds m) (pins_on m table_with) (all_with m) (records_on (restored members reading) m))
      (λ m k. subst (λ (all : List Record). Retains (opening.settings.seconds m) (pins_on m table_with) all (records_on (restored members reading) m)) (sym (no_more none m))
      (subst (λ (t : List (Option Incident)). Retains (opening.settings.seconds m) (pins_on m t) (all_records opening m events) (records_on (restored members reading) m)) (sym same) k))
      members h.media.media)
      (h.saves.table ∙ sym same)

-- Level media that retain what they were given show it.
pub level_shows : (members : List ℕ) (opening : Opening) (events : List Event) (reading : Reading) → AreMembers members → Contains members 1 → reading.text ≡ opening.settings.text → reading.table ≡ incidents opening events
    → AreLevel members reading → All (λ m. AreInOrder (records_on reading m)) members
    → All (λ m. Retains (opening.settings.seconds m) (pins_on m (incidents opening events)) (all_records opening m events) (records_on reading m)) members
    → Shows members opening events reading
level_shows members opening events reading named long text table level order h = record {
  media = record {
    are_members = named;
    text = text;
    ends = level_meet members reading level;
    media = level_retained members reading opening.settings.seconds (λ m. pins_on m (incidents opening events)) (λ m. all_records opening m events) level order h;
  };
  saves = record { long_term = long; table = table };
}

-- A batch that follows on some medium is in order.
passed_in_order : (given waiting : List ℕ) (batch : List Record) (all : ℕ → List Record) → 0 < length given → All (λ m. FollowOn (last (all m)) batch) (given ++ waiting) → AreInOrder batch
passed_in_order [] waiting batch all some h = absurd (omega (arith, some))
passed_in_order (m ∷ ms) waiting batch all some h = follow_is_in_order (last (all m)) batch (All-head (λ m. FollowOn (last (all m)) batch) m (ms ++ waiting) h)

-- A commit: as soon as the leading medium has the batch, the media show it.
pub commit_shows : (members given waiting : List ℕ) (opening : Opening) (events : List Event) (records : List Record) (taken : List Captured) (moment : Option ℕ) (reading : Reading)
    → AreMembers members → Contains members 1 → reading.text ≡ opening.settings.text → reading.table ≡ incidents opening events
    → IsPassedOn members given waiting records reading → All (λ m. FollowOn (last (all_records opening m events)) records) members
    → All (λ m. Retains (opening.settings.seconds m) (pins_on m (incidents opening events)) (all_records opening m events ++ records) (records_on reading m)) given
    → All (λ m. Retains (opening.settings.seconds m) (pins_on m (incidents opening events)) (all_records opening m events) (records_on reading m)) waiting
    → Shows members opening (events ++ record { act = Commit records taken; moment = moment } ∷ []) reading
commit_shows members given waiting opening events records taken moment reading named long text table passed follow here there =
    shows_with members opening events (record { act = Commit records taken; moment = moment }) reading named long text (passed_meet members given waiting records reading passed)
    (passed_retained members given waiting records reading passed opening.settings.seconds (λ m. pins_on m (incidents opening events))
    (λ m. all_records opening m events) (λ m. all_records opening m events ++ records)
    (passed_in_order given waiting records (λ m. all_records opening m events) passed.some along)
    (all_from Follows waiting (λ m c. All-contains Follows (given ++ waiting) m along (Contains-append_right given waiting m c)))
    (all_from (λ m. all_records opening m events ++ records ≡ all_records opening m events ++ records) waiting (λ m c. refl)) here there)
    table
  where
    Follows : ℕ → Type 0
    Follows m = FollowOn (last (all_records opening m events)) records

    along : All Follows (given ++ waiting)
    along = subst (All Follows) passed.split follow

-- The pins of a table, by its slots.
abbrev pub OnSlot : (Pin → Type 0) → Option Incident → Type 0
OnSlot P None = Unit {0}
OnSlot P (Some i) = P (record { a = i.a; b = i.b })

pub slots_hold : (P : Pin → Type 0) (table : List (Option Incident)) → All P (pins_of table) → All (OnSlot P) table
slots_hold P [] h = All-nil (OnSlot P)
slots_hold P (None ∷ table) h = All-cons (OnSlot P) None table tt (slots_hold P table h)
slots_hold P (Some i ∷ table) h = All-cons (OnSlot P) (Some i) table (All-head P (record { a = i.a; b = i.b }) (pins_of table) h) (slots_hold P table (All-tail P (record { a = i.a; b = i.b }) (pins_of table) h))

pub pins_hold : (P : Pin → Type 0) (table : List (Option Incident)) → All (OnSlot P) table → All P (pins_of table)
pins_hold P [] h = All-nil P
pins_hold P (None ∷ table) h = pins_hold P table (All-tail (OnSlot P) None table h)
pins_hold P (Some i ∷ table) h = All-cons P (record { a = i.a; b = i.b }) (pins_of table) (All-head (OnSlot P) (Some i) table h) (pins_hold P table (All-tail (OnSlot P) (Some i) table h))

-- One slot of a table.
pub slot_written : (P : Pin → Type 0) (table : List (Option Incident)) (id : ℕ) (slot : Option Incident) → OnSlot P slot → All P (pins_of table) → All P (pins_of (with_slot table id slot))
slot_written P table zero slot here h = h
slot_written P table (suc i) slot here h = pins_hold P (set table i slot) (All-set (OnSlot P) table i slot here (slots_hold P table h))

pub saved_slot : (P : Pin → Type 0) (label : List ℕ) (a b : ℕ) (o : Option Record) → P (record { a = a; b = b }) → OnSlot P (incident_of label a b o)
saved_slot P label a b None h = tt
saved_slot P label a b (Some r) h = h

-- A medium retains by other pins what it retained: only the long-term medium has any.
pins_retained : (m seconds : ℕ) (before after : List (Option Incident)) (all held : List Record)
    → (m ≡ 1 → All (λ pin. HoldsPlaces all held pin.a pin.b) (pins_of before) → Holds seconds all held → All (λ pin. HoldsPlaces all held pin.a pin.b) (pins_of after))
    → Retains seconds (pins_on m before) all held → Retains seconds (pins_on m after) all held
pins_retained m seconds before after all held change h = record {
  window = h.window;
  places = go (m == 1) refl h.places;
}
  where
    Pinned : List Pin → Type 0
    Pinned pins = All (λ pin. HoldsPlaces all held pin.a pin.b) pins

    go : (b : Bool) → (m == 1) ≡ b → Pinned (if b then pins_of before else []) → Pinned (if b then pins_of after else [])
    go true e k = change (eqb-true m 1 e) k h.window
    go false e k = k

module _ (members : List ℕ) (opening : Opening) (events : List Event) (moment : Option ℕ) (reading : Reading) where
  abbrev held : ℕ → List Record
  held m = records_on (restored members reading) m

  -- A save or a release writes the table alone.
  written_shows : (e : Event) → records_of_act e.act ≡ [] → Shows members opening events reading
      → (Holds (opening.settings.seconds 1) (all_records opening 1 events) (held 1)
      → All (λ pin. HoldsPlaces (all_records opening 1 events) (held 1) pin.a pin.b) (pins_of (incidents opening events))
      → All (λ pin. HoldsPlaces (all_records opening 1 events) (held 1) pin.a pin.b) (pins_of (table_with members opening events e reading)))
      → Shows members opening (events ++ e ∷ []) (record reading { table = table_with members opening events e reading })
  written_shows e none h change = shows_with members opening events e (record reading { table = table_with members opening events e reading }) h.media.are_members h.saves.long_term h.media.text h.media.ends
      (All-weaker (λ m. Retains (opening.settings.seconds m) (pins_on m (incidents opening events)) (all_records opening m events) (held m))
      (λ m. Retains (opening.settings.seconds m) (pins_on m (table_with members opening events e reading)) (all_with members opening events e reading m) (held m))
      (λ m k. subst (λ (all : List Record). Retains (opening.settings.seconds m) (pins_on m (table_with members opening events e reading)) all (held m)) (sym (no_more members opening events e reading none m))
      (pins_retained m (opening.settings.seconds m) (incidents opening events) (table_with members opening events e reading) (all_records opening m events) (held m) (kept m) k))
      members h.media.media)
      refl
    where
      kept : (m : ℕ) → m ≡ 1 → All (λ pin. HoldsPlaces (all_records opening m events) (held m) pin.a pin.b) (pins_of (incidents opening events)) → Holds (opening.settings.seconds m) (all_records opening m events) (held m)
          → All (λ pin. HoldsPlaces (all_records opening m events) (held m) pin.a pin.b) (pins_of (table_with members opening events e reading))
      kept m is k w = subst (λ (n : ℕ). All (λ pin. HoldsPlaces (all_records opening n events) (held n) pin.a pin.b) (pins_of (table_with members opening events e reading))) (sym is)
          (change (subst (λ (n : ℕ). Holds (opening.settings.seconds n) (all_records opening n events) (held n)) is w)
          (subst (λ (n : ℕ). All (λ pin. HoldsPlaces (all_records opening n events) (held n) pin.a pin.b) (pins_of (incidents opening events))) is k))

  -- A save: the long-term medium already has the incident's records, since an incident is no longer than its window.
  pub save_shows : (id : ℕ) (label : List ℕ) (a b : ℕ) → opening.settings.incident_seconds ≤ opening.settings.seconds 1 → AreInOrder (all_records opening 1 events)
      → MayCome opening events (Save id label a b) → Shows members opening events reading
      → Shows members opening (events ++ record { act = Save id label a b; moment = moment } ∷ []) (record reading { table = table_after (all_records opening 1 events) (incidents opening events) (Save id label a b) })
  save_shows id label a b shorter order may h = written_shows (record { act = Save id label a b; moment = moment }) refl h (λ w k.
      slot_written (λ pin. HoldsPlaces (all_records opening 1 events) (held 1) pin.a pin.b) (incidents opening events) id (incident_of label a b (find (λ r. r.place == b) (all_records opening 1 events)))
      (saved_slot (λ pin. HoldsPlaces (all_records opening 1 events) (held 1) pin.a pin.b) label a b (find (λ r. r.place == b) (all_records opening 1 events))
      (save_keeps_places opening.settings.incident_seconds (opening.settings.seconds 1) (all_records opening 1 events) (held 1) a b shorter order may.1 w)) k)

  -- A release.
  pub release_shows : (id : ℕ) → Shows members opening events reading
      → Shows members opening (events ++ record { act = Release id; moment = moment } ∷ []) (record reading { table = table_after (all_records opening 1 events) (incidents opening events) (Release id) })
  release_shows id h = written_shows (record { act = Release id; moment = moment }) refl h (λ w k.
      slot_written (λ pin. HoldsPlaces (all_records opening 1 events) (held 1) pin.a pin.b) (incidents opening events) id None tt k)

-- What a medium has it retains.
pub retains_itself : (seconds : ℕ) (pins : List Pin) (xs : List Record) → Retains seconds pins xs xs
retains_itself seconds pins xs = record {
  window = record { own = All-contains_itself xs; newest = refl; recent = all_from (Contains xs) (window seconds xs) (λ r k. (recent seconds xs r k).there) };
  places = all_from (λ pin. HoldsPlaces xs xs pin.a pin.b) pins (λ pin _. all_from (Contains xs) (at_places pin.a pin.b xs) (λ r k. filter_was (within pin.a pin.b) xs r k));
}

module _ (members : List ℕ) (settings : Settings) (before reading : Reading) where
  -- What was opened shows itself, with no events yet, wherever each medium retains what it was restored to.
  pub opened_shows : AreMembers members → Contains members 1 → reading.text ≡ settings.text → reading.table ≡ before.table → EndsMeet members reading
      → All (λ m. Retains (settings.seconds m) (pins_on m before.table) (records_on (restored members before) m) (records_on (restored members reading) m)) members
      → Shows members (opened members settings before) [] reading
  opened_shows named long text table ends h = record {
    media = record {
      are_members = named;
      text = text;
      ends = ends;
      media = All-weaker (λ m. Retains (settings.seconds m) (pins_on m before.table) (records_on (restored members before) m) (records_on (restored members reading) m))
          (λ m. Retains (settings.seconds m) (pins_on m before.table) (all_records (opened members settings before) m []) (records_on (restored members reading) m))
          (λ m k. subst (λ (all : List Record). Retains (settings.seconds m) (pins_on m before.table) all (records_on (restored members reading) m)) (sym (append-nil (records_on (restored members before) m))) k)
          members h;
    };
    saves = record { long_term = long; table = table };
  }

  -- While the last batch goes to the media that lack it.
  pub reconciling_shows : (given waiting : List ℕ) (batch : List Record) → AreMembers members → Contains members 1 → reading.text ≡ settings.text → reading.table ≡ before.table
      → leading_batch members before ≡ Some batch → IsPassedOn members given waiting batch reading → AreInOrder batch
      → All (λ m. (ends_before (Some batch) (before.batches m) ≡ true) × FollowOn (last (records_on before m)) batch) waiting
      → All (λ m. Retains (settings.seconds m) (pins_on m before.table) (records_on (restored members before) m) (records_on reading m)) given
      → All (λ m. Retains (settings.seconds m) (pins_on m before.table) (records_on before m) (records_on reading m)) waiting
      → Shows members (opened members settings before) [] reading
  reconciling_shows given waiting batch named long text table leads passed order lacked here there =
      opened_shows named long text table (passed_meet members given waiting batch reading passed)
      (passed_retained members given waiting batch reading passed settings.seconds (λ m. pins_on m before.table) (records_on before) (records_on (restored members before)) order
      (All-weaker Lacked (λ m. FollowOn (last (records_on before m)) batch) (λ m k. k.1) waiting lacked)
      (All-weaker Lacked (λ m. records_on (restored members before) m ≡ records_on before m ++ batch) (λ m k. added m k.0) waiting lacked)
      here there)
    where
      Lacked : ℕ → Type 0
      Lacked m = (ends_before (Some batch) (before.batches m) ≡ true) × FollowOn (last (records_on before m)) batch

      added : (m : ℕ) → ends_before (Some batch) (before.batches m) ≡ true → records_on (restored members before) m ≡ records_on before m ++ batch
      added m e = ap (λ (o : Option (List Record)). records_on (record before { batches = λ m. with_next o (before.batches m) }) m) leads ∙ next_added (before.batches m) batch e

  -- And once they are level.
  pub reconciled_shows : AreMembers members → Contains members 1 → before.text ≡ settings.text → IsReconciled members settings before reading → All (λ m. AreInOrder (records_on reading m)) members
      → Shows members (opened members settings before) [] reading
  reconciled_shows named long text h order = opened_shows named long (h.text ∙ text) h.table (level_meet members reading h.level)
      (level_retained members reading settings.seconds (λ m. pins_on m before.table) (λ m. records_on (restored members before) m) h.level order h.media)
