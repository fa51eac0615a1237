-- A further run and the one before it are one history.
use Rattle.std.proofs.Common.{ℕ, suc, ◌<◌, ◌≤◌, List, [], ◌∷◌, ◌++◌, length, Bool, true, false, All, Contains, find, ◌==◌, if◌then◌else◌, is_none, position, option_map, slice_get, Option, Some, None, ◌≡◌, refl, sym, ap, ◌∙◌, subst, arith, append_assoc, append-nil, length-append}
use Rattle.std.proofs.lemmas.Bool.{cond-true, cond_both, eq-eqb, eqb-true}
use Rattle.std.proofs.lemmas.List.Elements.{All-nil, All-contains, All-weaker}
use Rattle.std.proofs.lemmas.Grind.{flat_map-append}
use Rattle.vdr_terms.specs.Records.{Record, last, last_after}
use Rattle.vdr_terms.specs.Order.{AreInOrder}
use Rattle.vdr_terms.specs.Windows.{HasWindowPlaces}
use Rattle.vdr_core.specs.Histories.{Act, Event, Incident, Opening, Continues, MayCome, MayFollow, all_records, incident_of, incidents, live, next_place, recorded, records_of_act, table_after, with_slot}
use Rattle.vdr_core.specs.Histories.Act.{Commit, Save, Release, Look}
use Rattle.vdr_durability.specs.Retention.{AreAmong, Holds, HoldsPlaces, Pin, Retains, at_places, within}
use Rattle.vdr_durability.proofs.Appended.{holds_less}
use Rattle.vdr_durability.proofs.Lists.{all_from, contains_filter, filter_test, last_contained}
use Rattle.vdr_durability.proofs.Ordered.{IsBefore, append_in_order, no_earlier, no_later, parts_in_order, same_window, save_keeps_places}
use Rattle.vdr_durability.proofs.Retained.{append_keeps, append_keeps_places}
use Rattle.vdr_durability.specs.Readings.{Reading, records_on, restored}
use Rattle.vdr_durability.specs.Shown.{Shows, opened, pins_of, pins_on}
use Rattle.vdr_durability.proofs.Reopened.{reopened_goes_on}
use Rattle.vdr_durability.proofs.Shows.{all_records_with, incidents_with, recorded_with, saved_slot, slot_written}
use Rattle.vdr_durability.specs.FurtherRuns.{IsTwoRuns}

-- What is held of what is held is held.
holds_again : (seconds : ℕ) (all mid held : List Record) → AreInOrder all → AreInOrder mid → Holds seconds all mid → Holds seconds mid held → Holds seconds all held
holds_again seconds all mid held order order' h k = record {
  own = all_from (Contains all) held (λ r m. All-contains (Contains all) mid r h.own (All-contains (Contains mid) held r k.own m));
  newest = k.newest ∙ h.newest;
  recent = subst (λ (rs : List Record). AreAmong rs held) (same_window seconds all mid order order' h) k.recent;
}

places_again : (all mid held : List Record) (a b : ℕ) → HoldsPlaces all mid a b → HoldsPlaces mid held a b → HoldsPlaces all held a b
places_again all mid held a b h k = all_from (Contains held) (at_places a b all)
    (λ r m. All-contains (Contains held) (at_places a b mid) r k
    (contains_filter (within a b) mid r (All-contains (Contains mid) (at_places a b all) r h m) (filter_test (within a b) all r m)))

-- The record of the last place is the last one.
find_later : (x : Record) (xs : List Record) (b : ℕ) → AreInOrder (x ∷ xs) → (last_after x xs).place ≡ b → find (λ r. r.place == b) (x ∷ xs) ≡ Some (last_after x xs)
find_later x [] b order e = cond-true (x.place == b) (Some x) None (eq-eqb x.place b e)
find_later x (y ∷ ys) b order e =
    cond_both (x.place == b) (Some x) (find (λ r. r.place == b) (y ∷ ys)) (λ (o : Option Record). o ≡ Some (last_after y ys))
    (λ t. absurd (lower (last_after y ys) (All-contains (IsBefore x) (y ∷ ys) (last_after y ys) order.0 (last_contained (y ∷ ys) (last_after y ys) refl)).0 e (eqb-true x.place b t)))
    (λ _. find_later y ys b order.1 e)
  where
    lower : (l : Record) → x.place < l.place → l.place ≡ b → x.place ≡ b → ⊥
    lower l p q r = omega (arith, p, q, r)

find_last : (xs : List Record) (b : ℕ) → AreInOrder xs → option_map (λ r. r.place) (last xs) ≡ Some b → find (λ r. r.place == b) xs ≡ last xs
find_last [] b order e = refl
find_last (x ∷ xs) b order e = find_later x xs b order (is (last_after x xs).place b e)
  where
    is : (a b : ℕ) → Some a ≡ Some b → a ≡ b
    is a b e = cc

-- A window of no more seconds begins and ends where that of all does.
window_places : (inc seconds : ℕ) (all held : List Record) (a b : ℕ) → inc ≤ seconds → AreInOrder all → AreInOrder held → Holds seconds all held → HasWindowPlaces inc held a b → HasWindowPlaces inc all a b
window_places inc seconds all held a b le order order' h w = record {
  first = ap (λ (rs : List Record). option_map (λ r. r.place) (slice_get rs 0)) (sym (same_window inc all held order order' (holds_less inc seconds all held le h))) ∙ w.first;
  newest = ap (λ (o : Option Record). option_map (λ r. r.place) o) (sym h.newest) ∙ w.newest;
}

abbrev HeldPins : (all held : List Record) → List (Option Incident) → Type 0
HeldPins all held table = All (λ pin. HoldsPlaces all held pin.a pin.b) (pins_of table)

-- What one act makes of two tables that are the same, and of the places that are held.
module _ (inc seconds : ℕ) (all held : List Record) (le : inc ≤ seconds) (order : AreInOrder all) (order' : AreInOrder held) (h : Holds seconds all held) where
  found_same : (a b : ℕ) → HasWindowPlaces inc held a b → find (λ r. r.place == b) all ≡ find (λ r. r.place == b) held
  found_same a b w =
      let v = window_places inc seconds all held a b le order order' h w in
      find_last all b order v.newest ∙ sym h.newest ∙ sym (find_last held b order' w.newest)

  same_save : (id : ℕ) (label : List ℕ) (a b : ℕ) (table : List (Option Incident)) → HasWindowPlaces inc held a b → table_after all table (Save id label a b) ≡ table_after held table (Save id label a b)
  same_save id label a b table w = ap (λ (o : Option Record). with_slot table id (incident_of label a b o)) (found_same a b w)

  held_save : (id : ℕ) (label : List ℕ) (a b : ℕ) (table : List (Option Incident)) → HasWindowPlaces inc held a b → HeldPins all held table → HeldPins all held (table_after held table (Save id label a b))
  held_save id label a b table w k =
      slot_written (λ pin. HoldsPlaces all held pin.a pin.b) table id (incident_of label a b (find (λ r. r.place == b) held))
      (saved_slot (λ pin. HoldsPlaces all held pin.a pin.b) label a b (find (λ r. r.place == b) held)
      (save_keeps_places inc seconds all held a b le order (window_places inc seconds all held a b le order order' h w) h)) k

  held_release : (id : ℕ) (table : List (Option Incident)) → HeldPins all held table → HeldPins all held (table_after held table (Release id))
  held_release id table k = slot_written (λ pin. HoldsPlaces all held pin.a pin.b) table id None tt k

-- What further records leave of it.
held_more : (all held more : List Record) (table : List (Option Incident)) → HeldPins all held table → HeldPins (all ++ more) (held ++ more) table
held_more all held more table k = All-weaker (λ pin. HoldsPlaces all held pin.a pin.b) (λ pin. HoldsPlaces (all ++ more) (held ++ more) pin.a pin.b)
    (λ pin p. append_keeps_places all held more pin.a pin.b p) (pins_of table) k

all_with_more : (opening : Opening) (m : ℕ) (first second : List Event) → all_records opening m (first ++ second) ≡ all_records opening m first ++ recorded second
all_with_more opening m first second =
    ap (λ (rs : List Record). opening.records m ++ rs) (flat_map-append (λ (e : Event). records_of_act e.act) first second)
    ∙ sym (append_assoc (opening.records m) (recorded first) (recorded second))

module _ (op op1 : Opening) (first : List Event) (same_settings : op1.settings ≡ op.settings) (le : op.settings.incident_seconds ≤ op.settings.seconds 1) where
  -- After these events of the second run.
  record Joined (before : List Event) : Type 0 where
    pub same : incidents op1 before ≡ incidents op (first ++ before)
    pub window : Holds (op.settings.seconds 1) (all_records op 1 (first ++ before)) (all_records op1 1 before)
    pub pins : HeldPins (all_records op 1 (first ++ before)) (all_records op1 1 before) (incidents op1 before)
    pub next : next_place op1 before ≡ next_place op (first ++ before)

  module _ (before : List Event) (j : Joined before) (order : AreInOrder (all_records op 1 (first ++ before))) (order' : AreInOrder (all_records op1 1 before)) where
    act_table : (act : Act) → MayCome op1 before act
        → (table_after (all_records op 1 (first ++ before)) (incidents op1 before) act ≡ table_after (all_records op1 1 before) (incidents op1 before) act)
        × HeldPins (all_records op 1 (first ++ before)) (all_records op1 1 before) (table_after (all_records op1 1 before) (incidents op1 before) act)
    act_table (Commit records taken) may = (refl, j.pins)
    act_table (Save id label a b) may =
        let w = subst (λ (n : ℕ). HasWindowPlaces n (all_records op1 1 before) a b) (ap (λ t. t.incident_seconds) same_settings) may.1 in (
          same_save op.settings.incident_seconds (op.settings.seconds 1) (all_records op 1 (first ++ before)) (all_records op1 1 before) le order order' j.window id label a b (incidents op1 before) w,
          held_save op.settings.incident_seconds (op.settings.seconds 1) (all_records op 1 (first ++ before)) (all_records op1 1 before) le order order' j.window id label a b (incidents op1 before) w j.pins,
        )
    act_table (Release id) may = (refl, held_release op.settings.incident_seconds (op.settings.seconds 1) (all_records op 1 (first ++ before)) (all_records op1 1 before) le order order' j.window id (incidents op1 before) j.pins)
    act_table Look may = (refl, j.pins)

    may_come : (act : Act) → MayCome op1 before act → MayCome op (first ++ before) act
    may_come (Commit records taken) may =
        subst (λ (n : ℕ). Continues op.settings.channels n records) j.next (subst (λ c. Continues c (next_place op1 before) records) (ap (λ t. t.channels) same_settings) may)
    may_come (Save id label a b) may = (
      subst (λ (t : List (Option Incident)). option_map suc (position is_none t) ≡ Some id) j.same may.0,
      window_places op.settings.incident_seconds (op.settings.seconds 1) (all_records op 1 (first ++ before)) (all_records op1 1 before) a b le order order' j.window
          (subst (λ (n : ℕ). HasWindowPlaces n (all_records op1 1 before) a b) (ap (λ t. t.incident_seconds) same_settings) may.1),
    )
    may_come (Release id) may = (may.0, subst (λ (t : List (Option Incident)). live t id ≡ Some may.0) j.same may.1)
    may_come Look may = tt

    one_more : (e : Event) → MayCome op1 before e.act → AreInOrder (all_records op 1 (first ++ before) ++ records_of_act e.act) → Joined (before ++ e ∷ [])
    one_more e may longer = record {
      same = incidents_with op1 before e ∙ (sym t.0 ∙ (ap (λ (t : List (Option Incident)). table_after (all_records op 1 (first ++ before)) t e.act) j.same ∙ (sym (incidents_with op (first ++ before) e) ∙ ap (λ (es : List Event). incidents op es) (append_assoc first before (e ∷ [])))));
      window = subst (λ (rs : List Record). Holds (op.settings.seconds 1) rs (all_records op1 1 (before ++ e ∷ []))) (sym grown)
          (subst (λ (rs : List Record). Holds (op.settings.seconds 1) (all_records op 1 (first ++ before) ++ records_of_act e.act) rs) (sym grown')
          (append_keeps (op.settings.seconds 1) (all_records op 1 (first ++ before)) (all_records op1 1 before) (records_of_act e.act) (no_earlier (all_records op 1 (first ++ before)) (records_of_act e.act) longer) j.window));
      pins = subst (λ (rs : List Record). HeldPins rs (all_records op1 1 (before ++ e ∷ [])) (incidents op1 (before ++ e ∷ []))) (sym grown)
          (subst (λ (rs : List Record). HeldPins (all_records op 1 (first ++ before) ++ records_of_act e.act) rs (incidents op1 (before ++ e ∷ []))) (sym grown')
          (subst (λ (t : List (Option Incident)). HeldPins (all_records op 1 (first ++ before) ++ records_of_act e.act) (all_records op1 1 before ++ records_of_act e.act) t) (sym (incidents_with op1 before e))
          (held_more (all_records op 1 (first ++ before)) (all_records op1 1 before) (records_of_act e.act) (table_after (all_records op1 1 before) (incidents op1 before) e.act) t.1)));
      next =
          let a = ap (λ (rs : List Record). length rs) (recorded_with before e) in
          let b = length-append (recorded before) (records_of_act e.act) in
          let c = ap (λ (rs : List Record). length rs) (ap (λ (es : List Event). recorded es) (sym (append_assoc first before (e ∷ []))) ∙ recorded_with (first ++ before) e) in
          let d = length-append (recorded (first ++ before)) (records_of_act e.act) in
          let n = j.next in
          omega (arith, a, b, c, d, n);
    }
      where
        t : (table_after (all_records op 1 (first ++ before)) (incidents op1 before) e.act ≡ table_after (all_records op1 1 before) (incidents op1 before) e.act)
            × HeldPins (all_records op 1 (first ++ before)) (all_records op1 1 before) (table_after (all_records op1 1 before) (incidents op1 before) e.act)
        t = act_table e.act may

        grown : all_records op 1 (first ++ (before ++ e ∷ [])) ≡ all_records op 1 (first ++ before) ++ records_of_act e.act
        grown = ap (λ (es : List Event). all_records op 1 es) (sym (append_assoc first before (e ∷ []))) ∙ all_records_with op 1 (first ++ before) e

        grown' : all_records op1 1 (before ++ e ∷ []) ≡ all_records op1 1 before ++ records_of_act e.act
        grown' = all_records_with op1 1 before e

  further : (before events : List Event) → Joined before → MayFollow op1 before events → AreInOrder (all_records op 1 (first ++ before) ++ recorded events) → AreInOrder (all_records op1 1 before ++ recorded events)
      → Joined (before ++ events) × MayFollow op (first ++ before) events
  further before [] j follow order order' = (subst Joined (sym (append-nil before)) j, tt)
  further before (e ∷ es) j (may, follow) order order' =
      let p = parts_in_order (all_records op 1 (first ++ before)) (recorded (e ∷ es)) order in
      let p' = parts_in_order (all_records op1 1 before) (recorded (e ∷ es)) order' in
      let a = subst AreInOrder (sym (append_assoc (all_records op 1 (first ++ before)) (records_of_act e.act) (recorded es))) order in
      let a' = subst AreInOrder (sym (append_assoc (all_records op1 1 before) (records_of_act e.act) (recorded es))) order' in
      let k = one_more before j p.0 p'.0 e may (parts_in_order (all_records op 1 (first ++ before) ++ records_of_act e.act) (recorded es) a).0 in
      let r = further (before ++ e ∷ []) es k follow
      (subst (λ (rs : List Record). AreInOrder (rs ++ recorded es)) (sym (ap (λ (es : List Event). all_records op 1 es) (sym (append_assoc first before (e ∷ []))) ∙ all_records_with op 1 (first ++ before) e)) a)
      (subst (λ (rs : List Record). AreInOrder (rs ++ recorded es)) (sym (all_records_with op1 1 before e)) a') in (
        subst Joined (append_assoc before (e ∷ []) es) r.0,
        (may_come before j p.0 p'.0 e.act may, subst (λ (xs : List Event). MayFollow op xs es) (sym (append_assoc first before (e ∷ []))) r.1),
      )

follow_joined : (opening : Opening) (before first second : List Event) → MayFollow opening before first → MayFollow opening (before ++ first) second → MayFollow opening before (first ++ second)
follow_joined opening before [] second h k = subst (λ (es : List Event). MayFollow opening es second) (append-nil before) k
follow_joined opening before (e ∷ es) second (may, h) k =
    (may, follow_joined opening (before ++ e ∷ []) es second h (subst (λ (xs : List Event). MayFollow opening xs second) (sym (append_assoc before (e ∷ []) es)) k))

-- What follows on what is held follows on all.
order_joined : (all held more : List Record) → AreInOrder all → AreInOrder (held ++ more) → last held ≡ last all → AreInOrder (all ++ more)
order_joined [] [] more order both e = both
order_joined [] (y ∷ ys) more order both e = absurd (no e)
  where
    no : Some (last_after y ys) ≡ None → ⊥
    no e = cc
order_joined (x ∷ xs) held more order both e =
    let p = parts_in_order held more both in
    append_in_order (x ∷ xs) more order p.1 (λ a b m n.
    let c = no_later x xs a order m in
    let d = p.2 (last_after x xs) b (last_contained held (last_after x xs) e) n in
    let c0 = c.0 in let c1 = c.1 in let d0 = d.0 in let d1 = d.1 in
    (omega (arith, c0, d0), omega (arith, c1, d1)))

module _ (members : List ℕ) (op : Opening) (first : List Event) (between : Reading) (second : List Event) (after : Reading) (h : IsTwoRuns members op first between second after) where
  abbrev op1 : Opening
  op1 = opened members op.settings between

  abbrev Kept : ℕ → Type 0
  Kept m = Retains (op.settings.seconds m) (pins_on m (incidents op first)) (all_records op m first) (records_on (restored members between) m)

  abbrev KeptAgain : ℕ → Type 0
  KeptAgain m = Retains (op.settings.seconds m) (pins_on m (incidents op1 second)) (all_records op1 m second) (records_on (restored members after) m)

  kept : (m : ℕ) → Contains members m → Kept m
  kept m there = All-contains Kept members m h.shown.media.media there

  kept_again : (m : ℕ) → Contains members m → KeptAgain m
  kept_again m there = All-contains KeptAgain members m h.shown_again.media.media there

  order_of : (m : ℕ) → Contains members m → AreInOrder (all_records op m first ++ recorded second)
  order_of m there = order_joined (all_records op m first) (records_on (restored members between) m) (recorded second) (h.order m there) (h.order_again m there) (kept m there).window.newest

  base : Joined op op1 first refl h.longer []
  base = record {
    same = h.shown.saves.table ∙ ap (λ (es : List Event). incidents op es) (sym (append-nil first));
    window = subst (λ (es : List Event). Holds (op.settings.seconds 1) (all_records op 1 es) (all_records op1 1 [])) (sym (append-nil first))
        (subst (λ (rs : List Record). Holds (op.settings.seconds 1) (all_records op 1 first) rs) (sym (append-nil (records_on (restored members between) 1))) (kept 1 h.shown.saves.long_term).window);
    pins = subst (λ (es : List Event). HeldPins (all_records op 1 es) (all_records op1 1 []) (incidents op1 [])) (sym (append-nil first))
        (subst (λ (rs : List Record). HeldPins (all_records op 1 first) rs (incidents op1 [])) (sym (append-nil (records_on (restored members between) 1)))
        (subst (λ (t : List (Option Incident)). HeldPins (all_records op 1 first) (records_on (restored members between) 1) t) (sym h.shown.saves.table) (kept 1 h.shown.saves.long_term).places));
    next =
        let goes = (reopened_goes_on members op first op.settings between h.leads h.goes_on h.follow h.shown).0 in
        let same = ap (λ (es : List Event). next_place op es) (append-nil first) in
        omega (arith, goes, same);
  }

  all_joined : Joined op op1 first refl h.longer second × MayFollow op (first ++ []) second
  all_joined = further op op1 first refl h.longer [] second base h.again
      (subst (λ (es : List Event). AreInOrder (all_records op 1 es ++ recorded second)) (sym (append-nil first)) (order_of 1 h.shown.saves.long_term))
      (subst (λ (rs : List Record). AreInOrder (rs ++ recorded second)) (sym (append-nil (records_on (restored members between) 1))) (h.order_again 1 h.shown.saves.long_term))

  pub lives_follow : MayFollow op [] (first ++ second)
  lives_follow = follow_joined op [] first second h.follow (subst (λ (es : List Event). MayFollow op es second) (append-nil first) all_joined.1)

  holds_at : (m : ℕ) (there : Contains members m) → Holds (op.settings.seconds m) (all_records op m first ++ recorded second) (records_on (restored members after) m)
  holds_at m there =
      holds_again (op.settings.seconds m) (all_records op m first ++ recorded second) (all_records op1 m second) (records_on (restored members after) m) (order_of m there) (h.order_again m there)
      (append_keeps (op.settings.seconds m) (all_records op m first) (records_on (restored members between) m) (recorded second) (no_earlier (all_records op m first) (recorded second) (order_of m there)) (kept m there).window)
      (kept_again m there).window

  places_at : (m : ℕ) → Contains members m → All (λ pin. HoldsPlaces (all_records op m first ++ recorded second) (records_on (restored members after) m) pin.a pin.b) (pins_on m (incidents op1 second))
  places_at m there = go (m == 1) refl (kept_again m there).places
    where
      Again : ℕ → List Pin → Type 0
      Again n pins = All (λ pin. HoldsPlaces (all_records op1 n second) (records_on (restored members after) n) pin.a pin.b) pins

      Whole : ℕ → List Pin → Type 0
      Whole n pins = All (λ pin. HoldsPlaces (all_records op n first ++ recorded second) (records_on (restored members after) n) pin.a pin.b) pins

      on_one : Again 1 (pins_of (incidents op1 second)) → Whole 1 (pins_of (incidents op1 second))
      on_one k = all_from (λ pin. HoldsPlaces (all_records op 1 first ++ recorded second) (records_on (restored members after) 1) pin.a pin.b) (pins_of (incidents op1 second))
          (λ pin c. places_again (all_records op 1 first ++ recorded second) (all_records op1 1 second) (records_on (restored members after) 1) pin.a pin.b
          (All-contains (λ pin. HoldsPlaces (all_records op 1 first ++ recorded second) (all_records op1 1 second) pin.a pin.b) (pins_of (incidents op1 second)) pin
          (subst (λ (rs : List Record). HeldPins rs (all_records op1 1 second) (incidents op1 second)) (all_with_more op 1 first second) all_joined.0.pins) c)
          (All-contains (λ pin. HoldsPlaces (all_records op1 1 second) (records_on (restored members after) 1) pin.a pin.b) (pins_of (incidents op1 second)) pin k c))

      go : (b : Bool) → (m == 1) ≡ b → Again m (if b then pins_of (incidents op1 second) else []) → Whole m (if b then pins_of (incidents op1 second) else [])
      go true e k = subst (λ (n : ℕ). Whole n (pins_of (incidents op1 second))) (sym (eqb-true m 1 e)) (on_one (subst (λ (n : ℕ). Again n (pins_of (incidents op1 second))) (eqb-true m 1 e) k))
      go false e k = All-nil (λ pin. HoldsPlaces (all_records op m first ++ recorded second) (records_on (restored members after) m) pin.a pin.b)

  pub lives_order : (m : ℕ) → Contains members m → AreInOrder (all_records op m (first ++ second))
  lives_order m there = subst AreInOrder (sym (all_with_more op m first second)) (order_of m there)

  pub lives_show : Shows members op (first ++ second) after
  lives_show = record {
    media = record {
      are_members = h.shown_again.media.are_members;
      text = h.shown_again.media.text;
      ends = h.shown_again.media.ends;
      media = all_from (λ m. Retains (op.settings.seconds m) (pins_on m (incidents op (first ++ second))) (all_records op m (first ++ second)) (records_on (restored members after) m)) members
          (λ m there. subst (λ (t : List (Option Incident)). Retains (op.settings.seconds m) (pins_on m t) (all_records op m (first ++ second)) (records_on (restored members after) m)) all_joined.0.same
          (subst (λ (rs : List Record). Retains (op.settings.seconds m) (pins_on m (incidents op1 second)) rs (records_on (restored members after) m)) (sym (all_with_more op m first second))
          (record { window = holds_at m there; places = places_at m there })));
    };
    saves = record { long_term = h.shown_again.saves.long_term; table = h.shown_again.saves.table ∙ all_joined.0.same };
  }
