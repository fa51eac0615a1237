-- An incident is saved: what the history has of it, and what the long-term medium.
use Rattle.std.proofs.Common.{◌≡◌, inl, inr, ⊎_elim, ◌<◌, ◌≤◌, ◌-◌, ◌==◌, ℕ, ℤ, zero, suc, Bool, true, false, List, [], ◌∷◌, ◌++◌, length, find, option_map, Option, None, Some, Result, Ok, Err, OnOk, refl, sym, ap, ◌∙◌, subst, arith, ◌/◌}
use Rattle.std.specs.Prelude.{IfOk, IsErr, is_none, position, slice_get}
use Rattle.std.proofs.lemmas.Option.{none-some, same_Some}
use Rattle.std.proofs.lemmas.List.Elements.{All-contains}
use Rattle.std.proofs.lemmas.Result.{IfOk-from_err}
use Rattle.vdr_terms.specs.Legality.{IsRecord}
use Rattle.vdr_terms.specs.Needs.{cost, usable}
use Rattle.vdr_terms.specs.Order.{AreInOrder as RecordsAreInOrder, RunOn}
use Rattle.vdr_terms.specs.Stamps.{IsStamp}
use Rattle.vdr_terms.specs.Records.{Record, last, second}
use Rattle.vdr_terms.specs.Windows.{window}
use Rattle.vdr_core.specs.Histories.{Event, Incident, MayCome, Opening, Settings, incident_of, incidents, records_of_act, stamp_of, table_after, with_slot}
use Rattle.vdr_core.specs.Histories.Act.{Save}
use Rattle.vdr_durability.proofs.Appended.{holds_less}
use Rattle.vdr_durability.proofs.Lists.{last_contained}
use Rattle.vdr_durability.proofs.Ordered.{same_window, save_keeps_places}
use Rattle.vdr_durability.specs.Readings.{next_after}
use Rattle.vdr_durability.specs.Shown.{given_with}
use Rattle.vdr_durability.proofs.Shows.{incidents_with}
use Rattle.vdr_outside.specs.Disk.{Disk, SameBut, Unchanged, content}
use Rattle.vdr_outside.specs.Moments.{ChangesOnly, Settled}
use Rattle.vdr_outside.proofs.Moments.{moments_after_reads, moments_and_reads, moments_none, moments_weaken, unchanged_now}
use Rattle.vdr_config.specs.Configuration.{IsConfiguration}
use Rattle.vdr_config.specs.Sizes.{sizes_of}
use Rattle.vdr_terms.specs.Texts.{is_label}
use Rattle.vdr_incident.specs.Saves.{IsSave}
use Rattle.vdr_incident.specs.Tables.{HoldsBeside, HoldsEither, HoldsTable}
use Rattle.vdr_incident.proofs.Ids.{free_held}
use Rattle.vdr_directory.specs.Sequence.{Placed, all_records}
use Rattle.vdr_directory.specs.Lookup.{HoldAll}
use Rattle.vdr_ring.proofs.Beginning.{legal_batches}
use Rattle.vdr_ring.proofs.Medium.{in_order_records}
use Rattle.vdr_vault.specs.Saves.{Saves, first_in_window, refusal_from, save_refusal}
use Rattle.vdr_vault.specs.Vaults.{HoldsHistory, VaultState, Stands, of_stamp, ring_of}
use Rattle.vdr_vault.specs.declared.refused.SaveRefused.{SaveRefused}
use Rattle.vdr_ring.proofs.Continuing.{one_end}
use Rattle.vdr_vault.proofs.SlotWritten.{table_settled, MayStand, slot_written, IsWritten, written_does}
use Rattle.vdr_vault.proofs.SavePlaces.{IsFirst, a_first, find_last, first_is, first_there, spans, unbroken_holds}
use Rattle.vdr_ring.proofs.Records.{all_legal}
use Rattle.vdr_directory.specs.Order.{AreInOrder}
use Rattle.vdr_directory.specs.Holds.{Tells}
use Rattle.vdr_ring.specs.Rings.{Reads}
use Rattle.vdr_durability.proofs.Unbroken.{unbroken_less}
use Rattle.vdr_vault.specs.Plays.{ReadsOn}
use Rattle.vdr_ring.specs.Walks.{HasRead}
use Rattle.vdr_vault.proofs.Playing.{stands_still}

-- What an accepted save has.
pub record IsAccepted (labelled : Bool) (newest : Option (ℕ × ℤ)) (free : Option ℕ) : Type 0 where
  pub label : labelled ≡ true
  pub stamp : (s : ℕ × ℤ) × (newest ≡ Some s)
  pub slot : (slot : ℕ) × (free ≡ Some slot)

accepted_by : (labelled : Bool) (newest : Option (ℕ × ℤ)) (free : Option ℕ) → refusal_from labelled newest free ≡ None → IsAccepted labelled newest free
accepted_by false newest free is = absurd (none-some _ (sym is))
accepted_by true None free is = absurd (none-some _ (sym is))
accepted_by true (Some stamp) None is = absurd (none-some _ (sym is))
accepted_by true (Some stamp) (Some slot) is = record { label = refl; stamp = (stamp, refl); slot = (slot, refl) }

held_within : (table : List (Option Incident)) (slot : ℕ) (x : Option Incident) → slice_get table slot ≡ Some x → slot < length table
held_within [] slot x is = absurd (none-some x is)
held_within (s ∷ table) zero x is = omega arith
held_within (s ∷ table) (suc slot) x is = let a = held_within table slot x is in omega (arith, a)

-- The last record of both media.
pub record IsNewest (opening : Opening) (events : List Event) (vault : VaultState) (placed : ℕ → List Placed) (tick : ℕ) (utc : ℤ) : Type 0 where
  pub r : Record
  pub ends : last (all_records (placed 1)) ≡ Some r
  pub given : last (given_with opening events 1) ≡ Some r
  pub tick_is : r.tick ≡ tick
  pub utc_is : r.utc ≡ utc
  pub next : vault.next_place ≡ suc r.place

module _ {tells tells_images : Type 0} (opening : Opening) (events : List Event) (vault : VaultState) (placed : ℕ → List Placed) (old : Disk tells tells_images)
    (stands : Stands opening events vault placed old) where
  capsule : HoldsHistory opening events vault.config 0 (ring_of vault 0) (placed 0) old
  capsule = stands.media 0 0 (omega arith)

  long_term : HoldsHistory opening events vault.config 1 (ring_of vault 1) (placed 1) old
  long_term = stands.media 1 1 (omega arith)

  same_end : last (all_records (placed 1)) ≡ last (all_records (placed 0))
  same_end = one_end (cost (sizes_of vault.config)) (usable (sizes_of vault.config)) vault.config.batch (placed 1) (placed 0) long_term.regular capsule.regular (stands.level 1 1 (omega arith))

  pub newest_record : (tick : ℕ) (utc : ℤ) → vault.last ≡ Some (tick, utc) → IsNewest opening events vault placed tick utc
  newest_record tick utc is = go (last (all_records (placed 0))) refl
    where
      told_by : (o : Option Record) → last (all_records (placed 0)) ≡ o → option_map of_stamp (stamp_of o None) ≡ Some (tick, utc)
      told_by o e = ap (λ (o : Option Record). option_map of_stamp (stamp_of o None)) (sym e) ∙ ap (option_map of_stamp) (sym stands.stamp) ∙ sym stands.newest ∙ is

      go : (o : Option Record) → last (all_records (placed 0)) ≡ o → IsNewest opening events vault placed tick utc
      go None e = absurd (none-some (tick, utc) (told_by None e))
      go (Some r) e =
          let same : (r.tick, r.utc) ≡ (tick, utc) = same_Some (r.tick, r.utc) (tick, utc) (told_by (Some r) e) in
          record {
            r = r;
            ends = same_end ∙ e;
            given = sym long_term.retains.window.newest ∙ same_end ∙ e;
            tick_is = ap (λ (p : ℕ × ℤ). p.0) same;
            utc_is = ap (λ (p : ℕ × ℤ). p.1) same;
            next = stands.goes_on ∙ stands.place ∙ ap next_after e;
          }

-- The incident that begins at this place.
abbrev pub incident_at : VaultState → List ℕ → (a tick : ℕ) → ℤ → Incident
incident_at vault label a tick utc = record { label = label; a = a; b = vault.next_place - 1; stamp = record { tick = tick; utc = utc } }

-- All its places are on the long-term medium.
abbrev pub HasPlaces : VaultState → ℕ → Type 0
HasPlaces vault a = (ps : List Placed) → Tells (ring_of vault 1).slots ps (ring_of vault 1).directory → AreInOrder ps → HoldAll a (vault.next_place - 1) ps

-- They are not, or it is not legal.
abbrev pub IsNone : VaultState → List ℕ → (a tick : ℕ) → ℤ → Type 0
IsNone vault label a tick utc = (ps : List Placed) → Tells (ring_of vault 1).slots ps (ring_of vault 1).directory → AreInOrder ps → HoldAll a (vault.next_place - 1) ps
    → IsSave (incident_at vault label a tick utc) → ⊥

module _ {tells tells_images : Type 0} where
  -- An incident may be saved under this label and this stamp.
  pub record MaySave (opening : Opening) (events : List Event) (vault : VaultState) (placed : ℕ → List Placed) (disk : Disk tells tells_images) (label : List ℕ) (tick : ℕ) (utc : ℤ) : Type 0 where
    pub stands : Stands opening events vault placed disk
    pub legal : IsConfiguration vault.config
    pub accepted : save_refusal label vault ≡ None
    pub stamped : vault.last ≡ Some (tick, utc)

  -- It may be so after a read.
  pub may_still : (opening : Opening) (events : List Event) (old new : VaultState) (placed : ℕ → List Placed) (before now : Disk tells tells_images) (label : List ℕ) (tick : ℕ) (utc : ℤ) → ReadsOn 1 old new
      → HasRead (ring_of old 1) (ring_of new 1) before now → MaySave opening events old placed before label tick utc → MaySave opening events new placed now label tick utc
  may_still opening events old new placed before now label tick utc vault read may = record {
    stands = stands_still 1 old new before now vault read opening events placed may.stands;
    legal = subst (λ (s : VaultState). IsConfiguration s.config) (sym vault.vault) may.legal;
    accepted = ap (save_refusal label) vault.vault ∙ may.accepted;
    stamped = ap (λ (s : VaultState). s.last) vault.vault ∙ may.stamped;
  }

module _ {tells tells_images : Type 0} (opening : Opening) (events : List Event) (vault : VaultState) (placed : ℕ → List Placed) (old : Disk tells tells_images) (label : List ℕ) (tick : ℕ) (utc : ℤ)
    (may : MaySave opening events vault placed old label tick utc) where
  pub accepts : IsAccepted (is_label label) vault.last (position is_none vault.table)
  accepts = accepted_by (is_label label) vault.last (position is_none vault.table) may.accepted

  long : HoldsHistory opening events vault.config 1 (ring_of vault 1) (placed 1) old
  long = may.stands.media 1 1 (omega arith)

  newest : IsNewest opening events vault placed tick utc
  newest = newest_record opening events vault placed old may.stands tick utc may.stamped

  some : 0 < vault.config.incident_seconds
  some = may.legal.incident_low

  -- What is said of the last record's second is said of this one's.
  pub by_newest : (T : List Placed → Type 0) → tells
      → ((ps : List Placed) (newest : Record) → tells → Reads (ring_of vault 1) ps old → last (all_records ps) ≡ Some newest → second newest.tick ≡ tick / 1000 → T ps) → T (placed 1)
  by_newest T told said = said (placed 1) newest.r told long.reads newest.ends (ap second newest.tick_is)

  -- The first place of its window.
  pub begins : (a : ℕ) × (first_in_window vault.config.incident_seconds (all_records (placed 1)) ≡ Some a)
  begins = first_there vault.config.incident_seconds (all_records (placed 1)) newest.r some newest.ends

  less : vault.config.incident_seconds ≤ opening.settings.seconds 1
  less = subst (λ (s : Settings). vault.config.incident_seconds ≤ s.seconds 1) (sym may.stands.settings) may.legal.incident_high

  held_order : RecordsAreInOrder (all_records (placed 1))
  held_order = in_order_records (placed 1) long.reads.order

  windows : window vault.config.incident_seconds (all_records (placed 1)) ≡ window vault.config.incident_seconds (given_with opening events 1)
  windows = same_window vault.config.incident_seconds (given_with opening events 1) (all_records (placed 1)) long.order held_order
      (holds_less vault.config.incident_seconds (opening.settings.seconds 1) (given_with opening events 1) (all_records (placed 1)) less long.retains.window)

  module _ (a : ℕ) (first : first_in_window vault.config.incident_seconds (all_records (placed 1)) ≡ Some a) where
    ends_there : newest.r.place ≡ vault.next_place - 1
    ends_there = let next = newest.next in omega (arith, next)

    abbrev saved : Incident
    saved = incident_at vault label a tick utc

    seconds_are : opening.settings.incident_seconds ≡ vault.config.incident_seconds
    seconds_are = ap (λ (s : Settings). s.incident_seconds) may.stands.settings

    pub may_come : MayCome opening events (Save (suc accepts.slot.0) label a (vault.next_place - 1))
    may_come = (
      ap (λ (t : List (Option Incident)). option_map suc (position is_none t)) (sym may.stands.incidents_are) ∙ ap (option_map suc) accepts.slot.1,
      record {
        first = ap (λ (n : ℕ). first_in_window n (given_with opening events 1)) seconds_are ∙ ap (λ (w : List Record). option_map (λ r. r.place) (slice_get w 0)) (sym windows) ∙ first;
        newest = ap (option_map (λ r. r.place)) newest.given ∙ ap Some ends_there;
      },
    )

    is_first : IsFirst vault.config.incident_seconds (all_records (placed 1)) a
    is_first = first_is vault.config.incident_seconds a (all_records (placed 1)) first

    -- The save is legal where the medium tells.
    pub saved_legal : tells → IsSave saved
    saved_legal told =
        let all = all_legal (placed 1) (legal_batches (ring_of vault 1).segment (ring_of vault 1).slots (placed 1) (content old.reads (ring_of vault 1).medium) (long.reads.settled.reads told)) in
        let last_legal = All-contains IsRecord (all_records (placed 1)) newest.r all (last_contained (all_records (placed 1)) newest.r newest.ends) in
        let low = a_first vault.config.incident_seconds a (all_records (placed 1)) newest.r held_order newest.ends is_first in
        let place = last_legal.place in
        let early = last_legal.tick in
        let ticks = newest.tick_is in
        let at = ends_there in
        record {
          labelled = accepts.label;
          order = omega (arith, low, at);
          fits = omega (arith, place, at);
          tick_low = omega (arith, early, ticks);
          utc_legal = subst IsStamp newest.utc_is last_legal.utc;
        }

    -- All its places are there, where none is skipped.
    pub never_refused : tells → IsNone vault label a tick utc → ⊥
    never_refused told none =
        let unbroken = unbroken_less vault.config.incident_seconds (opening.settings.seconds 1) (given_with opening events 1) less long.order long.unbroken in
        none (placed 1) long.reads.directory long.reads.order
        (subst (λ (n : ℕ). HoldAll a n (placed 1)) ends_there
        (unbroken_holds vault.config.incident_seconds a (placed 1) newest.r some long.reads.order newest.ends first (subst (λ (w : List Record). (place : ℕ) × RunOn place w) (sym windows) unbroken)))
        (saved_legal told)

    may_stand : HoldAll a (vault.next_place - 1) (placed 1) → MayStand opening events vault.config.incident_seconds (placed 1) (Some saved)
    may_stand there = record {
      there = there;
      places = save_keeps_places vault.config.incident_seconds (opening.settings.seconds 1) (given_with opening events 1) (all_records (placed 1)) a (vault.next_place - 1) less long.order
          (record {
            first = ap (λ (w : List Record). option_map (λ r. r.place) (slice_get w 0)) (sym windows) ∙ first;
            newest = ap (option_map (λ r. r.place)) newest.given ∙ ap Some ends_there;
          })
          long.retains.window;
      short = spans vault.config.incident_seconds a (all_records (placed 1)) newest.r held_order newest.ends is_first (vault.next_place - 1);
    }

    module _ (e : Event) (is : e.act ≡ Save (suc accepts.slot.0) label a (vault.next_place - 1)) where
      found : incident_of label a (vault.next_place - 1) (find (λ r. r.place == (vault.next_place - 1)) (given_with opening events 1)) ≡ Some saved
      found =
          let last_one : find (λ r. r.place == (vault.next_place - 1)) (given_with opening events 1) ≡ Some newest.r =
          subst (λ (n : ℕ). find (λ r. r.place == n) (given_with opening events 1) ≡ Some newest.r) ends_there (find_last (given_with opening events 1) newest.r long.order newest.given) in
          ap (incident_of label a (vault.next_place - 1)) last_one
          ∙ ap (λ (p : ℕ × ℤ). Some (record { label = label; a = a; b = vault.next_place - 1; stamp = record { tick = p.0; utc = p.1 } })) (λ i. (newest.tick_is i, newest.utc_is i))

      table : incidents opening (events ++ e ∷ []) ≡ with_slot (incidents opening events) (suc accepts.slot.0) (Some saved)
      table = incidents_with opening events e ∙ ap (table_after (given_with opening events 1) (incidents opening events)) is ∙ ap (with_slot (incidents opening events) (suc accepts.slot.0)) found

      written : HoldAll a (vault.next_place - 1) (placed 1) → IsWritten opening events e vault.config (placed 1) (with_slot vault.table (suc accepts.slot.0) (Some saved))
      written there = slot_written opening events e vault placed old may.stands (suc accepts.slot.0) (Some saved) (ap records_of_act is) table (may_stand there)

    -- What `Table::save` says of it.
    pub saves : (x : Incident) → x ≡ saved → HasPlaces vault a → (new : Disk tells tells_images) (out : Result ℕ SaveRefused) (now : List (Option Incident))
        → ((slots slot : ℕ) → Settled 1 (HoldsTable slots vault.table) old → position is_none vault.table ≡ Some slot
        → ChangesOnly 1 (HoldsEither slot slots vault.table (with_slot vault.table (suc slot) (Some x)) (content old.reads 1)) old new)
        → ((slots slot : ℕ) → Settled 1 (HoldsTable slots vault.table) old → position is_none vault.table ≡ Some slot
        → OnOk out (Settled 1 (HoldsBeside slot slots (with_slot vault.table (suc slot) (Some x)) (content old.reads 1)) new))
        → (tells → SameBut 1 old.reads new.reads) → new.sizes ≡ old.sizes
        → IfOk out (λ id. now ≡ with_slot vault.table id (Some x)) → IfOk out (λ id. option_map suc (position is_none vault.table) ≡ Some id)
        → Saves opening events label placed (record vault { table = now }) old new out
    saves x same there new out now moments settled others sizes is_table is_id =
        let free = accepts.slot.1 in
        let on_table = table_settled opening events vault placed old may.stands may.legal in
        let few = may.legal.slots_high in
        let all = may.stands.slots in
        let within = held_within vault.table accepts.slot.0 None (free_held vault.table accepts.slot.0 free) in
        record {
          id = suc accepts.slot.0;
          a = a;
          b = vault.next_place - 1;
          may_come = may_come;
          told = told_id out is_id;
          does = λ e is. written_does opening events e vault placed old may.stands (with_slot vault.table (suc accepts.slot.0) (Some x))
              (subst (λ (y : Incident). IsWritten opening events e vault.config (placed 1) (with_slot vault.table (suc accepts.slot.0) (Some y))) (sym same) (written e is (there (placed 1) long.reads.directory long.reads.order)))
              accepts.slot.0 (omega (arith, few, all, within)) new out now (moments vault.config.incident_slots accepts.slot.0 on_table free) others sizes
              (settled vault.config.incident_slots accepts.slot.0 on_table free) (same_table out is_table is_id);
        }
      where
        same_id : (id : ℕ) → option_map suc (position is_none vault.table) ≡ Some id → id ≡ suc accepts.slot.0
        same_id id e = same_Some id (suc accepts.slot.0) (sym e ∙ ap (option_map suc) accepts.slot.1)

        told_id : (r : Result ℕ SaveRefused) → IfOk r (λ id. option_map suc (position is_none vault.table) ≡ Some id) → IfOk r (λ told. told ≡ suc accepts.slot.0)
        told_id (Ok id) e = same_id id e
        told_id (Err x) e = tt

        same_table : (r : Result ℕ SaveRefused) → IfOk r (λ id. now ≡ with_slot vault.table id (Some x)) → IfOk r (λ id. option_map suc (position is_none vault.table) ≡ Some id)
            → OnOk r (now ≡ with_slot vault.table (suc accepts.slot.0) (Some x))
        same_table (Ok id) e f = e ∙ ap (λ (n : ℕ). with_slot vault.table n (Some x)) (same_id id f)
        same_table (Err x) e f = tt

  -- Nothing is written.
  pub saves_nothing : (now : VaultState) (new : Disk tells tells_images) (out : Result ℕ SaveRefused) → IsErr out → Unchanged old new → Saves opening events label placed now old new out
  saves_nothing now new out failed same = record {
    id = suc accepts.slot.0;
    a = begins.0;
    b = vault.next_place - 1;
    may_come = may_come begins.0 begins.1;
    told = IfOk-from_err out _ failed;
    does = λ e is. record {
      moments = moments_and_reads old old new _ (moments_none old _ (λ i now. inl now)) same;
      done = IfOk-from_err out _ failed;
    };
  }

-- An incident may be saved, and begins at this place.
pub record BeginsAt {tells tells_images : Type 0} (opening : Opening) (events : List Event) (vault : VaultState) (placed : ℕ → List Placed) (disk : Disk tells tells_images) (label : List ℕ) (tick : ℕ) (utc : ℤ) (a : ℕ) : Type 0 where
  pub may : MaySave opening events vault placed disk label tick utc
  pub first : first_in_window vault.config.incident_seconds (all_records (placed 1)) ≡ Some a

-- So it is once that place was read.
pub first_read : {tells tells_images : Type 0} (opening : Opening) (events : List Event) (old new vault : VaultState) (placed : ℕ → List Placed) (before now : Disk tells tells_images) (label : List ℕ) (tick : ℕ) (utc : ℤ) (a : ℕ)
    → vault ≡ new → ReadsOn 1 old new → HasRead (ring_of old 1) (ring_of new 1) before now → MaySave opening events old placed before label tick utc → tells
    → ((ps : List Placed) (newest : Record) → tells → Reads (ring_of old 1) ps before → last (all_records ps) ≡ Some newest → second newest.tick ≡ tick / 1000
    → first_in_window old.config.incident_seconds (all_records ps) ≡ Some a) → BeginsAt opening events vault placed now label tick utc a
first_read opening events old new vault placed before now label tick utc a is kept read may told found = subst (λ (s : VaultState). BeginsAt opening events s placed now label tick utc a) (sym is) (record {
  may = may_still opening events old new placed before now label tick utc kept read may;
  first = ap (λ (s : VaultState). first_in_window s.config.incident_seconds (all_records (placed 1))) kept.vault
      ∙ by_newest opening events old placed before label tick utc may (λ ps. first_in_window old.config.incident_seconds (all_records ps) ≡ Some a) told found;
})

-- What was read before a save changes nothing of it.
pub after_reading : {tells tells_images : Type 0} (opening : Opening) (events : List Event) (label : List ℕ) (placed : ℕ → List Placed) (vault : VaultState) (old mid new : Disk tells tells_images) (out : Result ℕ SaveRefused)
    → Unchanged old mid → Saves opening events label placed vault mid new out → Saves opening events label placed vault old new out
after_reading opening events label placed vault old mid new out same s = record {
  id = s.id;
  a = s.a;
  b = s.b;
  may_come = s.may_come;
  told = s.told;
  does = λ e is. let d = s.does e is in record {
    moments = moments_after_reads old mid new _ same (moments_weaken mid new _ _ d.moments (λ i shown. ⊎_elim (λ now. inl (unchanged_now old mid same i now)) (λ shows. inr shows) shown));
    done = d.done;
  };
}
