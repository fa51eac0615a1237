-- The incident slots of a long-term medium that holds a table, and the places of live incidents.
use Rattle.std.proofs.Common.{◌≡◌, ◌≢◌, ◌==◌, ◌<◌, ◌≤◌, ◌+◌, ℕ, zero, suc, List, [], ◌∷◌, ◌++◌, length, take, get_or, All, Contains, Option, Some, None, ⊎_elim, refl, sym, ap, ◌∙◌, subst, arith}
use Rattle.std.specs.Prelude.{Any, IfSome, Bool, true, false, if◌then◌else◌}
use Rattle.std.proofs.Math.Seq.{take-length, take-suc}
use Rattle.std.proofs.lemmas.Bool.{cases_eq, eqb-false, eqb-true}
use Rattle.std.proofs.lemmas.List.Elements.{All-contains, All-head, All-tail, Contains-append_cases}
use Rattle.std.proofs.lemmas.Option.{get_or_from_slice_get, slice_get-get_or}
use Rattle.vdr_terms.specs.Records.{Record}
use Rattle.vdr_terms.specs.Order.{RunOn}
use Rattle.vdr_terms.proofs.Somewhere.{any_cases, any_here, any_left, any_none, any_right, any_there}
use Rattle.vdr_core.specs.Histories.{Incident}
use Rattle.vdr_outside.specs.Disk.{Image, content}
use Rattle.vdr_outside.specs.Parts.{part}
use Rattle.vdr_durability.proofs.Lists.{contains_cases, none_contained}
use Rattle.vdr_directory.specs.Lookup.{HoldAll}
use Rattle.vdr_directory.specs.Order.{HasPlace, RunsOn}
use Rattle.vdr_directory.specs.Sequence.{Placed, all_records, first_of, records_of}
use Rattle.vdr_incident.specs.Saves.{IsIncidentSlot}
use Rattle.vdr_incident.specs.Tables.{HoldsTable, place_of}
use Rattle.vdr_opening.specs.Media.{Contents, HoldsContents, members_with}
use Rattle.vdr_rescue.specs.declared.lacking.Places.{Places}
use Rattle.vdr_rescue.specs.Saves.{AreSaves, SavesState, no_saves, pin_in, saved_slots, with_save}
use Rattle.vdr_rescue.proofs.OneAnswer.{saved_once}

-- A pin is that of a live incident.
record IsPinOf (table : List (Option Incident)) (pin : Places) : Type 0 where
  pub incident : Incident
  pub there : Contains table (Some incident)
  pub order : incident.a ≤ incident.b
  pub a : pin.a ≡ incident.a
  pub b : pin.b ≡ incident.b

record AreLegal (table : List (Option Incident)) (n : ℕ) (s : SavesState) : Type 0 where
  pub table_is : s.table ≡ take n table
  pub bad : s.bad ≡ []
  pub pins : (pin : Places) → Contains s.pins pin → IsPinOf table pin

one_pin : (table : List (Option Incident)) (bytes : List ℕ) (n : ℕ) (held : Option Incident) → n < length table → get_or table n None ≡ held → IsIncidentSlot bytes held → (pin : Places) → Contains (pin_in held) pin → IsPinOf table pin
one_pin table bytes n None lt is slot pin m = absurd (none_contained pin m)
one_pin table bytes n (Some x) lt is slot pin m = ⊎_elim
    (λ (e : record { a = x.a; b = x.b } ≡ pin). record {
      incident = x;
      there = (n, lt, get_or_from_slice_get table n (Some x) (Some x) (slice_get-get_or table n None lt ∙ ap (λ (o : Option Incident). Some o) is));
      order = slot.1.legal.order;
      a = ap (λ (p : Places). p.a) (sym e);
      b = ap (λ (p : Places). p.b) (sym e);
    })
    (λ (n : Contains [] pin). absurd (none_contained pin n))
    (contains_cases (record { a = x.a; b = x.b }) [] pin m)

saves_of : (bytes : List ℕ) (table : List (Option Incident)) (slots : ℕ) → HoldsTable slots table bytes → (n : ℕ) → n ≤ length table → (s : SavesState) → AreSaves bytes n s → AreLegal table n s
saves_of bytes table slots holds zero within s are = subst (AreLegal table 0) (sym are) (record { table_is = refl; bad = refl; pins = λ pin m. absurd (none_contained pin m) })
saves_of bytes table slots holds (suc n) within s (shown, shows, t, more, is) =
    let before = saves_of bytes table slots holds n (omega (arith, within)) t more in
    let lt : n < length table = omega (arith, within) in
    let held : Option Incident = get_or table n None in
    let slot : IsIncidentSlot (part bytes (place_of n) 256) held = holds.each.each n None lt in
    let same : shown ≡ Some held = saved_once (part bytes (place_of n) 256) shown (Some held) shows slot in
    subst (AreLegal table (suc n)) (sym (is ∙ ap (λ (o : Option (Option Incident)). with_save n o t) same)) (record {
      table_is = ap (λ (xs : List (Option Incident)). xs ++ held ∷ []) before.table_is ∙ sym (take-suc table n None lt);
      bad = before.bad;
      pins = λ pin m. ⊎_elim
          (λ (k : Contains t.pins pin). before.pins pin k)
          (λ (k : Contains (pin_in held) pin). one_pin table (part bytes (place_of n) 256) n held lt refl slot pin k)
          (Contains-append_cases t.pins (pin_in held) pin m);
    })

-- What the incident slots of medium m show, where it has any.
pub record AreSavesOf (y : Contents) (m : ℕ) (s : SavesState) : Type 0 where
  pub bad : s.bad ≡ []
  pub table : m ≡ 1 → s.table ≡ y.table
  pub held : (pin : Places) → Contains s.pins pin → (pin.a ≤ pin.b) × HoldAll pin.a pin.b (y.placed m)

pub saves_here : (image : Image) (y : Contents) (m : ℕ) (s : SavesState) → HoldsContents image y → Contains (members_with y.further) m → AreSaves (content image m) (saved_slots m y.config) s → AreSavesOf y m s
saves_here image y m s holds there are = by (m == 1) refl
  where
    none_here : m ≢ 1 → s ≡ no_saves → AreSavesOf y m s
    none_here other none = subst (AreSavesOf y m) (sym none) (record { bad = refl; table = λ e. absurd (other e); held = λ pin here. absurd (none_contained pin here) })

    all_here : AreSaves (content image 1) y.config.incident_slots s → AreSavesOf y 1 s
    all_here saved =
        let size = holds.table.size in
        let legal = saves_of (content image 1) y.table y.config.incident_slots holds.table (length y.table) (omega arith) s (subst (λ (n : ℕ). AreSaves (content image 1) n s) (sym size) saved) in
        record {
          bad = legal.bad;
          table = λ e. legal.table_is ∙ take-length y.table;
          held = λ pin m.
              let p = legal.pins pin m in
              let there : HoldAll p.incident.a p.incident.b (y.placed 1) = All-contains (λ slot. IfSome slot (λ incident. HoldAll incident.a incident.b (y.placed 1))) y.table (Some p.incident) holds.there p.there in
              let a = p.a in
              let b = p.b in
              let order = p.order in
              (omega (arith, a, b, order), λ place low high. there place (omega (arith, a, low)) (omega (arith, b, high)));
        }

    by : (long_term : Bool) → (m == 1) ≡ long_term → AreSavesOf y m s
    by true is =
        let at : m ≡ 1 = eqb-true m 1 is in
        subst (λ (k : ℕ). AreSavesOf y k s) (sym at) (all_here (subst (λ (k : ℕ). AreSaves (content image k) (saved_slots k y.config) s) at are))
    by false is = none_here (eqb-false m 1 is) (subst (λ (long_term : Bool). AreSaves (content image m) (if long_term then y.config.incident_slots else 0) s) is are)

-- A place in a segment is that of a record

place_in : (first : ℕ) (rs : List Record) (place : ℕ) → RunOn first rs → first ≤ place → place < first + length rs → Any (λ r. r.place ≡ place) rs
place_in first [] place h low high = absurd (omega (arith, low, high))
place_in first (r ∷ rs) place h low high = ⊎_elim
    (λ (e : first ≡ place). any_here (λ (r : Record). r.place ≡ place) r rs (h.0 ∙ e))
    (λ (ne : first ≡ place → ⊥). any_there (λ (r : Record). r.place ≡ place) r rs (place_in (suc first) rs place h.1 (omega (arith, low, ne)) (omega (arith, high))))
    (cases_eq first place)

pub place_found : (place : ℕ) (ps : List Placed) → All RunsOn ps → Any (HasPlace place) ps → Any (λ r. r.place ≡ place) (all_records ps)
place_found place [] runs h = absurd (any_none (HasPlace place) h)
place_found place (p ∷ ps) runs h = ⊎_elim
    (λ (k : HasPlace place p). any_left (λ (r : Record). r.place ≡ place) (records_of p) (all_records ps) (place_in (first_of p) (records_of p) place (All-head RunsOn p ps runs).places k.from k.below))
    (λ (k : Any (HasPlace place) ps). any_right (λ (r : Record). r.place ≡ place) (records_of p) (all_records ps) (place_found place ps (All-tail RunsOn p ps runs) k))
    (any_cases (HasPlace place) p ps h)
