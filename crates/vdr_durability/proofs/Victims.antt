-- On regular media that have the needed slots, a segment may always go.
use Rattle.std.proofs.Common.{ℕ, suc, ◌+◌, ◌*◌, ◌/◌, ◌-◌, ◌<◌, ◌≤◌, List, [], ◌∷◌, ◌++◌, length, Bool, true, false, not, ◌&&◌, ◌||◌, ◌==◌, nat_le, nat_lt, if◌then◌else◌, All, Contains, count_by, sum_by, Option, Some, None, ◌≡◌, ⊎_elim, refl, sym, ap, ◌∙◌, subst, append_assoc, arith, suc-mul, zero-mul, mul-le-mul_right}
use Rattle.std.specs.List.{list_any}
use Rattle.std.proofs.lemmas.Bool.{and_parts, and_from, not-true, not-false, not_from_false, lt-ltb, ltb-true, ltb-false, le-leb, leb-true, le-ltb}
use Rattle.std.proofs.lemmas.Nat.{le-div}
use Rattle.std.proofs.lemmas.List.{length_push}
use Rattle.std.proofs.lemmas.List.Sums.{sum_by-append}
use Rattle.std.proofs.lemmas.List.Elements.{All-contains, Contains-append_left}
use Rattle.std.proofs.lemmas.Grind.{flat_map-append}
use Rattle.vdr_terms.specs.Records.{Record, second, last_after, last}
use Rattle.vdr_terms.specs.Needs.{Sizes, cost, usable, needed_slots}
use Rattle.vdr_terms.specs.Order.{AreInOrder}
use Rattle.vdr_terms.specs.Sizes.{records_size}
use Rattle.vdr_durability.specs.Layout.{Batches, batches_size, batches_size_at, records_in, segment_records}
use Rattle.vdr_durability.specs.Retention.{Pin, at_places, within}
use Rattle.vdr_durability.specs.Regular.{IsRegular}
use Rattle.vdr_durability.specs.Victims.{ArePinsOf, HasVictim, MayGo, SpansAtMost}
use Rattle.vdr_durability.proofs.Lists.{none_contained, contains_here, contains_there, contains_cases, contains_filter, all_from, contains_flat}
use Rattle.vdr_durability.proofs.Ordered.{filter_in_order, latest, parts_in_order}
use Rattle.vdr_durability.proofs.Bytes.{IsIn, segment_spread, inside_most}
use Rattle.vdr_durability.proofs.Needed.{FirstOff, count_all, first_off, goes_unneeded, is_needed, is_pinned, is_recent, needed_stays}
use Rattle.vdr_durability.proofs.Touched.{any_there, none_there, any_from, count_none, count_either, touches, inside, Begins, count_touched, count_touched_both}

count_le : {X : Type 0} (p q : X → Bool) (xs : List X) → ((x : X) → p x ≡ true → q x ≡ true) → count_by p xs ≤ count_by q xs
count_le {X} p q xs h =
    let a : count_by p xs ≤ count_by q xs + count_by (λ (x : X). false) xs = count_either p q (λ (x : X). false) xs (λ x e. or_nothing (q x) (h x e)) in
    let b : count_by (λ (x : X). false) xs ≡ 0 = count_none (λ (x : X). false) xs (λ x m. refl) in
    omega (arith, a, b)
  where
    or_nothing : (t : Bool) → t ≡ true → (t || false) ≡ true
    or_nothing true e = refl
    or_nothing false e = e

recent_begins : (o : Option Record) (seconds : ℕ) → Begins (is_recent o seconds)
recent_begins None seconds x y a b e = e
recent_begins (Some newest) seconds x y a b e =
    let c = ltb-true (second newest.tick) (second x.tick + seconds) e in
    lt-ltb (second newest.tick) (second y.tick + seconds) (omega (arith, b, c))

recent_ranged : (held : List Record) (seconds : ℕ) → AreInOrder held → (low : ℕ) × ((r : Record) → Contains held r → is_recent (last held) seconds r ≡ true → IsIn low (seconds + 1) r)
recent_ranged [] seconds order = (0, λ r m e. absurd (none_contained r m))
recent_ranged (x ∷ xs) seconds order = (
  second (last_after x xs).tick + 1 - seconds,
  λ r m e.
      let c = ltb-true (second (last_after x xs).tick) (second r.tick + seconds) e in
      let d = latest x xs r order m in
      (omega (arith, c), omega (arith, d)),
)

pin_ranged : (seconds : ℕ) (xs : List Record) → AreInOrder xs → SpansAtMost seconds xs → (low : ℕ) × ((r : Record) → Contains xs r → IsIn low (seconds + 1) r)
pin_ranged seconds [] order spans = (0, λ r m. absurd (none_contained r m))
pin_ranged seconds (x ∷ xs) order spans = (
  second x.tick,
  λ r m.
      let a = spans x r (contains_here x xs) m in
      let b = first_is_least r m in
      (omega (arith, b), omega (arith, a)),
)
  where
    first_is_least : (r : Record) → Contains (x ∷ xs) r → x.tick ≤ r.tick
    first_is_least r m =
        ⊎_elim
        (λ (e : x ≡ r). let d = ap (λ (r : Record). r.tick) e in omega (arith, d))
        (λ (k : Contains xs r). (All-contains (λ later. (x.place < later.place) × (x.tick ≤ later.tick)) xs r order.0 k).1)
        (contains_cases x xs r m)

module _ (cost usable batch : ℕ) (older : List Batches) (newest : Batches) (regular : IsRegular cost usable batch older newest) (some : 0 < usable) where
  held : List Record
  held = records_in (older ++ newest ∷ [])

  older_order : AreInOrder (records_in older)
  older_order = (parts_in_order (records_in older) (records_in (newest ∷ [])) (subst AreInOrder (flat_map-append segment_records older (newest ∷ [])) regular.order)).0

  in_held : (s : Batches) (r : Record) → Contains older s → Contains (segment_records s) r → Contains (records_in (older ++ newest ∷ [])) r
  in_held s r m k = contains_flat segment_records (older ++ newest ∷ []) s r (Contains-append_left older (newest ∷ []) s m) k

  paced_older : (t : ℕ) → sum_by (batches_size_at t) older ≤ cost
  paced_older t = let a = sum_by-append (batches_size_at t) older (newest ∷ []) in let b = regular.paced t in omega (arith, a, b)

  -- the segments of which all records pass, where these all fall into so many seconds
  inside_count : (q : Record → Bool) (low n : ℕ) → ((r : Record) → Contains (records_in (older ++ newest ∷ [])) r → q r ≡ true → IsIn low n r) → count_by (inside q) older ≤ n * cost / usable
  inside_count q low n ranged = le-div (count_by (inside q) older) (n * cost) usable some
      (inside_most (inside q) low n cost usable older
      (λ s m. All-contains (λ s. usable < batches_size s) older s regular.filled m)
      (λ s m e. segment_spread low n s
      (λ b k. (All-contains (λ b. (0 < length b) × (records_size b ≤ batch)) s b
      (All-contains (λ s. All (λ b. (0 < length b) × (records_size b ≤ batch)) s) (older ++ newest ∷ []) s regular.batches (Contains-append_left older (newest ∷ []) s m)) k).0)
      (λ r k. ranged r (in_held s r m k) (not-false (q r) (none_there (λ r. not (q r)) (segment_records s) (not-true (list_any (λ r. not (q r)) (segment_records s)) e) r k))))
      paced_older)

  recent_count : (seconds : ℕ) → count_by (touches (is_recent (last (records_in (older ++ newest ∷ []))) seconds)) older ≤ (seconds + 1) * cost / usable + 1
  recent_count seconds =
      let o : Option Record = last (records_in (older ++ newest ∷ [])) in
      let range = recent_ranged (records_in (older ++ newest ∷ [])) seconds regular.order in
      let a : count_by (touches (is_recent o seconds)) older ≤ count_by (inside (is_recent o seconds)) older + 1 = count_touched (is_recent o seconds) (recent_begins o seconds) older older_order in
      let b : count_by (inside (is_recent o seconds)) older ≤ (seconds + 1) * cost / usable = inside_count (is_recent o seconds) range.0 (seconds + 1) range.1 in
      omega (arith, a, b)

  pin_count : (seconds : ℕ) (pin : Pin) → SpansAtMost seconds (at_places pin.a pin.b (records_in (older ++ newest ∷ []))) → count_by (touches (is_pinned pin)) older ≤ (seconds + 1) * cost / usable + 2
  pin_count seconds pin spans =
      let range = pin_ranged seconds (at_places pin.a pin.b (records_in (older ++ newest ∷ [])))
      (filter_in_order (within pin.a pin.b) (records_in (older ++ newest ∷ [])) regular.order) spans in
      let a : count_by (touches (is_pinned pin)) older ≤ count_by (touches (λ r. from r && not (beyond r))) older = count_le (touches (is_pinned pin)) (touches (λ r. from r && not (beyond r))) older
      (λ s e. let x = any_there (is_pinned pin) (segment_records s) e in any_from (λ r. from r && not (beyond r)) (segment_records s) x.0 x.1 (turned x.0 x.2)) in
      let b : count_by (touches (λ r. from r && not (beyond r))) older ≤ count_by (inside (λ r. from r && not (beyond r))) older + 2 = count_touched_both from beyond from_begins beyond_begins older older_order in
      let c : count_by (inside (λ r. from r && not (beyond r))) older ≤ (seconds + 1) * cost / usable = inside_count (λ r. from r && not (beyond r)) range.0 (seconds + 1)
      (λ r m e. range.1 r (contains_filter (within pin.a pin.b) (records_in (older ++ newest ∷ [])) r m (back r e))) in
      omega (arith, a, b, c)
    where
      from : Record → Bool
      from r = nat_le pin.a r.place

      beyond : Record → Bool
      beyond r = nat_lt pin.b r.place

      from_begins : Begins from
      from_begins x y p t e = let c = leb-true pin.a x.place e in le-leb pin.a y.place (omega (arith, c, p))

      beyond_begins : Begins beyond
      beyond_begins x y p t e = let c = ltb-true pin.b x.place e in lt-ltb pin.b y.place (omega (arith, c, p))

      turned : (r : Record) → is_pinned pin r ≡ true → (from r && not (beyond r)) ≡ true
      turned r e = let k = and_parts (nat_le pin.a r.place) (nat_le r.place pin.b) e in
          and_from (from r) (not (beyond r)) k.0 (not_from_false (beyond r) (le-ltb pin.b r.place (leb-true r.place pin.b k.1)))

      back : (r : Record) → (from r && not (beyond r)) ≡ true → is_pinned pin r ≡ true
      back r e = let k = and_parts (from r) (not (beyond r)) e in
          and_from (nat_le pin.a r.place) (nat_le r.place pin.b) k.0 (le-leb r.place pin.b (ltb-false pin.b r.place (not-true (beyond r) k.1)))

  pins_count : (seconds : ℕ) (pins : List Pin) → ((pin : Pin) → Contains pins pin → SpansAtMost seconds (at_places pin.a pin.b (records_in (older ++ newest ∷ []))))
      → count_by (λ s. list_any (λ pin. touches (is_pinned pin) s) pins) older ≤ length pins * ((seconds + 1) * cost / usable + 2)
  pins_count seconds [] spans = let a = count_none (λ (s : Batches). false) older (λ s m. refl) in omega (arith, a)
  pins_count seconds (pin ∷ pins) spans =
      let a = count_either (λ s. list_any (λ pin. touches (is_pinned pin) s) (pin ∷ pins)) (touches (is_pinned pin)) (λ s. list_any (λ pin. touches (is_pinned pin) s) pins) older (λ s e. e) in
      let b = pin_count seconds pin (spans pin (contains_here pin pins)) in
      let c = pins_count seconds pins (λ p m. spans p (contains_there pin pins p m)) in
      let d : suc (length pins) * ((seconds + 1) * cost / usable + 2) ≡ length pins * ((seconds + 1) * cost / usable + 2) + ((seconds + 1) * cost / usable + 2) = suc-mul (length pins) ((seconds + 1) * cost / usable + 2) in
      let g : count_by (λ s. list_any (λ pin. touches (is_pinned pin) s) (pin ∷ pins)) older ≤ length pins * ((seconds + 1) * cost / usable + 2) + ((seconds + 1) * cost / usable + 2) = omega (arith, a, b, c) in
      omega (arith, d, g)

  -- Where all slots are open and there are as many as needed, one of the older segments is the victim.
  pub victim_exists : (window_seconds incident_seconds limit : ℕ) (pins : List Pin) → length pins ≤ limit
      → ((pin : Pin) → Contains pins pin → SpansAtMost incident_seconds (at_places pin.a pin.b (records_in (older ++ newest ∷ []))))
      → (window_seconds + 1) * cost / usable + 4 + limit * ((incident_seconds + 1) * cost / usable + 2) ≤ length (older ++ newest ∷ [])
      → HasVictim window_seconds pins older newest
  victim_exists window_seconds incident_seconds limit pins few spans enough =
      ⊎_elim
      (λ (k : FirstOff needed older).
      record {
        before = k.before;
        victim = k.item;
        after = k.after;
        split = k.split;
        oldest = record {
          split = ap (λ (xs : List Batches). xs ++ newest ∷ []) k.split ∙ append_assoc k.before (k.item ∷ k.after) (newest ∷ []);
          may_go = goes_unneeded window_seconds pins (records_in (older ++ newest ∷ [])) k.item k.off;
          oldest = all_from (λ s. MayGo window_seconds pins (records_in (older ++ newest ∷ [])) s → ⊥) k.before
              (λ s m. needed_stays window_seconds pins (records_in (older ++ newest ∷ [])) s
              (all_from (Contains (records_in (older ++ newest ∷ []))) (segment_records s) (λ r n. in_held s r (subst (λ (xs : List Batches). Contains xs s) (sym k.split) (Contains-append_left k.before (k.item ∷ k.after) s m)) n))
              (All-contains (λ s. needed s ≡ true) k.before s k.on m));
        };
      })
      (λ (all : All (λ s. needed s ≡ true) older). let n = count_all needed older all in absurd (omega (arith, a, b, c, d, e, n, enough)))
      (first_off needed older)
    where
      needed : Batches → Bool
      needed s = is_needed window_seconds pins (records_in (older ++ newest ∷ [])) s

      recent_here : Batches → Bool
      recent_here s = touches (is_recent (last (records_in (older ++ newest ∷ []))) window_seconds) s

      pinned_here : Batches → Bool
      pinned_here s = list_any (λ pin. touches (is_pinned pin) s) pins

      a : count_by needed older ≤ count_by recent_here older + count_by pinned_here older
      a = count_either needed recent_here pinned_here older (λ s e. e)

      b : count_by recent_here older ≤ (window_seconds + 1) * cost / usable + 1
      b = recent_count window_seconds

      c : count_by pinned_here older ≤ length pins * ((incident_seconds + 1) * cost / usable + 2)
      c = pins_count incident_seconds pins spans

      d : length pins * ((incident_seconds + 1) * cost / usable + 2) ≤ limit * ((incident_seconds + 1) * cost / usable + 2)
      d = mul-le-mul_right ((incident_seconds + 1) * cost / usable + 2) few

      e : length (older ++ newest ∷ []) ≡ length older + 1
      e = length_push older newest

-- On a regular medium that has the slots that its configuration needs, all open, with pins that it allows.
pub medium_has_victim : (sizes : Sizes) (m : ℕ) (older : List Batches) (newest : Batches) (pins : List Pin) → IsRegular (cost sizes) (usable sizes) sizes.batch older newest → 0 < usable sizes
    → ArePinsOf sizes m (records_in (older ++ newest ∷ [])) pins → needed_slots sizes m ≤ length (older ++ newest ∷ []) → HasVictim (sizes.seconds m) pins older newest
medium_has_victim sizes m older newest pins regular some allowed enough =
    victim_exists (cost sizes) (usable sizes) sizes.batch older newest regular some (sizes.seconds m) sizes.incident_seconds (if m == 1 then sizes.incidents else 0) pins allowed.few allowed.short
    (subst (λ (n : ℕ). (sizes.seconds m + 1) * cost sizes / usable sizes + 4 + n ≤ length (older ++ newest ∷ [])) (sym (times (m == 1) sizes.incidents ((sizes.incident_seconds + 1) * cost sizes / usable sizes + 2))) enough)
  where
    times : (b : Bool) (n x : ℕ) → (if b then n else 0) * x ≡ (if b then n * x else 0)
    times true n x = refl
    times false n x = zero-mul x
