-- Which segment may go: by what the index knows of it, by its last second, and by its records.
use Rattle.std.proofs.Common.{◌≡◌, ◌↔◌, ◌<◌, ◌≤◌, ◌+◌, ◌⊎◌, ⊎_elim, ℕ, true, false, nat_le, List, [], ◌∷◌, length, All, Contains, IsTrue, Option, Some, None, IfSome, inl, inr, refl, sym, ap, ◌∙◌, subst, arith}
use Rattle.std.specs.List.{list_all}
use Rattle.std.proofs.lemmas.Bool.{and_from, and_parts, cases_lt, le-leb, leb-true, lt-ltb}
use Rattle.std.proofs.lemmas.Option.{none-some, same_Some}
use Rattle.std.proofs.lemmas.List.Elements.{All-nil, All-contains, All-weaker}
use Rattle.vdr_terms.specs.Records.{Record, second, last, last_after}
use Rattle.vdr_terms.specs.Order.{AreInOrder as RunInOrder, NeverFalls, RunOn}
use Rattle.vdr_terms.specs.Windows.{window}
use Rattle.vdr_entry.specs.declared.summary.Summary.{Summary}
use Rattle.vdr_durability.specs.Retention.{Pin, AreAmong, AreOutside, HaveNoPlace, within}
use Rattle.vdr_durability.specs.Victims.{Extent, IsExtent, IsLastSecond, MayGo, is_apart, may_go_by_numbers}
use Rattle.vdr_durability.proofs.Lists.{all_from, contains_cases, contains_here, contains_there, last_contained, none_contained}
use Rattle.vdr_durability.proofs.Needed.{segment_among}
use Rattle.vdr_durability.proofs.Choice.{may_go_by_numbers-decides}
use Rattle.vdr_durability.proofs.Ordered.{latest}
use Rattle.vdr_durability.proofs.Retained.{in_the_window, outside_by_test}
use Rattle.vdr_index.specs.declared.known.Known.{Known}
use Rattle.vdr_directory.specs.Sequence.{Placed, batches_of, records_of, segments_in, all_records}
use Rattle.vdr_index.specs.Audits.{IsCovered}
use Rattle.vdr_directory.specs.Order.{Agrees, AreInOrder, HasNone, RunsOn, end_second}
use Rattle.vdr_directory.specs.Leaving.{IsExact, IsExactlySummarized}
use Rattle.vdr_directory.specs.Indexed.{IsKnown, StandsFor}
use Rattle.vdr_directory.proofs.Agreeing.{exact_ends}
use Rattle.vdr_directory.proofs.Known.{agrees, known_count, runs_on}
use Rattle.vdr_directory.proofs.Runs.{nil_from_last, positive_length, ticks_to_last}
use Rattle.vdr_ring.specs.Candidates.{MayGoAsKnown, goes, known_of}

-- The records of a segment are among those of the medium.
pub own_records : (placed : List Placed) (p : Placed) → Contains placed p → AreAmong (records_of p) (all_records placed)
own_records placed p m = segment_among (segments_in placed) (batches_of p) (contains_map placed p m)
  where
    contains_map : (placed : List Placed) (p : Placed) → Contains placed p → Contains (segments_in placed) (batches_of p)
    contains_map [] p m = absurd (none_contained p m)
    contains_map (x ∷ xs) p m =
        ⊎_elim
        (λ (e : x ≡ p). subst (λ (q : Placed). Contains (segments_in (x ∷ xs)) (batches_of q)) e (contains_here (batches_of x) (segments_in xs)))
        (λ (k : Contains xs p). contains_there (batches_of x) (segments_in xs) (batches_of p) (contains_map xs p k))
        (contains_cases x xs p m)

-- The second in which a segment ends is that which is known of it.

summary_ends : (s : Summary) (rs : List Record) → (rs ≡ [] → ⊥) → end_second (Some s) rs ≡ Some s.last_second
summary_ends s [] some = absurd (some refl)
summary_ends s (r ∷ rs) some = refl

stands_ends : (o : Option Summary) (p : Placed) (s : Summary) → (HasNone p → ⊥) → StandsFor o p s → end_second o (records_of p) ≡ Some s.last_second
stands_ends None p s some is = sym (exact_ends (records_of p) s is.summary) ∙ summary_ends s (records_of p) some
stands_ends (Some t) p s some is = summary_ends t (records_of p) some ∙ ap (λ (x : Summary). Some x.last_second) (sym is)

known_ends : (p : Placed) (k : Known) → IsKnown p k → end_second p.segment.header.summary (records_of p) ≡ Some k.summary.last_second
known_ends p k is = stands_ends p.segment.header.summary p k.summary is.some is.summary

last_there : (rs : List Record) → (rs ≡ [] → ⊥) → (r : Record) × (last rs ≡ Some r)
last_there [] some = absurd (some refl)
last_there (r ∷ rs) some = (last_after r rs, refl)

last_tick : (rs : List Record) (newest r : Record) → NeverFalls 0 rs → last rs ≡ Some newest → Contains rs r → second r.tick ≤ second newest.tick
last_tick [] newest r falls is m = absurd (none_contained r m)
last_tick (x ∷ xs) newest r falls is m =
    let le : r.tick ≤ (last_after x xs).tick = ticks_to_last 0 (x ∷ xs) r falls m in
    let same = ap (λ (y : Record). y.tick) (same_Some (last_after x xs) newest is) in
    omega (arith, le, same)

-- Its places are those of its records, so a pin is apart from what is known of it exactly where it has no place there.
module _ (pins : List Pin) (p : Placed) (k : Known) (is : IsKnown p k) (agrees : IfSome p.segment.header.summary (Agrees p)) (runs : RunsOn p) where
  ends : (r : Record) × (last (records_of p) ≡ Some r)
  ends = last_there (records_of p) is.some

  abbrev end : ℕ
  end = second ends.0.tick

  -- as it is, but for its last second
  abbrev extent : Extent
  extent = record { has_records = true; first = k.first; next = k.first + k.summary.count; last_second = end }

  lasts : IsLastSecond end (records_of p)
  lasts newest e = ap (λ (r : Record). second r.tick) (same_Some ends.0 newest (sym ends.1 ∙ e))

  is_extent : IsExtent extent (records_of p)
  is_extent = record {
    some = sym (lt-ltb 0 (length (records_of p)) (positive_length (records_of p) is.some));
    places = subst (λ (n : ℕ). RunOn n (records_of p)) (sym is.first) runs.places;
    ends = ap (λ (n : ℕ). k.first + n) (known_count p k is agrees);
    seconds = lasts;
  }

  outside : AreOutside 0 (records_of p) (records_of p)
  outside = all_from (λ r. Contains (window 0 (records_of p)) r → ⊥) (records_of p) (λ r m.
      let le = last_tick (records_of p) ends.0 r runs.ticks ends.1 m in
      outside_by_test 0 (records_of p) ends.0 r ends.1 (omega (arith, le)))

  decided : IsTrue (may_go_by_numbers 0 pins end extent) ↔ MayGo 0 pins (records_of p) (batches_of p)
  decided = may_go_by_numbers-decides 0 pins (records_of p) (batches_of p) end extent is_extent runs.ticks (all_from (Contains (records_of p)) (records_of p) (λ r m. m)) lasts

  pins_decide : (list_all (is_apart (known_of k)) pins ≡ true) ↔ All (λ pin. HaveNoPlace pin.a pin.b (records_of p)) pins
  pins_decide = (
    λ apart. (decided.0 (and_from (nat_le (end + 0) end) (list_all (is_apart extent) pins) (le-leb (end + 0) end (omega arith)) apart)).free,
    λ free. (and_parts (nat_le (end + 0) end) (list_all (is_apart extent) pins) (decided.1 (record { old = outside; free = free }))).1,
  )

  -- What the code tests decides.
  pub known_decides : (seconds s : ℕ) (held : List Record) → AreAmong (records_of p) held → IsLastSecond s held → IsTrue (goes seconds pins s k) ↔ MayGoAsKnown seconds pins held p
  known_decides seconds s held own lasts = (
    λ passed.
        let parts = and_parts (nat_le (k.summary.last_second + seconds) s) (list_all (is_apart (known_of k)) pins) passed in
        record {
          old = λ end newest end_is newest_is.
              let a : k.summary.last_second ≡ end = same_Some k.summary.last_second end (sym (known_ends p k is) ∙ end_is) in
              let b : s ≡ second newest.tick = lasts newest newest_is in
              let c = leb-true (k.summary.last_second + seconds) s parts.0 in
              omega (arith, a, b, c);
          free = pins_decide.0 parts.1;
        },
    λ may.
        let newest = last_there held (λ none. none_contained ends.0 (subst (λ (rs : List Record). Contains rs ends.0) none (All-contains (Contains held) (records_of p) ends.0 own (last_contained (records_of p) ends.0 ends.1)))) in
        let far = may.old k.summary.last_second newest.0 (known_ends p k is) newest.1 in
        let b : s ≡ second newest.0.tick = lasts newest.0 newest.1 in
        and_from (nat_le (k.summary.last_second + seconds) s) (list_all (is_apart (known_of k)) pins) (le-leb (k.summary.last_second + seconds) s (omega (arith, far, b))) (pins_decide.1 may.free),
  )

-- A segment without records may always go.
pub empty_goes : (seconds : ℕ) (pins : List Pin) (held : List Record) (p : Placed) → HasNone p → MayGoAsKnown seconds pins held p
empty_goes seconds pins held p none = record {
  old = λ ends newest is _. absurd (none-some ends (sym (nothing p.segment.header.summary (records_of p) none) ∙ is));
  free = all_from (λ pin. HaveNoPlace pin.a pin.b (records_of p)) pins (λ pin m. subst (HaveNoPlace pin.a pin.b) (sym none) (All-nil (λ r. within pin.a pin.b r ≡ false)));
}
  where
    nothing : (o : Option Summary) (rs : List Record) → rs ≡ [] → end_second o rs ≡ None
    nothing o rs e = ap (end_second o) e

-- By its records

-- No record is behind the second in which the segment ends.
abbrev EndsAt : Option Summary → List Record → Type 0
EndsAt o rs = (rs ≡ []) ⊎ ((n : ℕ) × (end_second o rs ≡ Some n) × All (λ r. second r.tick ≤ n) rs)

module _ (seconds : ℕ) (pins : List Pin) (held : List Record) (p : Placed) (own : AreAmong (records_of p) held) where
  outside_known : MayGoAsKnown seconds pins held p → EndsAt p.segment.header.summary (records_of p) → (o : Option Record) → last held ≡ o → AreOutside seconds held (records_of p)
  outside_known may at None is = all_from (λ r. Contains (window seconds held) r → ⊥) (records_of p) (λ r m.
      absurd (none_contained r (subst (λ (rs : List Record). Contains rs r) (nil_from_last held is) (All-contains (Contains held) (records_of p) r own m))))
  outside_known may (inl none) (Some newest) is = all_from (λ r. Contains (window seconds held) r → ⊥) (records_of p) (λ r m. absurd (none_contained r (subst (λ (rs : List Record). Contains rs r) none m)))
  outside_known may (inr (n, ends, all)) (Some newest) is = all_from (λ r. Contains (window seconds held) r → ⊥) (records_of p) (λ r m.
      let far = may.old n newest ends is in
      let le = All-contains (λ r. second r.tick ≤ n) (records_of p) r all m in
      outside_by_test seconds held newest r is (omega (arith, far, le)))

  goes_where_known : EndsAt p.segment.header.summary (records_of p) → MayGoAsKnown seconds pins held p → MayGo seconds pins held (batches_of p)
  goes_where_known at may = record { old = outside_known may at (last held) refl; free = may.free }

  -- where it is exact, the other way round
  exact_end : (o : Option Summary) → IfSome o (IsExact p) → end_second o (records_of p) ≡ end_second None (records_of p)
  exact_end None exact = refl
  exact_end (Some s) exact = exact_ends (records_of p) s exact.summary

  own_end : (rs : List Record) (n : ℕ) → end_second None rs ≡ Some n → (r : Record) × (last rs ≡ Some r) × (second r.tick ≡ n)
  own_end [] n is = absurd (none-some n is)
  own_end (x ∷ xs) n is = (last_after x xs, refl, same_Some (second (last_after x xs).tick) n is)

  pub known_where_goes : IsExactlySummarized p → MayGo seconds pins held (batches_of p) → MayGoAsKnown seconds pins held p
  known_where_goes exact may = record {
    old = λ ends newest is newest_is.
        let at = own_end (records_of p) ends (sym (exact_end p.segment.header.summary exact) ∙ is) in
        let there : Contains (records_of p) at.0 = last_contained (records_of p) at.0 at.1 in
        let same = at.2 in
        ⊎_elim
        (λ (close : second newest.tick < ends + seconds). absurd (All-contains (λ r. Contains (window seconds held) r → ⊥) (records_of p) at.0 may.old there
        (in_the_window seconds held at.0 (record { newest = newest; ends = newest_is; there = All-contains (Contains held) (records_of p) at.0 own there; close = omega (arith, close, same) }))))
        (λ (far : ends + seconds ≤ second newest.tick). far)
        (cases_lt (second newest.tick) (ends + seconds));
    free = may.free;
  }

  -- the records of a segment in order
  at_order : (o : Option Summary) (rs : List Record) → NeverFalls 0 rs → IfSome o (λ s. All (IsCovered s) rs) → EndsAt o rs
  at_order o [] falls covers = inl refl
  at_order None (x ∷ xs) falls covers =
      inr (second (last_after x xs).tick, refl, all_from (λ r. second r.tick ≤ second (last_after x xs).tick) (x ∷ xs) (λ r m. last_tick (x ∷ xs) (last_after x xs) r falls refl m))
  at_order (Some s) (x ∷ xs) falls covers = inr (s.last_second, refl, All-weaker (IsCovered s) (λ r. second r.tick ≤ s.last_second) (λ r c. c.no_later) (x ∷ xs) covers)

  covered : (o : Option Summary) → IfSome o (Agrees p) → IfSome o (λ s. All (IsCovered s) (records_of p))
  covered None agrees = tt
  covered (Some s) agrees = agrees.covered

  -- A segment in order that may go as known may go.
  pub goes_in_order : RunsOn p → IfSome p.segment.header.summary (Agrees p) → MayGoAsKnown seconds pins held p → MayGo seconds pins held (batches_of p)
  goes_in_order runs agrees = goes_where_known (at_order p.segment.header.summary (records_of p) runs.ticks (covered p.segment.header.summary agrees))

  -- One of which the summary is exact as well, by the order of its records alone.
  at_exactly : (o : Option Summary) (rs : List Record) → records_of p ≡ rs → IfSome o (IsExact p) → RunInOrder rs → EndsAt o rs
  at_exactly o [] e exact order = inl refl
  at_exactly o (x ∷ xs) e exact order = inr (
    second (last_after x xs).tick,
    ap (end_second o) (sym e) ∙ exact_end o exact ∙ ap (end_second None) e,
    all_from (λ r. second r.tick ≤ second (last_after x xs).tick) (x ∷ xs) (λ r m. let le = latest x xs r order m in omega (arith, le)),
  )

  pub goes_exactly : IsExactlySummarized p → RunInOrder (records_of p) → MayGoAsKnown seconds pins held p → MayGo seconds pins held (batches_of p)
  goes_exactly exact order = goes_where_known (at_exactly p.segment.header.summary (records_of p) refl exact order)

pub goes_by_records : (seconds : ℕ) (pins : List Pin) (placed : List Placed) (p : Placed) → AreInOrder placed → Contains placed p → MayGoAsKnown seconds pins (all_records placed) p → MayGo seconds pins (all_records placed) (batches_of p)
goes_by_records seconds pins placed p order m = goes_in_order seconds pins (all_records placed) p (own_records placed p m) (runs_on None placed order p m) (agrees None placed order p m)
