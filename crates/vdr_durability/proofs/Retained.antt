-- What a medium holds is kept as a batch is appended and a victim removed.
use Rattle.std.proofs.Common.{ℕ, ◌+◌, ◌<◌, ◌≤◌, List, [], ◌∷◌, ◌++◌, Bool, true, false, Contains, Option, Some, None, ◌≡◌, ⊎_elim, refl, sym, ap, ◌∙◌, subst, arith, append-nil, append_assoc}
use Rattle.std.proofs.lemmas.Bool.{ltb-true, lt-ltb}
use Rattle.std.proofs.lemmas.List.Elements.{All-contains, Contains-append_left, Contains-append_right, Contains-append_cases}
use Rattle.vdr_terms.specs.Records.{Record, second, last_after, last}
use Rattle.vdr_terms.specs.Windows.{in_window, window_before, window}
use Rattle.vdr_durability.specs.Retention.{AreAmong, AreOutside, HaveNoPlace, Holds, HoldsPlaces, IsNoEarlier, at_places, within}
use Rattle.vdr_durability.proofs.Lists.{none_contained, contains_filter, filter_was, filter_test, all_from, last_behind, last_contained}

-- a record in the window: what it is there by
pub record IsRecent (seconds : ℕ) (all : List Record) (r : Record) : Type 0 where
  pub newest : Record
  pub ends : last all ≡ Some newest
  pub there : Contains all r
  pub close : second newest.tick < second r.tick + seconds

pub recent : (seconds : ℕ) (all : List Record) (r : Record) → Contains (window seconds all) r → IsRecent seconds all r
recent seconds all r h = go (last all) refl h
  where
    go : (o : Option Record) → last all ≡ o → Contains (window_before o seconds all) r → IsRecent seconds all r
    go None e k = absurd (none_contained r k)
    go (Some newest) e k = record {
      newest = newest;
      ends = e;
      there = filter_was (λ (r : Record). in_window (second r.tick) (second newest.tick) seconds) all r k;
      close = ltb-true (second newest.tick) (second r.tick + seconds) (filter_test (λ (r : Record). in_window (second r.tick) (second newest.tick) seconds) all r k);
    }

pub in_the_window : (seconds : ℕ) (all : List Record) (r : Record) → IsRecent seconds all r → Contains (window seconds all) r
in_the_window seconds all r h = subst (λ (o : Option Record). Contains (window_before o seconds all) r) (sym h.ends)
    (contains_filter (λ (r : Record). in_window (second r.tick) (second h.newest.tick) seconds) all r h.there (lt-ltb (second h.newest.tick) (second r.tick + seconds) h.close))

pub second_rises : (a b : ℕ) → a ≤ b → second a ≤ second b
second_rises a b h = omega arith

same_newest : (o : Option Record) (a b : Record) → o ≡ Some a → o ≡ Some b → a ≡ b
same_newest o a b p q = cc

-- a record that was there before the batch, and is in the window with it, was in the window before
pub recent_before : (seconds : ℕ) (all batch : List Record) (r : Record) → IsNoEarlier (last all) (last (all ++ batch)) → Contains all r
    → Contains (window seconds (all ++ batch)) r → Contains (window seconds all) r
recent_before seconds all batch r later here h = go (last all) refl later
  where
    w : IsRecent seconds (all ++ batch) r
    w = recent seconds (all ++ batch) r h

    go : (o : Option Record) → last all ≡ o → IsNoEarlier o (last (all ++ batch)) → Contains (window seconds all) r
    go None e k = absurd (empty all e here)
      where
        empty : (xs : List Record) → last xs ≡ None → Contains xs r → ⊥
        empty [] e h = none_contained r h
        empty (x ∷ xs) e h = no e
          where
            no : Some (last_after x xs) ≡ None → ⊥
            no e = cc
    go (Some old) e k = in_the_window seconds all r (record {
      newest = old;
      ends = e;
      there = here;
      close =
          let rises : second old.tick ≤ second w.newest.tick = second_rises old.tick w.newest.tick (subst (λ (o : Option Record). IsNoEarlier (Some old) o) w.ends k) in
          let near : second w.newest.tick < second r.tick + seconds = w.close in
          omega arith;
    })

-- what one test of its second shows of a record
pub outside_by_test : (seconds : ℕ) (all : List Record) (newest r : Record) → last all ≡ Some newest → second r.tick + seconds ≤ second newest.tick → Contains (window seconds all) r → ⊥
outside_by_test seconds all newest r e far h =
    let w : IsRecent seconds all r = recent seconds all r h in
    let same : w.newest ≡ newest = same_newest (last all) w.newest newest w.ends e in
    let close : second newest.tick < second r.tick + seconds = subst (λ (n : Record). second n.tick < second r.tick + seconds) same w.close in
    omega arith

-- dropping a middle part
drop_middle : (before victim rest : List Record) (r : Record) → Contains (before ++ rest) r → Contains (before ++ (victim ++ rest)) r
drop_middle before victim rest r h =
    ⊎_elim
    (λ (k : Contains before r). Contains-append_left before (victim ++ rest) r k)
    (λ (k : Contains rest r). Contains-append_right before (victim ++ rest) r (Contains-append_right victim rest r k))
    (Contains-append_cases before rest r h)

without_middle : (before victim rest : List Record) (r : Record) → (Contains victim r → ⊥) → Contains (before ++ (victim ++ rest)) r → Contains (before ++ rest) r
without_middle before victim rest r not_there h =
    ⊎_elim
    (λ (k : Contains before r). Contains-append_left before rest r k)
    (λ (k : Contains (victim ++ rest) r). ⊎_elim
    (λ (m : Contains victim r). absurd (not_there m))
    (λ (m : Contains rest r). Contains-append_right before rest r m)
    (Contains-append_cases victim rest r k))
    (Contains-append_cases before (victim ++ rest) r h)

-- the last record is not in the victim, since it is in the window
last_without : (seconds : ℕ) (all before victim rest : List Record) → 0 < seconds → AreAmong (before ++ (victim ++ rest)) all
    → last (before ++ (victim ++ rest)) ≡ last all → AreOutside seconds all victim → last (before ++ rest) ≡ last all
last_without seconds all before victim (y ∷ ys) some own e outside =
    last_behind before y ys ∙ (sym (last_behind (before ++ victim) y ys) ∙ (ap last (append_assoc before victim (y ∷ ys)) ∙ e))
last_without seconds all before [] [] some own e outside = e
last_without seconds all before (v ∷ vs) [] some own e outside =
    let z : Record = last_after v (vs ++ []) in
    let ends : last all ≡ Some z = sym e ∙ last_behind before v (vs ++ []) in
    let there : Contains all z = last_contained all z ends in
    let here : Contains (v ∷ vs) z = last_contained (v ∷ vs) z (ap last (sym (append-nil (v ∷ vs)))) in
    absurd (All-contains (λ (r : Record). Contains (window seconds all) r → ⊥) (v ∷ vs) z outside here
    (in_the_window seconds all z (record { newest = z; ends = ends; there = there; close = omega arith })))

-- A victim whose records are all outside the window may go.
pub remove_keeps : (seconds : ℕ) (all before victim rest : List Record) → 0 < seconds → AreOutside seconds all victim
    → Holds seconds all (before ++ (victim ++ rest)) → Holds seconds all (before ++ rest)
remove_keeps seconds all before victim rest some outside h = record {
  own = all_from (Contains all) (before ++ rest) (λ r k. All-contains (Contains all) (before ++ (victim ++ rest)) r h.own (drop_middle before victim rest r k));
  newest = last_without seconds all before victim rest some h.own h.newest outside;
  recent = all_from (Contains (before ++ rest)) (window seconds all)
      (λ r k. without_middle before victim rest r
      (λ m. All-contains (λ (r : Record). Contains (window seconds all) r → ⊥) victim r outside m k)
      (All-contains (Contains (before ++ (victim ++ rest))) (window seconds all) r h.recent k));
}

last_of_both : (all held batch : List Record) → last held ≡ last all → last (held ++ batch) ≡ last (all ++ batch)
last_of_both all held [] e = ap last (append-nil held) ∙ (e ∙ ap last (sym (append-nil all)))
last_of_both all held (y ∷ ys) e = last_behind held y ys ∙ sym (last_behind all y ys)

-- each of these with the batch is among those with the batch
among_with : (these those batch : List Record) → AreAmong these those → AreAmong (these ++ batch) (those ++ batch)
among_with these those batch h = all_from (Contains (those ++ batch)) (these ++ batch)
    (λ r k. ⊎_elim
    (λ (m : Contains these r). Contains-append_left those batch r (All-contains (Contains those) these r h m))
    (λ (m : Contains batch r). Contains-append_right those batch r m)
    (Contains-append_cases these batch r k))

-- A batch that ends no earlier may be appended.
pub append_keeps : (seconds : ℕ) (all held batch : List Record) → IsNoEarlier (last all) (last (all ++ batch))
    → Holds seconds all held → Holds seconds (all ++ batch) (held ++ batch)
append_keeps seconds all held batch later h = record {
  own = among_with held all batch h.own;
  newest = last_of_both all held batch h.newest;
  recent = all_from (Contains (held ++ batch)) (window seconds (all ++ batch))
      (λ r k. ⊎_elim
      (λ (m : Contains all r). Contains-append_left held batch r
      (All-contains (Contains held) (window seconds all) r h.recent (recent_before seconds all batch r later m k)))
      (λ (m : Contains batch r). Contains-append_right held batch r m)
      (Contains-append_cases all batch r (recent seconds (all ++ batch) r k).there));
}

-- The places of an incident are kept when a batch is appended, and when a victim goes that has none of them.
pub append_keeps_places : (all held batch : List Record) (a b : ℕ) → HoldsPlaces all held a b → HoldsPlaces (all ++ batch) (held ++ batch) a b
append_keeps_places all held batch a b h = all_from (Contains (held ++ batch)) (at_places a b (all ++ batch))
    (λ r k. ⊎_elim
    (λ (m : Contains all r). Contains-append_left held batch r
    (All-contains (Contains held) (at_places a b all) r h (contains_filter (within a b) all r m (filter_test (within a b) (all ++ batch) r k))))
    (λ (m : Contains batch r). Contains-append_right held batch r m)
    (Contains-append_cases all batch r (filter_was (within a b) (all ++ batch) r k)))

pub remove_keeps_places : (all before victim rest : List Record) (a b : ℕ) → HaveNoPlace a b victim
    → HoldsPlaces all (before ++ (victim ++ rest)) a b → HoldsPlaces all (before ++ rest) a b
remove_keeps_places all before victim rest a b free h = all_from (Contains (before ++ rest)) (at_places a b all)
    (λ r k. without_middle before victim rest r
    (λ m. clash (within a b r) (filter_test (within a b) all r k) (All-contains (λ (r : Record). within a b r ≡ false) victim r free m))
    (All-contains (Contains (before ++ (victim ++ rest))) (at_places a b all) r h k))
  where
    clash : (t : Bool) → t ≡ true → t ≡ false → ⊥
    clash t p q = cc
