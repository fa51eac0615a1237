-- All that is so of two media is said, and nothing else.
use Rattle.std.proofs.Common.{◌≡◌, ◌↔◌, ⊎_elim, ℕ, Bool, true, false, cond, flat_map, List, [], ◌∷◌, All, Contains, Some, None, refl, sym, ap, ◌∙◌, subst, arith}
use Rattle.std.proofs.lemmas.List.Elements.{Contains-append_cases}
use Rattle.vdr_terms.specs.Records.{Record, second}
use Rattle.vdr_terms.specs.Windows.{in_window}
use Rattle.vdr_durability.proofs.Lists.{all_from, contains_flat, contains_here, contains_there, none_contained}
use Rattle.vdr_compare.specs.declared.difference.Difference.{Difference}
use Rattle.vdr_compare.specs.declared.difference.Difference.TheVariants.{Differs, Lacks}
use Rattle.vdr_compare.specs.declared.standing.Standing.{Standing}
use Rattle.vdr_compare.specs.declared.standing.Standing.TheVariants.{Both, Capsule, LongTerm}
use Rattle.vdr_compare.specs.declared.standing.Windows.{Windows}
use Rattle.vdr_compare.specs.Differences.{difference_at, differences, joined, said}
use Rattle.vdr_compare.specs.Laws.{AreLacking, Covers, DiffersThere, LacksThere, PlacesRise, SaysAll}
use Rattle.vdr_compare.specs.Standings.{standings}
use Rattle.vdr_compare.proofs.Places.{HasNoneAt, both_at, capsule_at, longterm_at, not_capsule, not_longterm}
use Rattle.vdr_compare.proofs.Runs.{IsRun, differs_joined, lacking_joined}
use Rattle.vdr_compare.proofs.SoRecords.{one_in, places_so, stands_so}

pub flat_from : {X Y : Type 0} (f : X → List Y) (xs : List X) (y : Y) → Contains (flat_map f xs) y → (x : X) × Contains xs x × Contains (f x) y
flat_from f [] y h = absurd (none_contained y h)
flat_from f (x ∷ xs) y h = ⊎_elim
    (λ (k : Contains (f x) y). (x, contains_here x xs, k))
    (λ (k : Contains (flat_map f xs) y). let r = flat_from f xs y k in (r.0, contains_there x xs r.0 r.1, r.2))
    (Contains-append_cases (f x) (flat_map f xs) y h)

-- What is said of one place

pub within_said : (within : Bool) (m at : ℕ) (x : Difference) → Contains (said (cond within (Some (Lacks m at at)) None)) x → (within ≡ true) × (Lacks m at at ≡ x)
within_said true m at x h = (refl, one_in (Lacks m at at) x h)
within_said false m at x h = absurd (none_contained x h)

run_said : (w : Windows) (s : Standing) (x : Difference) → Contains (said (difference_at w s)) x → IsRun x
run_said w (Both p true) x h = absurd (none_contained x h)
run_said w (Both p false) x h = subst IsRun (one_in (Differs p) x h) tt
run_said w (Capsule p t) x h = subst IsRun (within_said (in_window t w.last_second w.longterm) 1 p x h).1 (omega arith)
run_said w (LongTerm p t) x h = subst IsRun (within_said (in_window t w.last_second w.capsule) 0 p x h).1 (omega arith)

pub runs_said : (w : Windows) (places : List Standing) → All IsRun (differences w places)
runs_said w places = all_from IsRun (differences w places) (λ x h.
    let k = flat_from (λ s. said (difference_at w s)) places x h in run_said w k.0 x k.2)

-- Of a run of one place, which one that is.
one_place : (n at m place : ℕ) (x : Difference) → Lacks n at at ≡ x → Covers m place x → (n ≡ m) × (at ≡ place)
one_place n at m place x e c =
    let k = subst (Covers m place) (sym e) c in let l = k.1 in let u = k.2 in (k.0, omega (arith, l, u))

longterm_there : (w : Windows) (s : Standing) (x : Difference) (place : ℕ) → Contains (said (difference_at w s)) x → Covers 1 place x
    → (t : ℕ) × (s ≡ Capsule place t) × (in_window t w.last_second w.longterm ≡ true)
longterm_there w (Both p true) x place h c = absurd (none_contained x h)
longterm_there w (Both p false) x place h c = absurd (subst (Covers 1 place) (sym (one_in (Differs p) x h)) c)
longterm_there w (Capsule p t) x place h c =
    let k = within_said (in_window t w.last_second w.longterm) 1 p x h in
    (t, ap (λ (n : ℕ). Capsule n t) (one_place 1 p 1 place x k.1 c).1, k.0)
longterm_there w (LongTerm p t) x place h c =
    let k = within_said (in_window t w.last_second w.capsule) 0 p x h in
    let e = (one_place 0 p 1 place x k.1 c).0 in absurd (omega (arith, e))

capsule_there : (w : Windows) (s : Standing) (x : Difference) (place : ℕ) → Contains (said (difference_at w s)) x → Covers 0 place x
    → (t : ℕ) × (s ≡ LongTerm place t) × (in_window t w.last_second w.capsule ≡ true)
capsule_there w (Both p true) x place h c = absurd (none_contained x h)
capsule_there w (Both p false) x place h c = absurd (subst (Covers 0 place) (sym (one_in (Differs p) x h)) c)
capsule_there w (Capsule p t) x place h c =
    let k = within_said (in_window t w.last_second w.longterm) 1 p x h in
    let e = (one_place 1 p 0 place x k.1 c).0 in absurd (omega (arith, e))
capsule_there w (LongTerm p t) x place h c =
    let k = within_said (in_window t w.last_second w.capsule) 0 p x h in
    (t, ap (λ (n : ℕ). LongTerm n t) (one_place 0 p 0 place x k.1 c).1, k.0)

-- A place is covered by its own difference, which is said of it.
own_lack : (m place : ℕ) (within : Bool) → within ≡ true → Contains (said (cond within (Some (Lacks m place place)) None)) (Lacks m place place)
own_lack m place within e = subst (λ (b : Bool). Contains (said (cond b (Some (Lacks m place place)) None)) (Lacks m place place)) (sym e) (contains_here (Lacks m place place) [])

-- Of the places that medium m lacks, which `alone` says to be of the other one alone.
module _ (w : Windows) (places : List Standing) (m seconds : ℕ) (has lacks : List Record) (alone : (place t : ℕ) → Standing)
    (there : (s : Standing) (x : Difference) (place : ℕ) → Contains (said (difference_at w s)) x → Covers m place x → (t : ℕ) × (s ≡ alone place t) × (in_window t w.last_second seconds ≡ true))
    (own : (place t : ℕ) → in_window t w.last_second seconds ≡ true → Contains (said (difference_at w (alone place t))) (Lacks m place place))
    (so : (place t : ℕ) → Contains places (alone place t) → (r : Record) × Contains has r × (r.place ≡ place) × (second r.tick ≡ t))
    (no_other : (place t : ℕ) (s : Record) → s.place ≡ place → Contains places (alone place t) → Contains lacks s → ⊥)
    (at : (r : Record) → Contains has r → HasNoneAt lacks r.place → Contains places (alone r.place (second r.tick))) where
  told_lacks : (place : ℕ) → AreLacking m (joined (differences w places)) place → LacksThere w.last_second seconds has lacks place
  told_lacks place l =
      let f = (lacking_joined m place (differences w places) (runs_said w places)).0 l in
      let s = flat_from (λ s. said (difference_at w s)) places f.0 f.1 in
      let c = there s.0 f.0 place s.2 f.2 in
      let here : Contains places (alone place c.0) = subst (Contains places) c.1 s.1 in
      let r = so place c.0 here in
      record {
        record_there = r.0;
        there = r.1;
        at_place = r.2;
        owed = ap (λ (t : ℕ). in_window t w.last_second seconds) r.3 ∙ c.2;
        none = λ q among same. no_other place c.0 q same here among;
      }

  lacks_told : (place : ℕ) → LacksThere w.last_second seconds has lacks place → AreLacking m (joined (differences w places)) place
  lacks_told place l =
      let r = l.record_there in
      let here = at r l.there (λ s among same. l.none s among (same ∙ l.at_place)) in
      subst (AreLacking m (joined (differences w places))) l.at_place ((lacking_joined m r.place (differences w places) (runs_said w places)).1 (
        Lacks m r.place r.place,
        contains_flat (λ s. said (difference_at w s)) places (alone r.place (second r.tick)) (Lacks m r.place r.place) here (own r.place (second r.tick) l.owed),
        (refl, omega arith, omega arith),
      ))

  just_lacking : (place : ℕ) → AreLacking m (joined (differences w places)) place ↔ LacksThere w.last_second seconds has lacks place
  just_lacking place = (told_lacks place, lacks_told place)

module _ (w : Windows) (rs ss : List Record) (h : PlacesRise rs) (k : PlacesRise ss) where
  abbrev places : List Standing
  places = standings rs ss

  abbrev told : List Difference
  told = differences w places

  differs_so : (place : ℕ) → Contains (joined told) (Differs place) → DiffersThere rs ss place
  differs_so place m =
      let b = places_so rs ss (Both place false) (stands_so w places place ((differs_joined place told (runs_said w places)).0 m)) in
      (b.0, b.1, b.2, b.3, b.4, b.5, sym b.6)

  differs_said : (place : ℕ) → DiffersThere rs ss place → Contains (joined told) (Differs place)
  differs_said place d =
      let at : d.0.place ≡ d.1.place = d.4 ∙ sym d.5 in
      let here : Contains places (Both place false) = subst (Contains places) (λ i. Both (d.4 i) (d.6 i)) (both_at d.0 d.1 at rs ss h k d.2 d.3) in
      (differs_joined place told (runs_said w places)).1 (contains_flat (λ s. said (difference_at w s)) places (Both place false) (Differs place) here (contains_here (Differs place) []))

  pub says_all : SaysAll w rs ss
  says_all = record {
    differs = λ place. (differs_so place, differs_said place);
    capsule = just_lacking w places 0 w.capsule ss rs (λ place t. LongTerm place t) (capsule_there w)
        (λ place t within. own_lack 0 place (in_window t w.last_second w.capsule) within)
        (λ place t here. places_so rs ss (LongTerm place t) here)
        (λ place t r same here among. not_longterm place t r same rs ss h k here among)
        (λ s among none. longterm_at s rs ss among none);
    longterm = just_lacking w places 1 w.longterm rs ss (λ place t. Capsule place t) (longterm_there w)
        (λ place t within. own_lack 1 place (in_window t w.last_second w.longterm) within)
        (λ place t here. places_so rs ss (Capsule place t) here)
        (λ place t s same here among. not_capsule place t s same rs ss h k here among)
        (λ r among none. capsule_at r rs ss among none);
  }
