-- Windows in which no place is skipped.
use Rattle.std.proofs.Common.{ℕ, suc, ◌+◌, ◌<◌, ◌≤◌, List, [], ◌∷◌, ◌++◌, length, Bool, true, false, filter, All, Contains, Option, Some, None, ◌≡◌, ⊎_elim, refl, sym, ap, ◌∙◌, subst, arith, add-zero, append-nil}
use Rattle.std.proofs.lemmas.Bool.{cases_Bool, cond-true, cond-false, eq-eqb, ltb-true, lt-ltb}
use Rattle.std.proofs.lemmas.List.Elements.{All-contains, All-head, All-tail}
use Rattle.vdr_terms.specs.Records.{Record, second, last_after, last}
use Rattle.vdr_terms.specs.Order.{AreInOrder, RunOn}
use Rattle.vdr_terms.specs.Windows.{in_window, window_before}
use Rattle.vdr_terms.proofs.Running.{run_on_join, last_of_run}
use Rattle.vdr_core.specs.Histories.{Event, MayFollow, Opening, all_records, recorded}
use Rattle.vdr_durability.specs.Regular.{FollowOn}
use Rattle.vdr_durability.specs.Retention.{Holds}
use Rattle.vdr_durability.proofs.Lists.{all_from, last_behind, last_contained}
use Rattle.vdr_durability.proofs.Ordered.{IsBefore, filter_in_order, parts_in_order, run_on_in_order, same_window}
use Rattle.vdr_durability.proofs.Following.{follow_in_order}
use Rattle.vdr_durability.proofs.Retained.{second_rises}
use Rattle.vdr_durability.specs.Readings.{Reading, next_after, records_on, restored}
use Rattle.vdr_durability.specs.Shown.{Shows}
use Rattle.vdr_durability.specs.Soundness.{IsUnbroken}
use Rattle.vdr_durability.proofs.Restored.{EndsIn, ends_in}
use Rattle.vdr_durability.proofs.Regular.{follows_end}
use Rattle.vdr_durability.proofs.Reopened.{events_run, retained}

-- What a filter leaves

filter_all : (p : Record → Bool) (xs : List Record) → All (λ x. p x ≡ true) xs → filter p xs ≡ xs
filter_all p [] h = refl
filter_all p (x ∷ xs) h =
    cond-true (p x) (x ∷ filter p xs) (filter p xs) (All-head (λ x. p x ≡ true) x xs h) ∙ ap (λ (ys : List Record). x ∷ ys) (filter_all p xs (All-tail (λ x. p x ≡ true) x xs h))

filter_append : (p : Record → Bool) (xs ys : List Record) → filter p (xs ++ ys) ≡ filter p xs ++ filter p ys
filter_append p [] ys = refl
filter_append p (x ∷ xs) ys =
    ⊎_elim
    (λ (e : p x ≡ true). cond-true (p x) (x ∷ filter p (xs ++ ys)) (filter p (xs ++ ys)) e ∙ ap (λ (zs : List Record). x ∷ zs) (filter_append p xs ys)
    ∙ ap (λ (zs : List Record). zs ++ filter p ys) (sym (cond-true (p x) (x ∷ filter p xs) (filter p xs) e)))
    (λ (e : p x ≡ false). cond-false (p x) (x ∷ filter p (xs ++ ys)) (filter p (xs ++ ys)) e ∙ filter_append p xs ys
    ∙ ap (λ (zs : List Record). zs ++ filter p ys) (sym (cond-false (p x) (x ∷ filter p xs) (filter p xs) e)))
    (cases_Bool (p x))

-- a narrower test, of what a wider one leaves
filter_twice : (p q : Record → Bool) → ((r : Record) → p r ≡ true → q r ≡ true) → (xs : List Record) → filter p (filter q xs) ≡ filter p xs
filter_twice p q wider [] = refl
filter_twice p q wider (x ∷ xs) =
    ⊎_elim
    (λ (e : p x ≡ true).
    ap (filter p) (cond-true (q x) (x ∷ filter q xs) (filter q xs) (wider x e))
    ∙ cond-true (p x) (x ∷ filter p (filter q xs)) (filter p (filter q xs)) e
    ∙ ap (λ (zs : List Record). x ∷ zs) (filter_twice p q wider xs)
    ∙ sym (cond-true (p x) (x ∷ filter p xs) (filter p xs) e))
    (λ (e : p x ≡ false). dropped e ∙ filter_twice p q wider xs ∙ sym (cond-false (p x) (x ∷ filter p xs) (filter p xs) e))
    (cases_Bool (p x))
  where
    dropped : p x ≡ false → filter p (filter q (x ∷ xs)) ≡ filter p (filter q xs)
    dropped e = ⊎_elim
        (λ (k : q x ≡ true). ap (filter p) (cond-true (q x) (x ∷ filter q xs) (filter q xs) k) ∙ cond-false (p x) (x ∷ filter p (filter q xs)) (filter p (filter q xs)) e)
        (λ (k : q x ≡ false). ap (filter p) (cond-false (q x) (x ∷ filter q xs) (filter q xs) k))
        (cases_Bool (q x))

-- The window behind a second

abbrev is_recent : ℕ → ℕ → Record → Bool
is_recent newest seconds r = in_window (second r.tick) newest seconds

-- later ones are in it too
later_is_recent : (newest seconds : ℕ) (r s : Record) → r.tick ≤ s.tick → is_recent newest seconds r ≡ true → is_recent newest seconds s ≡ true
later_is_recent newest seconds r s later h =
    let a = ltb-true newest (second r.tick + seconds) h in
    let b = second_rises r.tick s.tick later in
    lt-ltb newest (second s.tick + seconds) (omega (arith, a, b))

-- Of records whose places run on, those from a second on run on too.
recent_run : (newest seconds place : ℕ) (rs : List Record) → AreInOrder rs → RunOn place rs → (q : ℕ) × RunOn q (filter (is_recent newest seconds) rs)
recent_run newest seconds place [] order run = (place, tt)
recent_run newest seconds place (r ∷ rs) (first, more) (at, run) =
    ⊎_elim
    (λ (e : is_recent newest seconds r ≡ true). whole e)
    (λ (e : is_recent newest seconds r ≡ false). subst (λ (xs : List Record). (q : ℕ) × RunOn q xs)
    (sym (cond-false (is_recent newest seconds r) (r ∷ filter (is_recent newest seconds) rs) (filter (is_recent newest seconds) rs) e))
    (recent_run newest seconds (suc place) rs more run))
    (cases_Bool (is_recent newest seconds r))
  where
    whole : is_recent newest seconds r ≡ true → (q : ℕ) × RunOn q (filter (is_recent newest seconds) (r ∷ rs))
    whole e = (
      place,
      subst (RunOn place)
          (sym (cond-true (is_recent newest seconds r) (r ∷ filter (is_recent newest seconds) rs) (filter (is_recent newest seconds) rs) e
          ∙ ap (λ (xs : List Record). r ∷ xs) (filter_all (is_recent newest seconds) rs
          (all_from (λ s. is_recent newest seconds s ≡ true) rs (λ s c. later_is_recent newest seconds r s (All-contains (IsBefore r) rs s first c).1 e)))))
          (at, run),
    )

-- Nothing, and less of it

pub unbroken_nothing : (seconds : ℕ) → IsUnbroken seconds []
unbroken_nothing seconds = (0, tt)

unbroken_from : (seconds : ℕ) (records : List Record) (o : Option Record) → last records ≡ o → (place : ℕ) × RunOn place (window_before o seconds records) → IsUnbroken seconds records
unbroken_from seconds records o e h = subst (λ (o : Option Record). (place : ℕ) × RunOn place (window_before o seconds records)) (sym e) h

pub unbroken_less : (fewer seconds : ℕ) (records : List Record) → fewer ≤ seconds → AreInOrder records → IsUnbroken seconds records → IsUnbroken fewer records
unbroken_less fewer seconds records short order h = go (last records) refl
  where
    go : (o : Option Record) → last records ≡ o → IsUnbroken fewer records
    go None e = unbroken_from fewer records None e (0, tt)
    go (Some newest) e =
        let w : (place : ℕ) × RunOn place (filter (is_recent (second newest.tick) seconds) records) =
        subst (λ (o : Option Record). (place : ℕ) × RunOn place (window_before o seconds records)) e h in
        unbroken_from fewer records (Some newest) e
        (subst (λ (xs : List Record). (q : ℕ) × RunOn q xs)
        (filter_twice (is_recent (second newest.tick) fewer) (is_recent (second newest.tick) seconds) (wider newest) records)
        (recent_run (second newest.tick) fewer w.0 (filter (is_recent (second newest.tick) seconds) records)
        (filter_in_order (is_recent (second newest.tick) seconds) records order) w.1))
      where
        wider : (newest r : Record) → is_recent (second newest.tick) fewer r ≡ true → is_recent (second newest.tick) seconds r ≡ true
        wider newest r k = let a = ltb-true (second newest.tick) (second r.tick + fewer) k in lt-ltb (second newest.tick) (second r.tick + seconds) (omega (arith, a, short))

-- A batch that follows

is_some : (a b : Record) → Some a ≡ Some b → a ≡ b
is_some a b e = cc

-- the window ends with the last record
window_ends : (seconds : ℕ) (records : List Record) (newest : Record) → 0 < seconds → last records ≡ Some newest
    → last (filter (is_recent (second newest.tick) seconds) records) ≡ Some newest
window_ends seconds records newest some e =
    let k : EndsIn records newest = ends_in records newest e in
    ap (λ (xs : List Record). last (filter p xs)) k.split
    ∙ ap last (filter_append p k.front (newest ∷ []))
    ∙ ap (λ (xs : List Record). last (filter p k.front ++ xs)) (cond-true (p newest) (newest ∷ []) [] there)
    ∙ last_behind (filter p k.front) newest []
  where
    p : Record → Bool
    p = is_recent (second newest.tick) seconds

    there : p newest ≡ true
    there = lt-ltb (second newest.tick) (second newest.tick + seconds) (omega (arith, some))

run_ends : (place : ℕ) (rs : List Record) (newest : Record) → RunOn place rs → last rs ≡ Some newest → place + length rs ≡ suc newest.place
run_ends place [] newest run e = absurd (none e)
  where
    none : None ≡ Some newest → ⊥
    none e = cc
run_ends place (r ∷ rs) newest run e =
    let a = last_of_run place r rs run in
    let b = ap (λ (r : Record). r.place) (is_some (last_after r rs) newest e) in
    omega (arith, a, b)

pub unbroken_follows : (seconds : ℕ) (all batch : List Record) → 0 < seconds → AreInOrder all → FollowOn (last all) batch → IsUnbroken seconds all → IsUnbroken seconds (all ++ batch)
unbroken_follows seconds all [] some order follow h = subst (IsUnbroken seconds) (sym (append-nil all)) h
unbroken_follows seconds [] (y ∷ ys) some order (place, run, rises) h = recent_run (second (last_after y ys).tick) seconds place (y ∷ ys) (run_on_in_order place 0 (y ∷ ys) run rises) run
unbroken_follows seconds (x ∷ xs) (y ∷ ys) some order (run, rises) h =
    unbroken_from seconds (x ∷ xs ++ y ∷ ys) (Some newest) (last_behind (x ∷ xs) y ys)
    (subst (λ (rs : List Record). (q : ℕ) × RunOn q rs) same (recent_run (second newest.tick) seconds h.0 (held ++ y ∷ ys) ordered longer))
  where
    before : Record
    before = last_after x xs

    newest : Record
    newest = last_after y ys

    p : Record → Bool
    p = is_recent (second newest.tick) seconds

    q : Record → Bool
    q = is_recent (second before.tick) seconds

    held : List Record
    held = filter q (x ∷ xs)

    ends : last held ≡ Some before
    ends = window_ends seconds (x ∷ xs) before some refl

    in_held : AreInOrder held
    in_held = filter_in_order q (x ∷ xs) order

    follows : FollowOn (last held) (y ∷ ys)
    follows = subst (λ (o : Option Record). FollowOn o (y ∷ ys)) (sym ends) (run, rises)

    ordered : AreInOrder (held ++ y ∷ ys)
    ordered = follow_in_order held (y ∷ ys) in_held follows

    longer : RunOn h.0 (held ++ y ∷ ys)
    longer = run_on_join h.0 held (y ∷ ys) h.1 (subst (λ (n : ℕ). RunOn n (y ∷ ys)) (sym (run_ends h.0 held before h.1 ends)) run)

    later : before.tick ≤ newest.tick
    later = no_later_than (follow_in_order (x ∷ xs) (y ∷ ys) order (run, rises))
      where
        no_later_than : AreInOrder ((x ∷ xs) ++ y ∷ ys) → before.tick ≤ newest.tick
        no_later_than o = ((parts_in_order (x ∷ xs) (y ∷ ys) o).2 before newest (last_contained (x ∷ xs) before refl) (last_contained (y ∷ ys) newest refl)).1

    narrower : (r : Record) → p r ≡ true → q r ≡ true
    narrower r k =
        let a = ltb-true (second newest.tick) (second r.tick + seconds) k in
        let b = second_rises before.tick newest.tick later in
        lt-ltb (second before.tick) (second r.tick + seconds) (omega (arith, a, b))

    same : filter p (held ++ y ∷ ys) ≡ filter p (x ∷ xs ++ y ∷ ys)
    same = filter_append p held (y ∷ ys) ∙ ap (λ (rs : List Record). rs ++ filter p (y ∷ ys)) (filter_twice p q narrower (x ∷ xs)) ∙ sym (filter_append p (x ∷ xs) (y ∷ ys))

-- What is held of it

pub unbroken_held : (seconds : ℕ) (all held : List Record) → AreInOrder all → AreInOrder held → Holds seconds all held → IsUnbroken seconds all → IsUnbroken seconds held
unbroken_held seconds all held order order' h k = (k.0, subst (RunOn k.0) (sym (same_window seconds all held order order' h)) k.1)

-- Along a history, and on media that show one

pub unbroken_along : (seconds m : ℕ) (opening : Opening) (events : List Event) → 0 < seconds → opening.next_place ≡ next_after (last (opening.records m)) → MayFollow opening [] events
    → AreInOrder (all_records opening m events) → IsUnbroken seconds (opening.records m) → IsUnbroken seconds (all_records opening m events)
unbroken_along seconds m opening events some next follow order h = go (recorded events) (subst (λ (n : ℕ). RunOn n (recorded events)) (add-zero opening.next_place) (events_run opening [] events follow)) order
  where
    go : (rs : List Record) → RunOn opening.next_place rs → AreInOrder (opening.records m ++ rs) → IsUnbroken seconds (opening.records m ++ rs)
    go [] run o = subst (IsUnbroken seconds) (sym (append-nil (opening.records m))) h
    go (r ∷ rs) run o = unbroken_follows seconds (opening.records m) (r ∷ rs) some (parts_in_order (opening.records m) (r ∷ rs) o).0
        (follows_end (opening.records m) (r ∷ rs) opening.next_place run (eq-eqb r.place (next_after (last (opening.records m))) (run.0 ∙ next)) o) h

pub unbroken_shown : (members : List ℕ) (opening : Opening) (events : List Event) (reading : Reading) (m : ℕ) → Shows members opening events reading → Contains members m
    → AreInOrder (all_records opening m events) → AreInOrder (records_on (restored members reading) m)
    → IsUnbroken (opening.settings.seconds m) (all_records opening m events) → IsUnbroken (opening.settings.seconds m) (records_on (restored members reading) m)
unbroken_shown members opening events reading m shown there order order' h =
    unbroken_held (opening.settings.seconds m) (all_records opening m events) (records_on (restored members reading) m) order order' (retained members opening events reading shown m there).window h
