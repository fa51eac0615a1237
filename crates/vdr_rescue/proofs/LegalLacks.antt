-- No place that a medium owes lacks where its segments stand in a legal order and it kept what it is to keep.
use Rattle.std.proofs.Common.{◌≡◌, ◌⊎◌, ◌<◌, ◌≤◌, ◌+◌, ◌-◌, ◌&&◌, ℕ, suc, max, min, Bool, true, false, List, [], ◌∷◌, ◌++◌, length, map, filter, fold, Contains, Option, Some, None, inl, inr, ⊎_elim, refl, sym, ap, ◌∙◌, subst, arith, append_assoc}
use Rattle.std.specs.Prelude.{IfSome, if◌then◌else◌, is_some, nat_le, nat_lt, not, slice_get}
use Rattle.std.specs.List.{list_any}
use Rattle.std.proofs.lemmas.Bool.{and_from, and_parts, cases_Bool, cases_eq, cases_lt, leb-true, lt-ltb, ltb-true}
use Rattle.std.proofs.lemmas.List.Elements.{All-contains, Contains-append_cases, Contains-append_right}
use Rattle.std.proofs.lemmas.List.Folds.{list_any_none}
use Rattle.std.proofs.lemmas.Option.{none-some}
use Rattle.vdr_terms.specs.Records.{Record, last, last_after, second}
use Rattle.vdr_terms.specs.Order.{RunOn}
use Rattle.vdr_terms.specs.Windows.{in_window, window_before}
use Rattle.vdr_durability.specs.Soundness.{IsUnbroken}
use Rattle.vdr_durability.proofs.Lists.{all_from, contains_cases, contains_here, contains_there, last_behind, none_contained}
use Rattle.vdr_durability.proofs.Retained.{second_rises}
use Rattle.vdr_directory.specs.Lookup.{HoldAll}
use Rattle.vdr_directory.specs.Order.{AreInPlace, HasNone, HasPlace, RunsOn, next_place}
use Rattle.vdr_directory.specs.Sequence.{Placed, all_records, first_of, records_of, seq_of}
use Rattle.vdr_directory.proofs.Known.{IsEarlier, all_behind, runs_on}
use Rattle.vdr_directory.proofs.Ordering.{has_records}
use Rattle.vdr_rescue.specs.declared.lacking.Before.{Before}
use Rattle.vdr_rescue.specs.declared.lacking.Owed.{Owed}
use Rattle.vdr_rescue.specs.declared.lacking.Places.{Places}
use Rattle.vdr_rescue.specs.declared.told.Run.{Run}
use Rattle.vdr_rescue.specs.Lacking.{as_list, before_next, first_owed, greater, greatest, lacks_at, lacks_before, lacks_behind, least, may_go, missing, touches, until, up_to}
use Rattle.vdr_rescue.specs.Runs.{run_behind}
use Rattle.vdr_rescue.proofs.LegalFronts.{head_of}
use Rattle.vdr_rescue.proofs.LegalReading.{told_of}
use Rattle.vdr_rescue.proofs.LegalRuns.{HasRun, Seam, first_place, has_run, last_place, next_of_filter, next_of_run, seam, some_records}

-- Places that are asked for stand in no gap

earlier_front : (o : Option Placed) (front : List Placed) (q : Placed) (rest : List Placed) → AreInPlace o (front ++ q ∷ rest) → (x : Placed) → Contains front x → IsEarlier x q
earlier_front o [] q rest h x m = absurd (none_contained x m)
earlier_front o (y ∷ front) q rest h x m = ⊎_elim
    (λ (e : y ≡ x). subst (λ (z : Placed). IsEarlier z q) e (All-contains (IsEarlier y) (front ++ q ∷ rest) q (all_behind y (front ++ q ∷ rest) h.1) (within front)))
    (λ (k : Contains front x). earlier_front (Some y) front q rest h.1 x k)
    (contains_cases y front x m)
  where
    within : (xs : List Placed) → Contains (xs ++ q ∷ rest) q
    within [] = contains_here q rest
    within (z ∷ xs) = contains_there z (xs ++ q ∷ rest) q (within xs)

-- Nothing lacks

until_none : (from to : ℕ) → to ≤ from → until from to ≡ None
until_none from to le = let low : nat_lt from to ≡ false = search (arith, le) in ap (λ (b : Bool). if b then Some (record { a = from; b = to - 1 }) else None) low

up_to_none : (from b : ℕ) → b < from → up_to from b ≡ None
up_to_none from b lt = let low : nat_le from b ≡ false = search (arith, lt) in ap (λ (t : Bool). if t then Some (record { a = from; b = b }) else None) low

least_above : (n start : ℕ) (pins : List Places) → n ≤ start → ((pin : Places) → Contains pins pin → n ≤ pin.a) → n ≤ least start pins
least_above n start [] le h = le
least_above n start (p ∷ pins) le h = let own = h p (contains_here p pins) in least_above n (min start p.a) pins (omega (arith, le, own)) (λ pin m. h pin (contains_there p pins pin m))

greatest_below : (n : ℕ) (o : Option ℕ) (pins : List Places) → IfSome o (λ g. g < n) → ((pin : Places) → Contains pins pin → pin.b < n) → IfSome (fold greater o pins) (λ g. g < n)
greatest_below n o [] is h = is
greatest_below n None (p ∷ pins) is h = greatest_below n (Some p.b) pins (h p (contains_here p pins)) (λ pin m. h pin (contains_there p pins pin m))
greatest_below n (Some g) (p ∷ pins) is h = let own = h p (contains_here p pins) in greatest_below n (Some (max g p.b)) pins (omega (arith, is, own)) (λ pin m. h pin (contains_there p pins pin m))

none_or : (p : Placed) → HasNone p ⊎ (HasNone p → ⊥)
none_or p = go (records_of p) refl
  where
    go : (rs : List Record) → records_of p ≡ rs → HasNone p ⊎ (HasNone p → ⊥)
    go [] is = inl is
    go (r ∷ rs) is = inr (λ none. some_records r rs (sym is ∙ none))

-- Its places are before this one, or it has none.
abbrev EndsBy : Placed → ℕ → Type 0
EndsBy x end = (next_place x ≤ end) ⊎ HasNone x

abbrev before_of : (q : Placed) → HasRun q → Before
before_of q hq = record { seq = seq_of q; whole = true; run = hq.run }

pub record Keeps (o : Owed) (pins : List Places) (placed : List Placed) : Type 0 where
  pub order : AreInPlace None placed
  pub held : (pin : Places) → Contains pins pin → (pin.a ≤ pin.b) × HoldAll pin.a pin.b placed
  pub unbroken : IsUnbroken o.seconds (all_records placed)
  pub whole : 1 < o.closed → RunOn 0 (all_records placed)
  pub newest : (r : Record) → last (all_records placed) ≡ Some r → o.last_second ≡ second r.tick

module _ (o : Owed) (pins : List Places) (placed : List Placed) (k : Keeps o pins placed) where
  runs_at : (p : Placed) → Contains placed p → RunsOn p
  runs_at p m = runs_on None placed k.order p m

  -- a place of an incident stands in a segment
  found_at : (pin : Places) → Contains pins pin → (place : ℕ) → pin.a ≤ place → place ≤ pin.b → (x : Placed) × Contains placed x × HasPlace place x
  found_at pin m place low high =
      let h = (k.held pin m).1 place low high in
      let x : Placed = h.1 in
      let there : Contains placed x = (h.0, h.2, h.3) in
      let r : (x : Placed) × Contains placed x × HasPlace place x = (x, there, h.4) in r

  module _ (front : List Placed) (q p : Placed) (ps : List Placed) (split : placed ≡ front ++ q ∷ p ∷ ps) (behind : AreInPlace (Some q) (p ∷ ps)) (hq : HasRun q) (hp : HasRun p) where
    q_there : Contains placed q
    q_there = subst (λ (xs : List Placed). Contains xs q) (sym split) (Contains-append_right front (q ∷ p ∷ ps) q (contains_here q (p ∷ ps)))

    p_there : Contains placed p
    p_there = subst (λ (xs : List Placed). Contains xs p) (sym split) (Contains-append_right front (q ∷ p ∷ ps) p (contains_there q (p ∷ ps) p (contains_here p ps)))

    never_between : (place : ℕ) → next_place q ≤ place → place < first_of p → (x : Placed) → Contains placed x → HasPlace place x → ⊥
    never_between place low high x m h = ⊎_elim
        (λ (n : Contains front x).
        let e = (earlier_front None front q (p ∷ ps) (subst (AreInPlace None) split k.order) x n).1 in
        let below = h.below in
        omega (arith, e, below, low))
        (λ (n : Contains (q ∷ p ∷ ps) x). ⊎_elim
        (λ (e : q ≡ x). let same : next_place q ≡ next_place x = ap (λ (y : Placed). next_place y) e in let below = h.below in omega (arith, same, below, low))
        (λ (n : Contains (p ∷ ps) x). ⊎_elim
        (λ (e : p ≡ x). let same : first_of p ≡ first_of x = ap (λ (y : Placed). first_of y) e in let from = h.from in omega (arith, same, from, high))
        (λ (n : Contains ps x). let e = (All-contains (IsEarlier p) ps x (all_behind p ps behind.1) n).1 in let from = h.from in omega (arith, e, from, high))
        (contains_cases p ps x n))
        (contains_cases q (p ∷ ps) x n))
        (Contains-append_cases front (q ∷ p ∷ ps) x (subst (λ (xs : List Placed). Contains xs x) split m))

    module _ (gap : next_place q < first_of p) where
      untouched : (pin : Places) → Contains pins pin → touches (next_place q) (first_of p) pin ≡ false
      untouched pin m = ⊎_elim
          (λ (e : touches (next_place q) (first_of p) pin ≡ true).
          let both = and_parts (nat_lt pin.a (first_of p)) (nat_le (next_place q) pin.b) e in
          let lt = ltb-true pin.a (first_of p) both.0 in
          let le = leb-true (next_place q) pin.b both.1 in
          let order = (k.held pin m).0 in
          absurd (⊎_elim
          (λ (low : pin.a < next_place q). let f = found_at pin m (next_place q) (omega (arith, low)) le in never_between (next_place q) (omega arith) gap f.0 f.1 f.2)
          (λ (high : next_place q ≤ pin.a). let f = found_at pin m pin.a (omega arith) order in never_between pin.a high lt f.0 f.1 f.2)
          (cases_lt pin.a (next_place q))))
          (λ (e : touches (next_place q) (first_of p) pin ≡ false). e)
          (cases_Bool (touches (next_place q) (first_of p) pin))

      -- the two records at the seam are not one behind another
      never_next : hp.first.place ≡ suc (last_after hq.first hq.more).place → ⊥
      never_next e =
          let a = last_place q hq (runs_at q q_there) in
          let b = first_place p hp (runs_at p p_there) in
          omega (arith, gap, a, b, e)

      the_seam : Seam placed q p hq hp
      the_seam = subst (λ (xs : List Placed). Seam xs q p hq hp) (sym split) (seam front q p ps hq hp)

      few_closed : nat_lt o.closed 2 ≡ true
      few_closed = ⊎_elim
          (λ (lt : o.closed < 2). lt-ltb o.closed 2 lt)
          (λ (many : 2 ≤ o.closed). absurd (never_next (next_of_run 0 the_seam.before (last_after hq.first hq.more) hp.first the_seam.behind
          (subst (RunOn 0) the_seam.split (k.whole (omega (arith, many)))))))
          (cases_lt o.closed 2)

      old_enough : in_window hq.run.second o.last_second o.seconds ≡ false
      old_enough = ⊎_elim
          (λ (e : in_window hq.run.second o.last_second o.seconds ≡ true). absurd (never_next (within e (last (all_records placed)) refl)))
          (λ (e : in_window hq.run.second o.last_second o.seconds ≡ false). e)
          (cases_Bool (in_window hq.run.second o.last_second o.seconds))
        where
          within : in_window hq.run.second o.last_second o.seconds ≡ true → (end : Option Record) → last (all_records placed) ≡ end → hp.first.place ≡ suc (last_after hq.first hq.more).place
          within e None none = absurd (none-some (last_after (last_after hq.first hq.more) (hp.first ∷ the_seam.behind)) (sym none ∙ ap last the_seam.split ∙ last_behind the_seam.before (last_after hq.first hq.more) (hp.first ∷ the_seam.behind)))
          within e (Some newest) is =
              let w : Record → Bool = λ r. in_window (second r.tick) (second newest.tick) o.seconds in
              let at : in_window (second (last_after hq.first hq.more).tick) (second newest.tick) o.seconds ≡ true =
              sym (ap (λ (n : ℕ). in_window n o.last_second o.seconds) hq.ends ∙ ap (λ (n : ℕ). in_window (second (last_after hq.first hq.more).tick) n o.seconds) (k.newest newest is)) ∙ e in
              let rises : (last_after hq.first hq.more).tick ≤ hp.first.tick = behind.0.follows.ticks (last_after hq.first hq.more) hp.first (ap last hq.are) (ap (λ (rs : List Record). slice_get rs 0) hp.are) in
              let a = ltb-true (second newest.tick) (second (last_after hq.first hq.more).tick + o.seconds) at in
              let b = second_rises (last_after hq.first hq.more).tick hp.first.tick rises in
              let later : in_window (second hp.first.tick) (second newest.tick) o.seconds ≡ true = lt-ltb (second newest.tick) (second hp.first.tick + o.seconds) (omega (arith, a, b)) in
              next_of_filter w the_seam.before (last_after hq.first hq.more) hp.first the_seam.behind k.unbroken.0 at later
              (subst (λ (rs : List Record). RunOn k.unbroken.0 (filter w rs)) the_seam.split
              (subst (λ (end : Option Record). RunOn k.unbroken.0 (window_before end o.seconds (all_records placed))) is k.unbroken.1))

      goes : may_go o pins (before_of q hq) (head_of p) None hp.run ≡ true
      goes =
          let seq = behind.0.follows.seq in
          let far : nat_lt 1 (seq_of p - seq_of q) ≡ true = lt-ltb 1 (seq_of p - seq_of q) (far_apart seq) in
          let pins_away : list_any (touches (next_place q) (first_of p)) pins ≡ false = list_any_none (touches (next_place q) (first_of p)) pins (all_from (λ pin. touches (next_place q) (first_of p) pin ≡ false) pins untouched) in
          let away : list_any (touches hq.run.to hp.run.from) pins ≡ false = ap (λ (n : ℕ). list_any (touches n hp.run.from) pins) hq.to ∙ ap (λ (n : ℕ). list_any (touches (next_place q) n) pins) hp.from ∙ pins_away in
          and_from (nat_lt 1 (seq_of p - seq_of q)) (nat_lt o.closed 2 && (not (in_window hq.run.second o.last_second o.seconds) && not (list_any (touches hq.run.to hp.run.from) pins))) far
          (and_from (nat_lt o.closed 2) (not (in_window hq.run.second o.last_second o.seconds) && not (list_any (touches hq.run.to hp.run.from) pins)) few_closed
          (and_from (not (in_window hq.run.second o.last_second o.seconds)) (not (list_any (touches hq.run.to hp.run.from) pins)) (ap not old_enough) (ap not away)))
        where
          far_apart : seq_of q < seq_of p → 1 < seq_of p - seq_of q
          far_apart lt = ⊎_elim
              (λ (e : seq_of p ≡ suc (seq_of q)). let joined = behind.0.follows.joined e in absurd (omega (arith, gap, joined)))
              (λ (ne : seq_of p ≡ suc (seq_of q) → ⊥). omega (arith, lt, ne))
              (cases_eq (seq_of p) (suc (seq_of q)))

    nothing_between : lacks_before o pins (Some (before_of q hq)) true (head_of p) None hp.run ≡ None
    nothing_between = ⊎_elim
        (λ (e : next_place q ≡ first_of p).
        let a = hq.to in
        let b = hp.from in
        either (may_go o pins (before_of q hq) (head_of p) None hp.run) (until_none hq.run.to hp.run.from (omega (arith, e, a, b))))
        (λ (ne : next_place q ≡ first_of p → ⊥).
        let le = behind.0.follows.place in
        ap (λ (b : Bool). if b then None else until hq.run.to hp.run.from) (goes (omega (arith, le, ne))))
        (cases_eq (next_place q) (first_of p))
      where
        either : (b : Bool) → until hq.run.to hp.run.from ≡ None → ◌≡◌ {A = Option Places} (if b then None else until hq.run.to hp.run.from) None
        either true e = refl
        either false e = e

  -- One segment after another

  pins_end : (end : ℕ) → ((x : Placed) → Contains placed x → EndsBy x end) → (pin : Places) → Contains pins pin → pin.b < end
  pins_end end ends pin m =
      let f = found_at pin m pin.b (k.held pin m).0 (omega arith) in
      let below = f.2.below in
      let from = f.2.from in
      ⊎_elim (λ (le : next_place f.0 ≤ end). omega (arith, le, below)) (λ (none : HasNone f.0). let long : length (records_of f.0) ≡ 0 = ap length none in absurd (omega (arith, long, below, from))) (ends f.0 f.1)

  behind_none : (end : ℕ) (b : Before) → b.run.to ≡ end → ((x : Placed) → Contains placed x → EndsBy x end) → lacks_behind o pins (Some b) (greatest pins) ≡ None
  behind_none end b to ends = go (greatest pins) (greatest_below end None pins tt (pins_end end ends))
    where
      go : (g : Option ℕ) → IfSome g (λ g. g < end) → lacks_behind o pins (Some b) g ≡ None
      go None h = refl
      go (Some g) h = up_to_none b.run.to g (omega (arith, to, h))

  module _ (p : Placed) (hp : HasRun p) (before : Option Before) (beside : Bool) (ps : List Placed) where
    step_some : missing o pins before beside (head_of p ∷ map head_of ps) (told_of p ∷ map told_of ps)
        ≡ as_list (lacks_before o pins before beside (head_of p) None hp.run) ++ missing o pins (Some (before_of p hp)) true (map head_of ps) (map told_of ps)
    step_some = ap (λ (r : Option Run). as_list (lacks_at o pins before beside (head_of p) None r) ++ missing o pins (before_next before (head_of p) None r) (is_some r) (map head_of ps) (map told_of ps)) hp.is

  step_none : (p : Placed) (before : Option Before) (beside : Bool) → HasNone p → missing o pins before beside (head_of p ∷ []) (told_of p ∷ []) ≡ as_list (lacks_behind o pins before (greatest pins))
  step_none p before beside none =
      ap (λ (rs : List Record). as_list (lacks_at o pins before beside (head_of p) None (run_behind None rs)) ++ missing o pins (before_next before (head_of p) None (run_behind None rs)) (is_some (run_behind None rs)) [] []) none

  ends_at : (front : List Placed) (q : Placed) (rest : List Placed) → placed ≡ front ++ q ∷ rest → ((x : Placed) → Contains rest x → EndsBy x (next_place q)) → (x : Placed) → Contains placed x → EndsBy x (next_place q)
  ends_at front q rest split h x m = ⊎_elim
      (λ (n : Contains front x). let e = (earlier_front None front q rest (subst (AreInPlace None) split k.order) x n).1 in inl (omega (arith, e)))
      (λ (n : Contains (q ∷ rest) x). ⊎_elim
      (λ (e : q ≡ x). inl (subst (λ (y : Placed). next_place y ≤ next_place q) e (omega arith)))
      (λ (n : Contains rest x). h x n)
      (contains_cases q rest x n))
      (Contains-append_cases front (q ∷ rest) x (subst (λ (xs : List Placed). Contains xs x) split m))

  pushed : (front : List Placed) (q p : Placed) (ps : List Placed) → placed ≡ front ++ q ∷ p ∷ ps → placed ≡ (front ++ q ∷ []) ++ p ∷ ps
  pushed front q p ps split = split ∙ sym (append_assoc front (q ∷ []) (p ∷ ps))

  there_at : (front : List Placed) (q : Placed) (rest : List Placed) → placed ≡ front ++ q ∷ rest → Contains placed q
  there_at front q rest split = subst (λ (xs : List Placed). Contains xs q) (sym split) (Contains-append_right front (q ∷ rest) q (contains_here q rest))

  missing_from : (front : List Placed) (q : Placed) (hq : HasRun q) (ps : List Placed) → placed ≡ front ++ q ∷ ps → AreInPlace (Some q) ps → missing o pins (Some (before_of q hq)) true (map head_of ps) (map told_of ps) ≡ []
  missing_from front q hq [] split behind = ap as_list (behind_none (next_place q) (before_of q hq) hq.to (ends_at front q [] split (λ x n. absurd (none_contained x n))))
  missing_from front q hq (p ∷ []) split behind = ⊎_elim
      (λ (none : HasNone p).
      step_none p (Some (before_of q hq)) true none
      ∙ ap as_list (behind_none (next_place q) (before_of q hq) hq.to (ends_at front q (p ∷ []) split
      (λ x n. ⊎_elim (λ (e : p ≡ x). inr (subst HasNone e none)) (λ (l : Contains [] x). absurd (none_contained x l)) (contains_cases p [] x n)))))
      (λ (some : HasNone p → ⊥).
      let hp = has_run p behind.0.runs_on some in
      step_some p hp (Some (before_of q hq)) true [] ∙ ap (λ (l : Option Places). as_list l ++ missing o pins (Some (before_of p hp)) true [] []) (nothing_between front q p [] split behind hq hp)
      ∙ missing_from (front ++ q ∷ []) p hp [] (pushed front q p [] split) behind.1)
      (none_or p)
  missing_from front q hq (p ∷ x ∷ ps) split behind =
      let hp = has_run p behind.0.runs_on (has_records p x ps behind.0.precedes) in
      step_some p hp (Some (before_of q hq)) true (x ∷ ps)
      ∙ ap (λ (l : Option Places). as_list l ++ missing o pins (Some (before_of p hp)) true (map head_of (x ∷ ps)) (map told_of (x ∷ ps))) (nothing_between front q p (x ∷ ps) split behind hq hp)
      ∙ missing_from (front ++ q ∷ []) p hp (x ∷ ps) (pushed front q p (x ∷ ps) split) behind.1

  -- from the first on
  first_is_owed : (p : Placed) (ps : List Placed) (hp : HasRun p) → placed ≡ p ∷ ps → hp.run.from ≤ first_owed o pins hp.run.from
  first_is_owed p ps hp split = ⊎_elim
      (λ (e : nat_lt 1 o.closed ≡ true).
      let on : RunOn 0 (records_of p ++ all_records ps) = subst (λ (xs : List Placed). RunOn 0 (all_records xs)) split (k.whole (ltb-true 1 o.closed e)) in
      let first : hp.first.place ≡ 0 = (subst (λ (rs : List Record). RunOn 0 (rs ++ all_records ps)) hp.are on).0 in
      let at = first_place p hp (runs_at p (there_at [] p ps split)) in
      let from = hp.from in
      let owed : first_owed o pins hp.run.from ≡ 0 = ap (λ (b : Bool). if b then 0 else least hp.run.from pins) e in
      omega (arith, first, at, from, owed))
      (λ (e : nat_lt 1 o.closed ≡ false).
      let owed : first_owed o pins hp.run.from ≡ least hp.run.from pins = ap (λ (b : Bool). if b then 0 else least hp.run.from pins) e in
      let low = least_above hp.run.from hp.run.from pins (omega arith) (λ pin m.
      let f = found_at pin m pin.a (omega arith) (k.held pin m).0 in
      let at = from_first f.0 (subst (λ (xs : List Placed). Contains xs f.0) split f.1) in
      let from = f.2.from in
      let here = hp.from in
      omega (arith, at, from, here)) in
      omega (arith, owed, low))
      (cases_Bool (nat_lt 1 o.closed))
    where
      from_first : (x : Placed) → Contains (p ∷ ps) x → first_of p ≤ first_of x
      from_first x m = ⊎_elim
          (λ (e : p ≡ x). subst (λ (y : Placed). first_of p ≤ first_of y) e (omega arith))
          (λ (n : Contains ps x). let e = (All-contains (IsEarlier p) ps x (all_behind p ps (subst (AreInPlace None) split k.order).1) n).1 in omega (arith, e))
          (contains_cases p ps x m)

  no_pins : ((x : Placed) → Contains placed x → HasNone x) → lacks_behind o pins None (greatest pins) ≡ None
  no_pins none = go (greatest pins) (greatest_below 0 None pins tt (λ pin m. pins_end 0 (λ x n. inr (none x n)) pin m))
    where
      go : (g : Option ℕ) → IfSome g (λ g. g < 0) → lacks_behind o pins None g ≡ None
      go None h = refl
      go (Some g) h = absurd (omega (arith, h))

  from_here : (p : Placed) (ps : List Placed) → placed ≡ p ∷ ps → HasRun p → missing o pins None false (map head_of (p ∷ ps)) (map told_of (p ∷ ps)) ≡ []
  from_here p ps split hp =
      step_some p hp None false ps
      ∙ ap (λ (l : Option Places). as_list l ++ missing o pins (Some (before_of p hp)) true (map head_of ps) (map told_of ps)) (until_none (first_owed o pins hp.run.from) hp.run.from (first_is_owed p ps hp split))
      ∙ missing_from [] p hp ps split (subst (AreInPlace None) split k.order).1

  missing_all : (ps : List Placed) → placed ≡ ps → missing o pins None false (map head_of ps) (map told_of ps) ≡ []
  missing_all [] split = ap as_list (no_pins (λ x n. absurd (none_contained x (subst (λ (xs : List Placed). Contains xs x) split n))))
  missing_all (p ∷ []) split = ⊎_elim
      (λ (none : HasNone p). step_none p None false none ∙ ap as_list (no_pins (λ x n. ⊎_elim
      (λ (e : p ≡ x). subst HasNone e none)
      (λ (l : Contains [] x). absurd (none_contained x l))
      (contains_cases p [] x (subst (λ (xs : List Placed). Contains xs x) split n)))))
      (λ (some : HasNone p → ⊥). from_here p [] split (has_run p (runs_at p (there_at [] p [] split)) some))
      (none_or p)
  missing_all (p ∷ x ∷ ps) split = from_here p (x ∷ ps) split (has_run p (runs_at p (there_at [] p (x ∷ ps) split)) (has_records p x ps (subst (AreInPlace None) split k.order).0.precedes))

  pub nothing_lacks : missing o pins None false (map head_of placed) (map told_of placed) ≡ []
  nothing_lacks = missing_all placed refl
