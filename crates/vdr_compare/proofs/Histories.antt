-- Media that give records of one history.
use Rattle.std.proofs.Common.{◌≡◌, ◌++◌, ◌<◌, ◌+◌, ℕ, true, false, fold, List, [], ◌∷◌, Contains, Some, refl, sym, ap, ◌∙◌, arith, true≢false}
use Rattle.std.proofs.lemmas.Bool.{ltb-true}
use Rattle.std.proofs.lemmas.List.Elements.{All-contains}
use Rattle.std.proofs.lemmas.Slice.Eq.{bytes_eq-Decides}
use Rattle.vdr_terms.specs.Records.{Record, last, last_after, second}
use Rattle.vdr_terms.specs.Windows.{in_window, window}
use Rattle.vdr_entry.specs.Spelling.{record_bytes}
use Rattle.vdr_durability.specs.Retention.{AreAmong, Holds}
use Rattle.vdr_durability.proofs.Lists.{contains_here, none_contained}
use Rattle.vdr_durability.proofs.Retained.{in_the_window}
use Rattle.vdr_compare.specs.declared.difference.Difference.{Difference}
use Rattle.vdr_compare.specs.declared.standing.Standing.{Standing}
use Rattle.vdr_compare.specs.declared.standing.Standing.TheVariants.{Both, Capsule, LongTerm}
use Rattle.vdr_compare.specs.declared.standing.Windows.{Windows}
use Rattle.vdr_compare.specs.Comparisons.{windows_of}
use Rattle.vdr_compare.specs.Conditions.{Condition, condition_text, first_verdict}
use Rattle.vdr_compare.specs.Differences.{difference_at, differences, joined, lines_of, said, same_line, same_places, verdict_with}
use Rattle.vdr_compare.specs.Laws.{DiffersThere, PlacesRise, SaysNothing, SaysOneHistory}
use Rattle.vdr_compare.specs.Seconds.{last_from, last_second}
use Rattle.vdr_compare.specs.Standings.{is_same, standings}
use Rattle.vdr_compare.proofs.Exact.{flat_from, says_all, within_said}
use Rattle.vdr_compare.proofs.Places.{not_capsule, not_longterm, one_at}
use Rattle.vdr_compare.proofs.SoRecords.{places_so}

-- Where no difference is said, nothing is.
pub says_nothing : (c : Condition) (w : Windows) (rs ss : List Record) → differences w (standings rs ss) ≡ [] → SaysNothing c w rs ss
says_nothing c w rs ss none = record {
  text = ap (λ (ds : List Difference). condition_text c ++ (lines_of (joined ds) ++ same_line (same_places (standings rs ss)))) none;
  verdict = ap (λ (ds : List Difference). fold verdict_with (first_verdict c) ds) none;
}

none_is : {X : Type 0} (xs : List X) → ((x : X) → Contains xs x → ⊥) → xs ≡ []
none_is [] none = refl
none_is (x ∷ xs) none = absurd (none x (contains_here x xs))

-- The second of the last record

last_from_is : (x : Record) (xs : List Record) → last_from (second x.tick) xs ≡ second (last_after x xs).tick
last_from_is x [] = refl
last_from_is x (y ∷ ys) = last_from_is y ys

last_second_is : (records : List Record) (newest : Record) → last records ≡ Some newest → last_second records ≡ second newest.tick
last_second_is [] newest e = let none : ⊥ = cc in absurd none
last_second_is (x ∷ xs) newest e = let same : last_after x xs ≡ newest = cc in last_from_is x xs ∙ ap (λ (r : Record). second r.tick) same

has_last : (records : List Record) (r : Record) → Contains records r → (newest : Record) × (last records ≡ Some newest)
has_last [] r h = absurd (none_contained r h)
has_last (x ∷ xs) r h = (last_after x xs, refl)

module _ (all rs ss : List Record) (rise : PlacesRise all) (h : PlacesRise rs) (k : PlacesRise ss) where
  no_difference : (place : ℕ) → AreAmong rs all → AreAmong ss all → DiffersThere rs ss place → ⊥
  no_difference place first second d =
      let one : d.0 ≡ d.1 = one_at all d.0 d.1 rise (All-contains (Contains all) rs d.0 first d.2) (All-contains (Contains all) ss d.1 second d.3) (d.4 ∙ sym d.5) in
      let same : is_same d.0 d.1 ≡ true = ap (is_same d.0) (sym one) ∙ (bytes_eq-Decides (record_bytes d.0) (record_bytes d.0)).1 refl in
      true≢false (sym same ∙ d.6)

  module _ (capsule_seconds longterm_seconds : ℕ) (p : Holds capsule_seconds all rs) (q : Holds longterm_seconds all ss) where
    abbrev w : Windows
    w = windows_of capsule_seconds longterm_seconds rs ss

    ends_at : (newest : Record) → last all ≡ Some newest → w.last_second ≡ second newest.tick
    ends_at newest e =
        let a : last_second rs ≡ second newest.tick = last_second_is rs newest (p.newest ∙ e) in
        let b : last_second ss ≡ second newest.tick = last_second_is ss newest (q.newest ∙ e) in
        omega (arith, a, b)

    -- A record of the history that is within the window is held.
    owed : (seconds : ℕ) (held : List Record) (r : Record) → Holds seconds all held → Contains all r → in_window (second r.tick) w.last_second seconds ≡ true → Contains held r
    owed seconds held r holds there within =
        let newest = has_last all r there in
        let close : w.last_second < second r.tick + seconds = ltb-true w.last_second (second r.tick + seconds) within in
        let ends = ends_at newest.0 newest.1 in
        All-contains (Contains held) (window seconds all) r holds.recent
        (in_the_window seconds all r (record { newest = newest.0; ends = newest.1; there = there; close = omega (arith, close, ends) }))

    none_said : (s : Standing) (x : Difference) → Contains (standings rs ss) s → Contains (said (difference_at w s)) x → ⊥
    none_said (Both place true) x there said_so = none_contained x said_so
    none_said (Both place false) x there said_so =
        let b = places_so rs ss (Both place false) there in
        no_difference place p.own q.own (b.0, b.1, b.2, b.3, b.4, b.5, sym b.6)
    none_said (Capsule place t) x there said_so =
        let r = places_so rs ss (Capsule place t) there in
        let within = (within_said (in_window t w.last_second longterm_seconds) 1 place x said_so).0 in
        not_capsule place t r.0 r.2 rs ss h k there
        (owed longterm_seconds ss r.0 q (All-contains (Contains all) rs r.0 p.own r.1) (ap (λ (n : ℕ). in_window n w.last_second longterm_seconds) r.3 ∙ within))
    none_said (LongTerm place t) x there said_so =
        let s = places_so rs ss (LongTerm place t) there in
        let within = (within_said (in_window t w.last_second capsule_seconds) 0 place x said_so).0 in
        not_longterm place t s.0 s.2 rs ss h k there
        (owed capsule_seconds rs s.0 p (All-contains (Contains all) ss s.0 q.own s.1) (ap (λ (n : ℕ). in_window n w.last_second capsule_seconds) s.3 ∙ within))

    no_differences : differences w (standings rs ss) ≡ []
    no_differences = none_is (differences w (standings rs ss)) (λ x there.
        let s = flat_from (λ s. said (difference_at w s)) (standings rs ss) x there in none_said s.0 x s.1 s.2)

  pub one_history : SaysOneHistory all rs ss
  one_history = record {
    same = λ w place first second told. no_difference place first second (((says_all w rs ss h k).differs place).0 told);
    whole = λ c capsule_seconds longterm_seconds p q. says_nothing c (windows_of capsule_seconds longterm_seconds rs ss) rs ss (no_differences capsule_seconds longterm_seconds p q);
  }
