-- What holds of comparisons.
use Rattle.std.specs.Prelude.{◌≡◌, ◌↔◌, ◌<◌, ◌≤◌, ℕ, List, [], ◌∷◌, ◌++◌, All, Contains, false, true, ⊤}
use Rattle.vdr_terms.specs.Records.{Record, second}
use Rattle.vdr_terms.specs.Windows.{in_window}
use Rattle.vdr_durability.specs.Retention.{AreAmong, Holds}
use Rattle.vdr_compare.specs.declared.difference.Difference.{Difference}
use Rattle.vdr_compare.specs.declared.difference.Difference.TheVariants.{Differs, Lacks}
use Rattle.vdr_compare.specs.declared.standing.Standing.{Standing}
use Rattle.vdr_compare.specs.declared.standing.Standing.TheVariants.{Both, Capsule, LongTerm}
use Rattle.vdr_compare.specs.declared.standing.Windows.{Windows}
use Rattle.vdr_compare.specs.Comparisons.{comparison_text, comparison_verdict, windows_of}
use Rattle.vdr_compare.specs.Conditions.{Condition, condition_text, first_verdict}
use Rattle.vdr_compare.specs.Differences.{differences, joined, same_line, same_places}
use Rattle.vdr_compare.specs.Standings.{is_same, standings}

-- Of the places nothing is said but between which ones both media say the same.
pub record SaysNothing (c : Condition) (w : Windows) (rs ss : List Record) : Type 0 where
  pub text : comparison_text c w (standings rs ss) ≡ condition_text c ++ same_line (same_places (standings rs ss))
  pub verdict : comparison_verdict c w (standings rs ss) ≡ first_verdict c

-- What is said of a place is so: records of both media stand there, or one of the one medium.
abbrev pub IsSo : (capsule longterm : List Record) → Standing → Type 0
IsSo rs ss (Both place same) = (r s : Record) × Contains rs r × Contains ss s × (r.place ≡ place) × (s.place ≡ place) × (same ≡ is_same r s)
IsSo rs ss (Capsule place t) = (r : Record) × Contains rs r × (r.place ≡ place) × (second r.tick ≡ t)
IsSo rs ss (LongTerm place t) = (s : Record) × Contains ss s × (s.place ≡ place) × (second s.tick ≡ t)

-- A record stands at a place of both media, with other bytes.
abbrev pub DiffersThere : (capsule longterm : List Record) → (place : ℕ) → Type 0
DiffersThere rs ss place = (r s : Record) × Contains rs r × Contains ss s × (r.place ≡ place) × (s.place ≡ place) × (is_same r s ≡ false)

pub record SaysSo (w : Windows) (rs ss : List Record) : Type 0 where
  pub places : (x : Standing) → Contains (standings rs ss) x → IsSo rs ss x
  pub differs : (place : ℕ) → Contains (differences w (standings rs ss)) (Differs place) → DiffersThere rs ss place

-- Each later record has a greater place.
abbrev pub PlacesRise : List Record → Type 0
PlacesRise [] = ⊤
PlacesRise (r ∷ rs) = All (λ later. r.place < later.place) rs × PlacesRise rs

-- The one list has a record at this place, of a second in the window, and the other one has none.
pub record LacksThere (last_second seconds : ℕ) (has lacks : List Record) (place : ℕ) : Type 0 where
  pub record_there : Record
  pub there : Contains has record_there
  pub at_place : record_there.place ≡ place
  pub owed : in_window (second record_there.tick) last_second seconds ≡ true
  pub none : (s : Record) → Contains lacks s → s.place ≡ place → ⊥

-- A place is told to lack on medium m: it is in one of the runs.
abbrev pub Covers : (m place : ℕ) → Difference → Type 0
Covers m place (Differs at) = ⊥
Covers m place (Lacks n a b) = (n ≡ m) × (a ≤ place) × (place ≤ b)

abbrev pub AreLacking : (m : ℕ) → List Difference → (place : ℕ) → Type 0
AreLacking m told place = (x : Difference) × Contains told x × Covers m place x

-- Just those places are told that differ, and just those that a medium lacks of its window and the other one has.
pub record SaysAll (w : Windows) (rs ss : List Record) : Type 0 where
  pub differs : (place : ℕ) → Contains (joined (differences w (standings rs ss))) (Differs place) ↔ DiffersThere rs ss place
  pub capsule : (place : ℕ) → AreLacking 0 (joined (differences w (standings rs ss))) place ↔ LacksThere w.last_second w.capsule ss rs place
  pub longterm : (place : ℕ) → AreLacking 1 (joined (differences w (standings rs ss))) place ↔ LacksThere w.last_second w.longterm rs ss place

-- Of two media that give records of one history no place is told to differ; and of media that each hold at least their windows of it nothing
-- is said.
pub record SaysOneHistory (all rs ss : List Record) : Type 0 where
  pub same : (w : Windows) (place : ℕ) → AreAmong rs all → AreAmong ss all → Contains (joined (differences w (standings rs ss))) (Differs place) → ⊥
  pub whole : (c : Condition) (capsule_seconds longterm_seconds : ℕ) → Holds capsule_seconds all rs → Holds longterm_seconds all ss
      → SaysNothing c (windows_of capsule_seconds longterm_seconds rs ss) rs ss
