-- A reader of one medium that has its next record at hand, and two of them in step (this project's profile).
use Rattle.std.specs.Prelude.{◌≡◌, ◌==◌, ℕ, suc, Bool, true, false, nat_lt, if◌then◌else◌, List, [], ◌∷◌, drop, Option, Some, None, sum, Result, OnErr}
use Rattle.vdr_terms.specs.Records.{Record}
use Rattle.vdr_outside.specs.Causes.{NoneFalls, Rose}
use Rattle.vdr_rescue.specs.Cursors.{CursorState, StepsTo, left_of}
use Rattle.vdr_rescue.specs.Readings.{AreRead}
use Rattle.vdr_rescue.specs.declared.told.Told.{Told}
use Rattle.vdr_compare.specs.declared.standing.Standing.{Standing}
use Rattle.vdr_compare.specs.declared.standing.Standing.TheVariants.{Both, Capsule, LongTerm}
use Rattle.vdr_compare.specs.Standings.{capsule_alone, is_same, longterm_alone, standings}

-- `more` where the item is the next record.
pub record SideState : Type 0 where
  pub cursor : CursorState
  pub item : Record
  pub more : Bool

-- The segments of a medium with these bytes give these records.
abbrev pub Gives : List ℕ → CursorState → List Record → Type 0
Gives bytes c given = (told : List Told) × AreRead c.area.segment bytes None 0 c.heads told given

-- From there on these records are given.
abbrev pub IsAhead : List ℕ → SideState → List Record → Type 0
IsAhead bytes side given = (all : List Told) × StepsTo bytes side.more side.item side.cursor given all

-- How much is ahead at the most: no public clause cites it.
abbrev pub ahead_of : SideState → ℕ
ahead_of side = if side.more then suc (left_of side.cursor) else 0

-- The records without the first, where that is passed.
abbrev pub behind : Bool → List Record → List Record
behind passed records = if passed then drop 1 records else records

-- What stands at the least place at hand.
abbrev pub of_both : Record → Record → Standing
of_both r s = if r.place == s.place then Both r.place (is_same r s) else (if nat_lt r.place s.place then capsule_alone r else longterm_alone s)

abbrev pub standing_at : (capsule : Bool) → Record → (longterm : Bool) → Record → Option Standing
standing_at true r true s = Some (of_both r s)
standing_at true r false s = Some (capsule_alone r)
standing_at false r true s = Some (longterm_alone s)
standing_at false r false s = None

abbrev pub is_on_capsule : Standing → Bool
is_on_capsule (Both place same) = true
is_on_capsule (Capsule place second) = true
is_on_capsule (LongTerm place second) = false

abbrev pub is_on_longterm : Standing → Bool
is_on_longterm (Both place same) = true
is_on_longterm (Capsule place second) = false
is_on_longterm (LongTerm place second) = true

-- These places are ahead of both.
pub record AreAhead (capsule_bytes longterm_bytes : List ℕ) (capsule longterm : SideState) (ahead : List Standing) : Type 0 where
  pub first : List Record
  pub second : List Record
  pub capsule_gives : IsAhead capsule_bytes capsule first
  pub longterm_gives : IsAhead longterm_bytes longterm second
  pub are : ahead ≡ standings first second

-- And behind a step to the next of them, or to the end.
abbrev pub GoesTo : List ℕ → List ℕ → Option Standing → (capsule longterm : SideState) → List Standing → Type 0
GoesTo capsule_bytes longterm_bytes None capsule longterm ahead = ahead ≡ []
GoesTo capsule_bytes longterm_bytes (Some s) capsule longterm ahead = (more : List Standing) × (ahead ≡ s ∷ more) × AreAhead capsule_bytes longterm_bytes capsule longterm more

-- No count of faults falls, and an error comes only where their sum rose.
pub record HasReadCause {T E : Type 0} (before now : List ℕ) (result : Result T E) : Type 0 where
  pub later : NoneFalls before now
  pub failed : OnErr result (Rose (sum before) (sum now))
