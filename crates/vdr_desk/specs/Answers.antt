-- An answer to an order, told in one turn at the latch or in several.
use Rattle.std.specs.Prelude.{◌≡◌, ◌≤◌, ℕ, List, ◌∷◌, ◌++◌, length, Option, Some, None}
use Rattle.vdr_control.specs.Orders.{PlainOrder}

-- The order, the events before its own, that, those behind it up to its last turn, and all that was told in its turns.
pub record Answer (E : Type 0) : Type 0 where
  pub order : PlainOrder
  pub before : List E
  pub own : E
  pub during : List E
  pub text : List ℕ

-- The events up to its last turn.
abbrev pub seen_by : {E : Type 0} → Answer E → List E
seen_by a = a.before ++ a.own ∷ a.during

-- It goes on behind these further events, in the last of which this piece was told.
abbrev pub told_on : {E : Type 0} → Answer E → List E → (piece : List ℕ) → Answer E
told_on a events piece = record a { during = a.during ++ events; text = a.text ++ piece }

module _ {E R : Type 0} (answers : Answer E → Type 0) (waits : Answer E → R → Type 0) where
  -- The answer is whole, or this rest of it is left.
  abbrev pub ToldSoFar : Answer E → Option R → Type 0
  ToldSoFar a None = answers a
  ToldSoFar a (Some rest) = waits a rest

  -- What was told of an order, whose own event is at this place or behind it. Its last turn is the last event that was seen.
  pub record HasTold (from : ℕ) (order : PlainOrder) (seen : List E) (text : List ℕ) (left : Option R) : Type 0 where
    pub answer : Answer E
    pub order_is : answer.order ≡ order
    pub seen_is : seen ≡ seen_by answer
    pub later : from ≤ length answer.before
    pub text_is : answer.text ≡ text
    pub so_far : ToldSoFar answer left

-- Something is left of it.
abbrev pub IsBegun : {E R : Type 0} → (waits : Answer E → R → Type 0) → Answer E → Type 0
IsBegun {R = R} waits a = (rest : R) × waits a rest
