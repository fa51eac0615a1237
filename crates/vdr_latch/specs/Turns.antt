-- What a turn may meet, and what it did.
use Rattle.std.specs.Prelude.{◌≡◌, ℕ, ◌<◌, Bool, true, List, [], ◌∷◌, ◌++◌, length, Option, None}
use Rattle.atomic_table.specs.Table.{Me}
use Rattle.vdr_latch.specs.declared.view.View.{View}
use Rattle.vdr_latch.specs.Passes.{Passing, IsPossible}

module _ {E T : Type 0} (leaves : List E → T → Type 0) (leading : E → Bool) where
  -- the value is one that a turn of the pass may meet: some history that is possible for the pass leaves it
  abbrev pub MayMeet : Passing E → T → Type 0
  MayMeet p x = (history : List E) × IsPossible leading p history × leaves history x

  -- A pass was p and is q, and the job that it gave the value was a and is b. The turn is one event, at the position n of the history: a
  -- history that was possible for p stood before it and left the value that the job met; the history with the event leaves the value that
  -- the job left, and q has seen it.
  pub record Turned {J : Type 0} (event : J → T → J → T → E) (relates : J → T → J → T → Type 0) (p : Passing E) (a b : J) (n : ℕ) (q : Passing E) : Type 0 where
    pub history : List E
    pub met : T
    pub left : T
    pub possible : IsPossible leading p history
    pub before : leaves history met
    pub after : leaves (history ++ event a met b left ∷ []) left
    pub related : relates a met b left
    pub position : n ≡ length history
    pub seen : q.seen ≡ history ++ event a met b left ∷ []
    pub own : q.own ≡ p.own ++ event a met b left ∷ []

-- the seat is in turn, and the slot that it holds is empty
abbrev pub IsInTurn : {E T : Type 0} → Me (Option T) (View E) → Type 0
IsInTurn m = (0 < m.0.parts) × (m.0.in_turn ≡ true) × (m.1 ≡ (0, None) ∷ [])
