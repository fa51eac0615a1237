-- What a seat at the latch knows: the views of its rule.
use Rattle.std.specs.Prelude.{ℕ, ◌-◌, ◌+◌, ◌^◌, Bool, true, false, List, [], ◌∷◌, ◌++◌, Some, None, is_some}
use Rattle.vdr_latch.specs.declared.view.View.{View}

module _ {E : Type 0} where
  -- the first seat: it has all parts, leads, and has seen that nothing has happened
  abbrev pub founder : View E
  founder = record { parts = 2 ^ 33; leads = true; seen = []; told = []; own = []; ticket = None; in_turn = false }

  -- a seat that has no part any more
  abbrev pub spent : View E
  spent = record { parts = 0; leads = false; seen = []; told = []; own = []; ticket = None; in_turn = false }

  -- it holds a ticket that is not yet served
  abbrev pub waits : View E → Bool
  waits v = is_some v.ticket

  -- the one view of a badge
  abbrev pub view_of : List (View E) → View E
  view_of [] = spent
  view_of (v ∷ vs) = v
