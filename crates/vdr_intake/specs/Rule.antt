-- The rule of a queue: the feeder's own list is the taker's popped list and then what is queued, and is a run of the group's
-- items. One end alone feeds, and one alone takes.
use Rattle.std.specs.Prelude.{◌≡◌, ◌≤◌, ◌<◌, ℕ, Bool, true, false, List, [], ◌∷◌, ◌++◌, length}
use mathlib.Core.Option.{some}
use lib.ListN.{get_elem?}
use Rattle.vdr_core.specs.Taken.{Captured}
use Rattle.vdr_intake.specs.Items.{Follows, IsRun, most_items}
use Rattle.vdr_intake.specs.declared.view.EndView.{EndView}

-- An end that has pushed and popped nothing.
abbrev pub end_of : Bool → Bool → ℕ → ℕ → EndView
end_of feeds takes group capacity = record { feeds = feeds; takes = takes; group = group; capacity = capacity; pushed = []; popped = [] }

-- The one end of a queue that is being made.
abbrev pub whole : EndView
whole = end_of true true 0 0

-- Its two ends.
abbrev pub feeding : ℕ → ℕ → EndView
feeding group capacity = end_of true false group capacity

abbrev pub taking : ℕ → ℕ → EndView
taking group capacity = end_of false true group capacity

-- The taker has the feeder's list once it was joined, and the feeder's end is spent.
abbrev pub joined : EndView → EndView → EndView
joined taker feeder = record taker { feeds = true; pushed = feeder.pushed }

abbrev pub spent : EndView
spent = end_of false false 0 0

-- An end that feeds is the feeder, and one that takes is the taker.
pub record Agrees (feeder taker group : ℕ) (pushed popped : List Captured) (port : ℕ) (v : EndView) : Type 0 where
  pub as_feeder : v.feeds ≡ true → (port ≡ feeder) × (v.group ≡ group) × (v.pushed ≡ pushed)
  pub as_taker : v.takes ≡ true → (port ≡ taker) × (v.group ≡ group) × (v.popped ≡ popped)

-- The rule, of what is queued and of what each end knows.
pub record IsOrdered (items : List Captured) (views : List EndView) : Type 0 where
  pub feeder : ℕ
  pub taker : ℕ
  pub group : ℕ
  pub pushed : List Captured
  pub popped : List Captured
  pub queued : pushed ≡ popped ++ items
  pub run : IsRun group [] pushed
  pub each : (port : ℕ) (v : EndView) → get_elem? views port ≡ some v → Agrees feeder taker group pushed popped port v

-- A push: the feeder's list grows by the item.
abbrev pub HasPushed : EndView → Captured → EndView → Type 0
HasPushed v c w = w ≡ record v { pushed = v.pushed ++ c ∷ [] }

-- A push at full: what is queued was pushed, so that it is no longer than the feeder's list.
abbrev pub IsNoLonger : EndView → List Captured → Type 0
IsNoLonger v items = length items ≤ length v.pushed

-- A pop: the taker's list grows by the item, which follows it. Where the feeder was joined, the item is the next of its list.
pub record HasPopped (v : EndView) (c : Captured) (w : EndView) : Type 0 where
  pub taken : w ≡ record v { popped = v.popped ++ c ∷ [] }
  pub follows : Follows v.group v.popped c
  pub few : c.number < most_items
  pub order : v.feeds ≡ true → (rest : List Captured) × (v.pushed ≡ v.popped ++ c ∷ rest)

-- A pop at empty: where the feeder was joined, what is queued is what is left of its list.
abbrev pub IsLeft : EndView → List Captured → Type 0
IsLeft v items = v.feeds ≡ true → v.pushed ≡ v.popped ++ items
