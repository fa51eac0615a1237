-- The rule of the latch: what holds between any two steps of its threads. The latch is a ticket lock round one value.
-- Word 0 is the number that is served, word 1 the next ticket, and the one slot has the value. The history is in no word: it is the list of
-- events that were served so far.
use Rattle.std.specs.Prelude.{◌≡◌, ℕ, ◌+◌, ◌<◌, ◌≤◌, ◌^◌, Bool, true, List, [], ◌∷◌, length, ◌⊎◌, Option, Some, sum_by, count_by}
use mathlib.Core.Option.{Option as Place, none, some}
use mathlib.Core.List.{IsPrefix}
use lib.ListN.{get_elem?}
use Rattle.atomic_table.specs.Table.{State}
use Rattle.vdr_latch.specs.declared.view.View.{View}
use Rattle.vdr_latch.specs.Passes.{Knows}
use Rattle.vdr_latch.specs.Views.{spent, waits}

module _ {E : Type 0} where
  -- each seat's view is such
  abbrev pub Everywhere : (View E → Type 0) → List (View E) → Type 0
  Everywhere P views = (by : ℕ) (v : View E) → get_elem? views by ≡ some v → P v

  -- some seat's view is such
  abbrev pub Somewhere : (View E → Type 0) → List (View E) → Type 0
  Somewhere P views = (by : ℕ) × (v : View E) × (get_elem? views by ≡ some v) × P v

  -- no two seats hold one ticket
  abbrev pub TicketsDiffer : List (View E) → Type 0
  TicketsDiffer views = (a b t : ℕ) (v w : View E) → get_elem? views a ≡ some v → get_elem? views b ≡ some w → v.ticket ≡ Some t → w.ticket ≡ Some t → a ≡ b

module _ {E T : Type 0} (leaves : List E → T → Type 0) (leading : E → Bool) where
  -- What holds of the view of each seat, where `serving` is served, `next` is the next ticket, and `history` is the history.
  pub record Fits (serving next : ℕ) (history : List E) (v : View E) : Type 0 where
    -- what it has seen, its own events and the leading events are those of the history
    pub known : Knows leading v.leads v.seen v.own history
    -- what it was told of at a join is a beginning of the history too
    pub told : IsPrefix v.told history
    -- its ticket was drawn, and was not served before
    pub ticket : (t : ℕ) → v.ticket ≡ Some t → (serving ≤ t) × (t < next)
    -- in turn is only who holds the ticket that is served, and it has seen the whole history
    pub turn : v.in_turn ≡ true → (v.ticket ≡ Some serving) × (v.seen ≡ history)
    -- who has no part knows nothing and takes no turn
    pub spent : v.parts ≡ 0 → v ≡ spent

  -- The value is at home, and the history leaves it; or it is out, and some seat is in turn.
  abbrev pub IsLeft : List E → List (Place (Option T)) → List (View E) → Type 0
  IsLeft history homes views = ((x : T) × (homes ≡ some (Some x) ∷ []) × leaves history x) ⊎ (Somewhere (λ v. v.in_turn ≡ true) views × (homes ≡ none ∷ []))

  -- The rule.
  pub record IsKept (s : State (Option T) (View E)) : Type 0 where
    pub serving : ℕ
    pub next : ℕ
    pub history : List E
    pub words : s.words ≡ serving ∷ next ∷ []
    pub room : next < 2 ^ 64
    -- each number that was served has one event in the history
    pub served : length history ≡ serving
    -- each ticket that was drawn was served, or one seat holds it
    pub queue : serving + count_by waits s.views ≡ next
    pub differ : TicketsDiffer s.views
    -- one seat leads, and no part is lost or made
    pub leader : count_by (λ v. v.leads) s.views ≡ 1
    pub parts : sum_by (λ v. v.parts) s.views ≡ 2 ^ 33
    pub fits : Everywhere (Fits serving next history) s.views
    -- some seat has seen the whole history, or was told of it
    pub whole : Somewhere (λ v. (v.seen ≡ history) ⊎ (v.told ≡ history)) s.views
    pub value : IsLeft history s.homes s.views
