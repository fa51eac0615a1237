-- The kinds of step at the latch, each with what it makes of the view of the seat that takes it and what it tells.
-- Taking the value out and putting it back are plain reads and writes of the slot by the seat in turn: no word changes, and no view.
use Rattle.std.specs.Prelude.{◌≡◌, ◌≢◌, ℕ, ◌-◌, ◌+◌, Bool, true, false, List, [], ◌∷◌, ◌++◌, length, Option, Some, None}
use mathlib.Core.List.{IsPrefix}
use Rattle.atomic_table.specs.Table.{Step, Me, rest}
use Rattle.vdr_latch.specs.declared.view.View.{View}
use Rattle.vdr_latch.specs.Passes.{Knows}

-- Drawing a ticket is a compare and exchange on the next ticket: it draws what it found there, or changes nothing.
abbrev pub drew : {E : Type 0} → ℕ → View E → View E
drew t v = record v { ticket = Some t }

abbrev pub Draws : {E T : Type 0} → Step (Option T) → Me (Option T) (View E) → ℕ → Me (Option T) (View E) → Type 0
Draws s m n m' = (n ≡ s.first → m' ≡ (drew s.first m.0, m.1)) × (n ≢ s.first → m' ≡ m)

-- Looking is a load of the number that is served. Who finds its own ticket is in turn: it holds the slot with a value that the history
-- leaves, and has seen the history, whose length is the ticket. For who finds another number nothing changes.
abbrev pub entered : {E : Type 0} → List E → View E → View E
entered history v = record v { seen = history; told = []; in_turn = true }

abbrev pub Enters : {E T : Type 0} → (List E → T → Type 0) → (E → Bool) → Me (Option T) (View E) → ℕ → Me (Option T) (View E) → Type 0
Enters {E = E} {T = T} leaves leading m n m' =
    (history : List E) × (x : T) × (m' ≡ (entered history m.0, (0, Some x) ∷ m.1)) × (length history ≡ n) × leaves history x × Knows leading m.0.leads m.0.seen m.0.own history

abbrev pub Looks : {E T : Type 0} → (List E → T → Type 0) → (E → Bool) → Step (Option T) → Me (Option T) (View E) → ℕ → Me (Option T) (View E) → Type 0
Looks leaves leading s m n m' = (m.0.ticket ≡ Some n → Enters leaves leading m n m') × (m.0.ticket ≢ Some n → m' ≡ m)

-- Serving the next is a fetch and add on the number that is served. The event joins the history and the seat's own, and the slot goes
-- home. A turn has one event. It comes as a list, since a list can be empty where no turn has picked it.
abbrev pub served : {E : Type 0} → List E → View E → View E
served events v = record v { seen = v.seen ++ events; told = []; own = v.own ++ events; ticket = None; in_turn = false }

abbrev pub Serves : {E T : Type 0} → List E → Step (Option T) → Me (Option T) (View E) → ℕ → Me (Option T) (View E) → Type 0
Serves events s m n m' = m' ≡ (served events m.0, rest m.1)

-- Splitting is a load. It moves one part to a new seat, which has seen as much, has no event of its own and does not lead.
abbrev pub fewer : {E : Type 0} → View E → View E
fewer v = record v { parts = v.parts - 1 }

abbrev pub follower : {E : Type 0} → View E → View E
follower v = record { parts = 1; leads = false; seen = v.seen; told = []; own = []; ticket = None; in_turn = false }

-- Joining is a load. It adds up the parts, and tells the seat that stays what the other had seen. The other is spent.
abbrev pub joined : {E : Type 0} → View E → View E → View E
joined v w = record v { parts = v.parts + w.parts; told = w.seen }

-- Learning, after a join, is one more load: the history so far was seen, which begins with what the seat was told.
abbrev pub informed : {E : Type 0} → List E → View E → View E
informed history v = record v { seen = history; told = [] }

abbrev pub Learns : {E T : Type 0} → (E → Bool) → Step (Option T) → Me (Option T) (View E) → ℕ → Me (Option T) (View E) → Type 0
Learns {E = E} leading s m n m' = (history : List E) × (m' ≡ (informed history m.0, m.1)) × IsPrefix m.0.told history × Knows leading m.0.leads m.0.seen m.0.own history
