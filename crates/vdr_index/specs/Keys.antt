-- The order in which an index keeps the slots: those with a segment first, by sequence number and then by slot, and behind them
-- those without, by slot.
-- Of it public clauses cite `IsOrdered` alone.
use Rattle.std.specs.Prelude.{◌≡◌, ◌<◌, ◌≤◌, ◌+◌, ◌-◌, ◌*◌, ◌^◌, ◌==◌, ℕ, Bool, true, not, List, length, get_or, All, Contains, Option, Some, None}
use Rattle.vdr_index.specs.declared.known.Known.{Known}
use Rattle.vdr_index.specs.Indexes.{Keeps, MayAnswer}
use Rattle.vdr_terms.specs.Queries.{Query, Span}

abbrev pub key_of : ℕ → Option Known → ℕ
key_of slot None = 2 ^ 64 * 2 ^ 32 + slot
key_of slot (Some k) = k.seq * 2 ^ 32 + slot

abbrev pub key_in : List (Option Known) → ℕ → ℕ
key_in kept slot = key_of slot (get_or kept slot None)

-- Keys rise from slot to slot.
abbrev pub Rises : List (Option Known) → List ℕ → Type 0
Rises kept order = (i j : ℕ) (d : ℕ) → i < j → j < length order → key_in kept (get_or order i d) < key_in kept (get_or order j d)

-- All slots stand in the order, by their keys.
pub record IsOrdered (kept : List (Option Known)) (order : List ℕ) : Type 0 where
  pub size : length order ≡ length kept
  pub few : length kept < 2 ^ 32
  pub low : (j : ℕ) (k : Known) → Keeps kept j k → k.seq < 2 ^ 64
  pub within : All (λ j. j < length kept) order
  pub all : (j : ℕ) → j < length kept → Contains order j
  pub rises : Rises kept order

-- So many slots have a key below this one.
pub record IsRank (kept : List (Option Known)) (order : List ℕ) (key n : ℕ) : Type 0 where
  pub within : n ≤ length order
  pub below : (i d : ℕ) → i < n → key_in kept (get_or order i d) < key
  pub above : (i d : ℕ) → n ≤ i → i < length order → key ≤ key_in kept (get_or order i d)

-- One element was moved from an index to another.
pub record IsMoved (old new : List ℕ) (from to : ℕ) : Type 0 where
  pub size : length new ≡ length old
  pub here : (d : ℕ) → get_or new to d ≡ get_or old from d
  pub low : (i d : ℕ) → i < from → i < to → get_or new i d ≡ get_or old i d
  pub high : (i d : ℕ) → from < i → to < i → get_or new i d ≡ get_or old i d
  pub up : (i d : ℕ) → from ≤ i → i < to → get_or new i d ≡ get_or old (i + 1) d
  pub down : (i d : ℕ) → to < i → i ≤ from → get_or new i d ≡ get_or old (i - 1) d

-- None of the first n slots of an order may answer.
abbrev pub NoneOf : List (Option Known) → List ℕ → Query → Span → Option ℕ → ℕ → Type 0
NoneOf kept order query span after n = (i d : ℕ) (k : Known) → i < n → Keeps kept (get_or order i d) k → MayAnswer query span after k → ⊥

-- The first n slots of an order have a segment, and the others are clear.
pub record AreKept (kept : List (Option Known)) (order : List ℕ) (n : ℕ) : Type 0 where
  pub within : n ≤ length order
  pub front : (i d : ℕ) → i < n → (k : Known) × Keeps kept (get_or order i d) k
  pub rest : (i d : ℕ) → n ≤ i → i < length order → get_or kept (get_or order i d) None ≡ None

-- A slot is not this one, if one is given.
abbrev pub is_other : Option ℕ → ℕ → Bool
is_other None slot = true
is_other (Some one) slot = not (slot == one)

-- The numbers below n, in order.
pub record AreNumbers (n : ℕ) (xs : List ℕ) : Type 0 where
  pub size : length xs ≡ n
  pub each : (i d : ℕ) → i < n → get_or xs i d ≡ i
