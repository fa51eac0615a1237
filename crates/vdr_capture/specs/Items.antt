-- What became of the items that a port gave (this project's profile): each was pushed once, in the port's order, or counted.
use Rattle.std.specs.Prelude.{◌≡◌, ℕ, ◌+◌, ◌⊎◌, List, [], ◌∷◌, ◌++◌, length, count_by, sum_by}
use Rattle.vdr_terms.specs.Records.{Item, total}
use Rattle.vdr_terms.specs.Datagrams.{verdict, is_bad, is_large}
use Rattle.vdr_terms.specs.Counting.{Tally, pushed, tallied, one_full}
use Rattle.vdr_core.specs.Taken.{Captured, Feeds}
use Rattle.vdr_intake.specs.Ends.{Feeding}

-- What the worker counted as full: with each item pushed what was missed before it, and what was missed since the last.
abbrev pub full_counts : List Captured → Tally → ℕ
full_counts items t = sum_by (λ c. c.missed.full) items + t.missed.full

-- The items given are, in order, those pushed, each after what it says was missed before it, and those counted since the last
-- push. The totals are those of all items, and the full counts are the feeder's full steps.
pub record HasCaptured (group : ℕ) (given : List Item) (items : List Captured) (full_steps : ℕ) (t : Tally) : Type 0 where
  pub in_order : Feeds group items t.missed given
  pub taken : t.taken ≡ length given
  pub each_once : length items + total t.totals ≡ length given
  pub bad : t.totals.bad ≡ count_by (λ i. is_bad (verdict i.bytes)) given
  pub large : t.totals.large ≡ count_by (λ i. is_large (verdict i.bytes)) given
  pub rate : t.totals.rate ≡ 0
  pub full : t.totals.full ≡ full_steps
  pub by_steps : full_counts items t ≡ full_steps

-- The item was pushed.
pub record IsPush (c : Captured) (old new : Feeding) (t u : Tally) : Type 0 where
  pub list : new.pushed ≡ old.pushed ++ c ∷ []
  pub steps : new.full ≡ old.full
  pub counted : u ≡ pushed t

-- The queue was full, and the item was counted.
pub record IsFull (old new : Feeding) (t u : Tally) : Type 0 where
  pub list : new.pushed ≡ old.pushed
  pub steps : new.full ≡ old.full + 1
  pub counted : u ≡ tallied one_full t

-- The item was offered once.
abbrev pub IsOffered : Captured → Feeding → Feeding → Tally → Tally → Type 0
IsOffered c old new t u = IsPush c old new t u ⊎ IsFull old new t u
