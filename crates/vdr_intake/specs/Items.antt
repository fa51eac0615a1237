-- Captured items in the order of their port's run (this project's profile).
use Rattle.std.specs.Prelude.{◌≡◌, ◌≤◌, ◌<◌, ◌^◌, ℕ, suc, ◌+◌, List, [], ◌∷◌, ◌++◌, Option, Some, None, ⊤}
use Rattle.vdr_terms.specs.declared.datagram.Verdict.TheVariants.{Yes}
use Rattle.vdr_terms.specs.Records.{total, last}
use Rattle.vdr_terms.specs.Datagrams.{verdict}
use Rattle.vdr_terms.specs.Stamps.{IsStamp}
use Rattle.vdr_core.specs.Taken.{Captured}

-- A legal item.
pub record IsCaptured (c : Captured) : Type 0 where
  pub sixteen : c.group < 16
  pub received : c.received < 2 ^ 48
  pub stamp : IsStamp c.utc
  pub recordable : verdict c.bytes ≡ Yes
  pub not_by_rate : c.missed.rate ≡ 0
  pub before : total c.missed ≤ c.number

-- A run takes at most so many items from a port, so that each number is below it.
abbrev pub most_items : ℕ
most_items = 1_000_000_000_000

-- The number that comes after the last item; 0 comes after none.
abbrev pub number_after : Option Captured → ℕ
number_after None = 0
number_after (Some c) = suc c.number

-- The item is of this group, and its number is one more than that of the last of these, and its own missed counts. The
-- first item's number is the sum of its counts.
pub record Follows (group : ℕ) (before : List Captured) (c : Captured) : Type 0 where
  pub of_group : c.group ≡ group
  pub in_order : c.number ≡ number_after (last before) + total c.missed

-- Each of these items follows those before it.
abbrev pub IsRun : ℕ → List Captured → List Captured → Type 0
IsRun group before [] = ⊤
IsRun group before (c ∷ items) = Follows group before c × (c.number < most_items) × IsRun group (before ++ c ∷ []) items
