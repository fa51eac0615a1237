-- What the recorder takes from the ports' queues, and how it tells what the ports gave (this project's profile).
use Rattle.std.specs.Prelude.{ℕ, ◌+◌, ◌≤◌, ◌≡◌, ℤ, List, [], ◌∷◌, ◌++◌, length, count_by, filter, ◌==◌}
use Rattle.vdr_terms.specs.declared.counts.Counts.{Counts}
use Rattle.vdr_terms.specs.declared.datagram.Verdict.TheVariants.{Yes}
use Rattle.vdr_terms.specs.Records.{Item, total}
use Rattle.vdr_terms.specs.Datagrams.{verdict, is_bad, is_large}

-- An item as the recorder takes it from a queue, with what its port missed since the item before it in the queue.
pub record Captured : Type 0 where
  pub group : ℕ
  pub number : ℕ
  pub received : ℕ
  pub utc : ℤ
  pub missed : Counts
  pub bytes : List ℕ

-- The counts of a worker are those of these items. None of them was refused by the rate.
pub record AreCounted (missed : Counts) (items : List Item) : Type 0 where
  pub bad : missed.bad ≡ count_by (λ i. is_bad (verdict i.bytes)) items
  pub large : missed.large ≡ count_by (λ i. is_large (verdict i.bytes)) items
  pub rate : missed.rate ≡ 0
  pub all : total missed ≡ length items

-- The queued item is this one, with its number.
pub record IsQueued (g : ℕ) (place : ℕ) (c : Captured) (item : Item) : Type 0 where
  pub recordable : verdict item.bytes ≡ Yes
  pub group : c.group ≡ g
  pub number : c.number ≡ place
  pub received : c.received ≡ item.received
  pub utc : c.utc ≡ item.utc
  pub bytes : c.bytes ≡ item.bytes

-- The queue's items and what each says was missed before it are these items, the first of this number.
abbrev pub AreQueued : ℕ → ℕ → List Captured → List Item → Type 0
AreQueued g from [] items = items ≡ []
AreQueued g from (c ∷ queue) items =
    (before rest : List Item)
    × (item : Item)
    × (items ≡ before ++ item ∷ rest)
    × AreCounted c.missed before
    × IsQueued g (from + length before) c item
    × AreQueued g (from + length before + 1) queue rest

-- What the port of group g gave is, in order, what these items of its queue and these counts at the end say.
pub record Feeds (g : ℕ) (queue : List Captured) (rest : Counts) (given : List Item) : Type 0 where
  pub inside : List Item
  pub since : List Item
  pub order : given ≡ inside ++ since
  pub is_queued : AreQueued g 0 queue inside
  pub is_counted : AreCounted rest since

abbrev pub of_group : ℕ → List Captured → List Captured
of_group g items = filter (λ c. c.group == g) items

-- Each port gave what was taken from its queue and counted at the end. A group from 16 on gave nothing.
pub record AllFeed (items : List Captured) (rest : ℕ → Counts) (given : ℕ → List Item) : Type 0 where
  pub lanes : (g : ℕ) → Feeds g (of_group g items) (rest g) (given g)
  pub beyond : (g : ℕ) → 16 ≤ g → given g ≡ []
