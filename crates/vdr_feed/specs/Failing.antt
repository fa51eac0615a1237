-- How far an input was read as its source failed, and when a call may answer that it did.
use Rattle.std.specs.Prelude.{◌≡◌, ◌⊎◌, ◌≤◌, ◌<◌, ◌++◌, ℕ, List, [], length, Option, None, Some, Result, IsErrOf}
use Rattle.std.specs.Io.KnownBytes.{Consumes}
use Rattle.vdr_terms.specs.Records.{FeedItem}
use Rattle.vdr_outside.specs.Causes.{Rose}
use Rattle.vdr_feed.specs.Feed.{AreItems, fault_of, feed, received_after}
use Rattle.vdr_feed.specs.declared.fault.FeedFault.{FeedFault}
use Rattle.vdr_feed.specs.declared.fault.FeedFault.TheVariants.{Fault}

-- The bytes are none, or so few of an item that may stand here that it goes on behind them.
abbrev pub IsPartOfItem : (limit count floor : ℕ) → List ℕ → Type 0
IsPartOfItem limit count floor part = (part ≡ []) ⊎ (fault_of limit count floor part ≡ Some 2)

-- Of the bytes left no more was read than a part of an item.
abbrev pub ReadsPart : (limit count floor : ℕ) → (left now : Option (List ℕ)) → Type 0
ReadsPart limit count floor left now = (part : List ℕ) × IsPartOfItem limit count floor part × Consumes left now part

-- Of an input with these bytes the header and these items were read, and of what stands behind them no more than a part of an item.
pub record FailsAfter (limit : ℕ) (bytes : List ℕ) (now : Option (List ℕ)) (items : List FeedItem) : Type 0 where
  pub part : List ℕ
  pub read : Consumes (Some bytes) now (feed items ++ part)
  pub legal : AreItems 0 items
  pub few : length items ≤ limit
  pub inside : IsPartOfItem limit (length items) (received_after 0 items) part

-- The source's count of faults never falls, and a reader that had not stopped before answers a fault only where it rose.
pub record HasReadCause {T : Type 0} (stopped : Option FeedFault) (before now : ℕ) (result : Result T FeedFault) : Type 0 where
  -- the count does not fall
  pub later : before ≤ now
  -- a fault comes only where it rose
  pub rose : stopped ≡ None → IsErrOf result Fault → Rose before now
