-- What was read of a feed, and why reading it ended.
use Rattle.std.specs.Prelude.{◌≡◌, ◌⊎◌, ◌∷◌, ◌++◌, ℕ, true, List, [], length, All, Option, None, is_some, slice_index_or}
use Rattle.vdr_terms.specs.declared.rate.Rate.{Rate}
use Rattle.vdr_terms.specs.Records.{FeedItem}
use Rattle.vdr_feed.specs.Failing.{FailsAfter}
use Rattle.vdr_feed.specs.Feed.{Reaches, IsFeed, IsRefusedAfter, feed, longest_feed}
use Rattle.vdr_replay.specs.declared.ended.FeedEnd.{FeedEnd}
use Rattle.vdr_replay.specs.declared.ended.FeedEnd.TheVariants.{Whole, Input, Refused}

abbrev pub HasRate : List (Option Rate) → ℕ → Type 0
HasRate rates g = is_some (slice_index_or rates g None) ≡ true

-- Each item's group is configured.
abbrev pub AreConfigured : List (Option Rate) → List FeedItem → Type 0
AreConfigured rates items = All (λ i. HasRate rates i.group) items

-- Behind these items stands one whose group is not configured: it is refused as a group above 15 is.
pub record RefusesGroup (rates : List (Option Rate)) (bytes : List ℕ) (number offset : ℕ) (items : List FeedItem) : Type 0 where
  pub next : FeedItem
  pub rest : List ℕ
  pub legal : Reaches longest_feed bytes (items ++ next ∷ []) rest
  pub strange : HasRate rates next.group → ⊥
  pub number_is : number ≡ 4
  pub offset_is : offset ≡ length (feed items)

-- What stands behind these items is refused so.
abbrev pub RefusesNext : List (Option Rate) → List ℕ → (number offset : ℕ) → List FeedItem → Type 0
RefusesNext rates bytes number offset items =
    ((rest : List ℕ) × IsRefusedAfter longest_feed bytes number offset items rest) ⊎ RefusesGroup rates bytes number offset items

-- Of an input with these bytes, of which those of `now` are left, these items were read, and it ended so.
abbrev pub ReadsFeed : List (Option Rate) → List ℕ → (now : Option (List ℕ)) → FeedEnd → List FeedItem → Type 0
ReadsFeed rates bytes now Whole items = IsFeed longest_feed bytes items
ReadsFeed rates bytes now Input items = FailsAfter longest_feed bytes now items
ReadsFeed rates bytes now (Refused number offset) items = RefusesNext rates bytes number offset items
