-- Two readings of one input agree, and what is written reads back.
use Rattle.std.specs.Prelude.{◌≡◌, ◌<◌, ◌++◌, ℕ, List, None}
use Rattle.vdr_terms.specs.Records.{FeedItem}
use Rattle.vdr_feed.specs.Feed.{IsFeed, IsItem, IsRefused, fault_of, spelling}

-- The bytes are a feed of one list of items only.
abbrev pub OneFeed : Type 0
OneFeed = (limit : ℕ) (bytes : List ℕ) (items others : List FeedItem) → IsFeed limit bytes items → IsFeed limit bytes others → items ≡ others

-- A feed is not refused.
abbrev pub NoFeedIsRefused : Type 0
NoFeedIsRefused = (limit : ℕ) (bytes : List ℕ) (items : List FeedItem) (number offset : ℕ) → IsFeed limit bytes items → IsRefused limit bytes number offset → ⊥

-- What is refused is refused by one number, at one offset.
abbrev pub OneRefusal : Type 0
OneRefusal = (limit : ℕ) (bytes : List ℕ) (number offset other at : ℕ)
    → IsRefused limit bytes number offset → IsRefused limit bytes other at → (number ≡ other) × (offset ≡ at)

-- An item that may stand here is spelled without a fault, and its spelling is that of no other item, whatever follows it.
abbrev pub ReadsBack : Type 0
ReadsBack = (limit count floor : ℕ) (i : FeedItem) (rest : List ℕ) → count < limit → IsItem floor i
    → (fault_of limit count floor (spelling i ++ rest) ≡ None)
    × ((other : FeedItem) (more : List ℕ) → IsItem floor other → spelling i ++ rest ≡ spelling other ++ more → (i ≡ other) × (rest ≡ more))
