-- The item of a feed that a reader's item stands for.
use Rattle.std.specs.Prelude.{◌≡◌, ◌<◌, ◌^◌, take}
use Rattle.vdr_terms.specs.Records.{FeedItem}
use Rattle.vdr_terms.specs.Stamps.{IsStamp}
use Rattle.vdr_feed.specs.declared.item.Item.{Item}

-- It holds the feed's item, of whose body the first 1,473 bytes are kept: enough to tell that it is too large.
pub record Holds (held : Item) (i : FeedItem) : Type 0 where
  pub group : held.group ≡ i.group
  pub received : held.received ≡ i.item.received
  pub utc : held.utc ≡ i.item.utc
  pub bytes : held.bytes.items ≡ take 1473 i.item.bytes

-- An item that stands in a feed.
pub record IsLegalItem (item : Item) : Type 0 where
  pub group : item.group < 16
  pub received : item.received < 2 ^ 48
  pub utc : IsStamp item.utc

-- The item of a feed whose whole body is kept.
abbrev pub item_in : Item → FeedItem
item_in held = record { group = held.group; item = record { received = held.received; utc = held.utc; bytes = held.bytes.items } }
