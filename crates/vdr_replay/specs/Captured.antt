-- An item as it is taken.
use Rattle.std.specs.Prelude.{List}
use Rattle.vdr_terms.specs.Datagrams.{verdict, is_yes}
use Rattle.vdr_terms.specs.Records.{FeedItem}
use Rattle.vdr_core.specs.Taken.{Captured}
use Rattle.vdr_core.specs.Replay.{captured_if}
use Rattle.vdr_feed.specs.Kept.{item_in}
use Rattle.vdr_feed.specs.declared.item.Item.{Item}

-- What goes to the batch of the next item of a feed: itself, where it is recordable.
abbrev pub pushed_of : List FeedItem → Item → List Captured
pushed_of feed item = captured_if (is_yes (verdict item.bytes.items)) feed (item_in item)
