-- How far a reader has come in a feed.
use Rattle.std.specs.Prelude.{◌≡◌, ◌≤◌, ℕ, true, List, length, Option, None}
use Rattle.std.specs.Io.KnownBytes.{Consumes}
use Rattle.vdr_terms.specs.Records.{FeedItem}
use Rattle.vdr_feed.specs.Feed.{AreItems, feed, longest_feed, received_after}
use Rattle.vdr_feed.specs.Reader.{Reading}

-- Of an input of which first so many bytes were left, it has read the header and these items, in their order.
pub record HasRead (first now : Option (List ℕ)) (r : Reading) (items : List FeedItem) : Type 0 where
  pub read : Consumes first now (feed items)
  pub legal : AreItems 0 items
  pub limit : r.limit ≡ longest_feed
  pub count : r.count ≡ length items
  pub few : length items ≤ longest_feed
  pub floor : r.floor ≡ received_after 0 items
  pub offset : r.offset ≡ length (feed items)
  pub begun : r.begun ≡ true
  pub going : r.stopped ≡ None
