-- What holds of every capture.
use Rattle.std.specs.Prelude.{◌≡◌, ◌<◌, ◌+◌, ◌-◌, ◌^◌, ℕ, true, List, sum}
use Rattle.vdr_feed.specs.Feed.{IsFeed, longest_feed}
use Rattle.vdr_pcap.specs.Account.{account_of, items_of}
use Rattle.vdr_pcap.specs.Capture.{Part, Reaches, is_begun, pieces_of}
use Rattle.vdr_pcap.specs.Packets.{Piece}
use Rattle.vdr_import.specs.Imports.{imported}

-- What is written of a capture, or of the front of one, is a feed of its items: by vdr_feed it is one of no others.
abbrev pub FeedsAreFeeds : Type 0
FeedsAreFeeds = (bytes rest : List ℕ) (parts : List Part) → Reaches longest_feed bytes parts rest → is_begun parts ≡ true
    → IsFeed longest_feed (imported parts) (items_of (pieces_of parts))

-- The counts of the groups and of the causes add up to that of all packets, unless it stands still.
abbrev pub CountsAddUp : Type 0
CountsAddUp = (pieces : List Piece) → (account_of pieces).packets < 2 ^ 64 - 1
    → sum (account_of pieces).whole + sum (account_of pieces).cut + sum (account_of pieces).left ≡ (account_of pieces).packets
