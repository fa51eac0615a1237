-- What is made of a packet.
use Rattle.std.specs.Prelude.{◌≡◌, ◌≢◌, ◌<◌, ◌≤◌, ℕ, pos, List, [], ◌∷◌, length, None, ⊤}
use Rattle.vdr_terms.specs.Records.{FeedItem}
use Rattle.vdr_feed.specs.declared.item.Item.{Item}
use Rattle.vdr_pcap.specs.Account.{Fate, datagram_in, item_from, with_fate}
use Rattle.vdr_pcap.specs.declared.account.Account.{Account}
use Rattle.vdr_pcap.specs.declared.lent.LentItem.{LentItem}
use Rattle.vdr_pcap.specs.declared.taking.Judged.{Judged}
use Rattle.vdr_pcap.specs.declared.taking.Judged.TheVariants as judged
use Rattle.vdr_pcap.specs.declared.taking.Taken.{Taken}
use Rattle.vdr_pcap.specs.declared.taking.Taken.TheVariants as taken

-- The item of a feed that is held.
abbrev pub item_held : Item → FeedItem
item_held i = record { group = i.group; item = record { received = i.received; utc = i.utc; bytes = i.bytes.items } }

-- The item of a feed that is lent.
abbrev pub item_lent : LentItem → FeedItem
item_lent i = record { group = i.group; item = record { received = i.received; utc = i.utc; bytes = i.body.now } }

abbrev pub item_of : (received group utc : ℕ) → (payload : List ℕ) → FeedItem
item_of received group utc payload = record { group = group; item = record { received = received; utc = pos utc; bytes = payload } }

-- It would be an item beyond the limit; it was left out and counted; or it is the item that is held, and was counted.
abbrev pub Takes : (limit : ℕ) → Fate → (before now : Account) → (old new : Item) → Taken → Type 0
Takes limit f before now old new taken.TooMany = (datagram_in f ≢ None) × (limit ≤ before.items)
Takes limit f before now old new taken.Left = (datagram_in f ≡ None) × (now ≡ with_fate f before) × (new ≡ old)
Takes limit f before now old new taken.Item = (before.items < limit) × (now ≡ with_fate f before) × (item_from before (datagram_in f) ≡ item_held new ∷ [])

-- The same of a packet whose bytes lie elsewhere. What would be an item beyond the limit is not counted.
abbrev pub Judges : (limit : ℕ) → Fate → (before now : Account) → Judged → Type 0
Judges limit f before now judged.TooMany = (datagram_in f ≢ None) × (limit ≤ before.items) × (now ≡ before)
Judges limit f before now judged.Left = (datagram_in f ≡ None) × (now ≡ with_fate f before)
Judges limit f before now (judged.Item item) = (before.items < limit) × (now ≡ with_fate f before) × (item_from before (datagram_in f) ≡ item_lent item ∷ [])

-- An item has at most 1,473 bytes.
abbrev pub IsShort : Judged → Type 0
IsShort judged.TooMany = ⊤
IsShort judged.Left = ⊤
IsShort (judged.Item item) = length item.body.now ≤ 1473
