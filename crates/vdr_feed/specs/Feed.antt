-- The feed file (this project's profile): a header, and items, each of which is spelled in one way. Numbers are
-- little-endian; a stamp is spelled as a signed number of eight bytes.
use Rattle.std.specs.Prelude.{◌≡◌, ◌≢◌, ◌⊎◌, ◌≤◌, ◌<◌, ◌^◌, ℕ, ◌+◌, ◌||◌, nat_le, nat_lt, List, [], ◌∷◌, ◌++◌, length, take, drop, slice_index, Option, None, Some, if◌then◌else◌, codes, unsigned_abs}
use Rattle.std.specs.List.{flat_map}
use Rattle.std.specs.Int.{w16, w64, to_le_bytes, from_le_bytes}
use Rattle.vdr_terms.specs.Records.{FeedItem}
use Rattle.vdr_terms.specs.Stamps.{IsStamp, last_stamp}

abbrev pub feed_header : List ℕ
feed_header = codes "VDRFEED1"

-- the 19 bytes before an item's body: group, received, utc, length
abbrev pub head : FeedItem → List ℕ
head i = i.group ∷ to_le_bytes w64 i.item.received ++ to_le_bytes w64 (unsigned_abs i.item.utc) ++ to_le_bytes w16 (length i.item.bytes)

abbrev pub spelling : FeedItem → List ℕ
spelling i = head i ++ i.item.bytes

abbrev pub feed : List FeedItem → List ℕ
feed items = feed_header ++ flat_map spelling items

-- The greatest number of items of a feed that a program of ours reads.
abbrev pub longest_feed : ℕ
longest_feed = 4_294_967_295

-- when the last of them was received, 0 where there is none
abbrev pub received_after : ℕ → List FeedItem → ℕ
received_after floor [] = floor
received_after floor (i ∷ items) = received_after i.item.received items

-- An item that may stand behind one that was received at `floor`.
pub record IsItem (floor : ℕ) (i : FeedItem) : Type 0 where
  pub group : i.group ≤ 15
  pub later : floor ≤ i.item.received
  pub received : i.item.received < 2 ^ 48
  pub utc : IsStamp i.item.utc
  pub short : length i.item.bytes < 2 ^ 16

-- items that may follow one another, the first one after `floor`
abbrev pub AreItems : ℕ → List FeedItem → Type 0
AreItems floor [] = Unit {0}
AreItems floor (i ∷ items) = IsItem floor i × AreItems i.item.received items

-- the numbers of a head. A negative stamp reads as one of at least 2 ^ 63.
abbrev pub group_in : List ℕ → ℕ
group_in bytes = slice_index bytes 0

abbrev pub received_in : List ℕ → ℕ
received_in bytes = from_le_bytes w64 (take 8 (drop 1 bytes))

abbrev pub utc_in : List ℕ → ℕ
utc_in bytes = from_le_bytes w64 (take 8 (drop 9 bytes))

abbrev pub length_in : List ℕ → ℕ
length_in bytes = from_le_bytes w16 (take 2 (drop 17 bytes))

-- the fault of the numbers of a head, where the item before was received at `floor`: one out of range, no such group, or too early
abbrev pub number_fault : (floor group received utc : ℕ) → Option ℕ
number_fault floor group received utc =
    if nat_le (2 ^ 48) received || nat_lt last_stamp utc then Some 3
    else if nat_lt 15 group then Some 4
    else if nat_lt received floor then Some 5
    else None

abbrev pub head_fault : ℕ → List ℕ → Option ℕ
head_fault floor bytes = number_fault floor (group_in bytes) (received_in bytes) (utc_in bytes)

-- the fault of a body that ends too early
abbrev pub body_fault : List ℕ → Option ℕ
body_fault bytes = if nat_lt (length bytes) (19 + length_in bytes) then Some 2 else None

abbrev pub first_of : Option ℕ → Option ℕ → Option ℕ
first_of None later = later
first_of (Some number) later = Some number

-- The number of the first fault of the bytes where an item should stand, after `count` items the last of which was
-- received at `floor`; None where there is none, and where no byte is left.
abbrev pub fault_of : (limit count floor : ℕ) → List ℕ → Option ℕ
fault_of limit count floor [] = None
fault_of limit count floor (b ∷ bytes) =
    if nat_le limit count then Some 6
    else if nat_lt (length (b ∷ bytes)) 19 then Some 2
    else first_of (head_fault floor (b ∷ bytes)) (body_fault (b ∷ bytes))

-- Behind the header and these items stand these bytes.
pub record Reaches (limit : ℕ) (bytes : List ℕ) (items : List FeedItem) (rest : List ℕ) : Type 0 where
  pub spelled : bytes ≡ feed items ++ rest
  pub legal : AreItems 0 items
  pub few : length items ≤ limit

-- The bytes are a feed of these items.
abbrev pub IsFeed : ℕ → List ℕ → List FeedItem → Type 0
IsFeed limit bytes items = Reaches limit bytes items []

-- The bytes are no feed: behind these items stands, at this offset, what the number says.
pub record IsRefusedAfter (limit : ℕ) (bytes : List ℕ) (number offset : ℕ) (items : List FeedItem) (rest : List ℕ) : Type 0 where
  pub front : Reaches limit bytes items rest
  pub fault : fault_of limit (length items) (received_after 0 items) rest ≡ Some number
  pub offset_is : offset ≡ length (feed items)

abbrev pub IsRefused : ℕ → List ℕ → (number offset : ℕ) → Type 0
IsRefused limit bytes number offset =
    ((take 8 bytes ≢ feed_header) × (number ≡ 1) × (offset ≡ 0))
    ⊎ ((items : List FeedItem) × (rest : List ℕ) × IsRefusedAfter limit bytes number offset items rest)
