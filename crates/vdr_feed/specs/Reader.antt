-- What a contract sees of a reader, and what its calls say of the bytes.
use Rattle.std.specs.Prelude.{◌≡◌, ◌<◌, ℕ, ◌+◌, Bool, true, false, List, length, Option, None, Some, Result, Ok, Err, ⊤}
use Rattle.std.specs.Io.KnownBytes.{Consumes, IsAtEnd}
use Rattle.vdr_terms.specs.Records.{FeedItem}
use Rattle.vdr_feed.specs.declared.fault.FeedFault.{FeedFault}
use Rattle.vdr_feed.specs.declared.fault.FeedFault.TheVariants.{Fault, Refused}
use Rattle.vdr_feed.specs.declared.fault.ItemRefused.{ItemRefused}
use Rattle.vdr_feed.specs.declared.fault.ItemRefused.TheVariants.{Failed as ReadFailed, Illegal}
use Rattle.vdr_feed.specs.declared.item.Item.{Item}
use Rattle.vdr_feed.specs.Feed.{spelling, IsItem}
use Rattle.vdr_feed.specs.Kept.{Holds}

-- where a reader stands
pub record Reading : Type 0 where
  -- how many items it may give, how many it gave, when the last of them was received
  pub limit : ℕ
  pub count : ℕ
  pub floor : ℕ
  -- the bytes up to the next item
  pub offset : ℕ
  -- whether the header was asked for
  pub begun : Bool
  -- the answer that it gives from now on, where there was a fault or a refusal
  pub stopped : Option FeedFault

-- a reader on which nothing was called, and one whose header was read
abbrev pub new_reading : ℕ → Reading
new_reading limit = record { limit = limit; count = 0; floor = 0; offset = 0; begun = false; stopped = None }

abbrev pub begun_reading : ℕ → Reading
begun_reading limit = record { limit = limit; count = 0; floor = 0; offset = 8; begun = true; stopped = None }

-- it answers this from now on
abbrev pub stopped_by : Reading → FeedFault → Reading
stopped_by r e = record r { begun = true; stopped = Some e }

-- where it stands after an item
abbrev pub past_item : Reading → FeedItem → Reading
past_item r i = record r { count = r.count + 1; floor = i.item.received; offset = r.offset + length (spelling i) }

-- An item was read: the bytes that are known began with it, and it is legal here.
pub record IsNext (left now : Option (List ℕ)) (limit count floor : ℕ) (held : Item) (i : FeedItem) : Type 0 where
  pub bytes : Consumes left now (spelling i)
  pub legal : IsItem floor i
  pub few : count < limit
  pub holds : Holds held i

-- What a read without a fault did: it read the next item, with a body of this length, or it found the end.
abbrev pub ReadsItem : Option (List ℕ) → Option (List ℕ) → (limit count floor : ℕ) → Item → Option ℕ → Type 0
ReadsItem left now limit count floor held (Some len) = (i : FeedItem) × IsNext left now limit count floor held i × (length i.item.bytes ≡ len)
ReadsItem left now limit count floor held None = IsAtEnd left × IsAtEnd now

-- The same, with where the reader then stands.
abbrev pub GivesItem : Option (List ℕ) → Option (List ℕ) → Reading → Reading → Item → Bool → Type 0
GivesItem left now r r' held true = (i : FeedItem) × IsNext left now r.limit r.count r.floor held i × (r' ≡ past_item r i)
GivesItem left now r r' held false = IsAtEnd left × IsAtEnd now × (r' ≡ r)

-- a fact about the bytes left, where they are known
abbrev pub IfKnown : Option (List ℕ) → (List ℕ → Type 0) → Type 0
IfKnown None P = ⊤
IfKnown (Some bytes) P = P bytes

-- what is said of a refusal's number and offset
abbrev pub IfRefused : {T : Type 0} → Result T FeedFault → (ℕ → ℕ → Type 0) → Type 0
IfRefused (Ok x) P = ⊤
IfRefused (Err Fault) P = ⊤
IfRefused (Err (Refused number offset)) P = P number offset

-- the same of an item, before it has its offset
abbrev pub IfIllegal : {T : Type 0} → Result T ItemRefused → (ℕ → Type 0) → Type 0
IfIllegal (Ok x) P = ⊤
IfIllegal (Err ReadFailed) P = ⊤
IfIllegal (Err (Illegal number)) P = P number
