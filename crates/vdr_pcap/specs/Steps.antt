-- What the reader's steps do: one packet or block after another.
use Rattle.std.specs.Prelude.{◌≡◌, ◌<◌, ℕ, ◌+◌, ◌^◌, true, false, List, [], ◌∷◌, ◌++◌, Option, None, Some}
use Rattle.std.specs.Io.KnownBytes.{Consumes, IsAtEnd}
use Rattle.vdr_terms.specs.Records.{FeedItem}
use Rattle.vdr_feed.specs.declared.item.Item.{Item}
use Rattle.vdr_pcap.specs.Account.{counted, datagram_of, item_from, items_from}
use Rattle.vdr_pcap.specs.Capture.{AreParts, Course, Ended, IsPart, Part, Refused as Refuses, course_after, is_too_much, no_course, pieces_of, step, text}
use Rattle.vdr_pcap.specs.Packets.{Nothing, Piece, Unread}
use Rattle.vdr_pcap.specs.Seen.{IfKnown, front_piece, standing_of}
use Rattle.vdr_pcap.specs.Taken.{item_held}
use Rattle.vdr_pcap.specs.declared.account.Account.{Account}
use Rattle.vdr_pcap.specs.declared.steps.Course.{Course as HeldCourse}
use Rattle.vdr_pcap.specs.declared.steps.Stepped.{Stepped}
use Rattle.vdr_pcap.specs.declared.steps.Stepped.TheVariants as stepped
use Rattle.vdr_pcap.specs.declared.unit.Unit.{Unit as Found}
use Rattle.vdr_pcap.specs.declared.unit.Unit.TheVariants as found

abbrev pub course_of : HeldCourse → Course
course_of c = record { standing = standing_of c.said; offset = c.offset; account = c.account }

-- what is settled of so many bytes that tell this
abbrev pub SettlesPiece : (limit offset offset' : ℕ) → (a a' : Account) → (size : ℕ) → Piece → (old new : Item) → Stepped → Type 0
SettlesPiece limit offset offset' a a' size piece old new stepped.Ended = ⊥
SettlesPiece limit offset offset' a a' size piece old new (stepped.Refused number) =
    (number ≡ 7) × (is_too_much limit offset a.items size piece ≡ true) × (offset' ≡ offset)
SettlesPiece limit offset offset' a a' size piece old new stepped.Passed =
    (is_too_much limit offset a.items size piece ≡ false) × (offset' ≡ offset + size) × (a' ≡ counted piece a) × (datagram_of piece ≡ None) × (new ≡ old)
SettlesPiece limit offset offset' a a' size piece old new stepped.Item =
    (is_too_much limit offset a.items size piece ≡ false) × (offset' ≡ offset + size) × (a' ≡ counted piece a) × (item_from a (datagram_of piece) ≡ item_held new ∷ [])

abbrev pub Settles : (limit offset offset' : ℕ) → (a a' : Account) → Found → (front : List ℕ) → (old new : Item) → Stepped → Type 0
Settles limit offset offset' a a' (found.Refuses number) front old new s = (s ≡ stepped.Refused number) × (offset' ≡ offset)
Settles limit offset offset' a a' (found.Says size) front old new s = SettlesPiece limit offset offset' a a' size Nothing old new s
Settles limit offset offset' a a' (found.Unread size) front old new s = SettlesPiece limit offset offset' a a' size Unread old new s
Settles limit offset offset' a a' (found.Packet size link stamp kept) front old new s =
    SettlesPiece limit offset offset' a a' size (front_piece link stamp kept front) old new s

-- One packet or block was read that tells of these items, and the capture has then come so far.
pub record Passes (left now : Option (List ℕ)) (limit : ℕ) (c c' : Course) (items : List FeedItem) : Type 0 where
  pub part : Part
  pub bytes : Consumes left now part.bytes
  pub legal : IsPart limit true c part
  pub items_are : item_from c.account (datagram_of part.piece) ≡ items
  pub stands : c' ≡ part.next
  pub longer : c.offset < c'.offset
  pub fits : c'.offset < 2 ^ 64

-- What one step did.
abbrev pub StepsBy : (left now : Option (List ℕ)) → (limit : ℕ) → (c c' : Course) → (old new : Item) → Stepped → Type 0
StepsBy left now limit c c' old new stepped.Ended = Consumes left now [] × IsAtEnd now × (step limit true c [] ≡ Ended) × (c' ≡ c) × (new ≡ old)
StepsBy left now limit c c' old new (stepped.Refused number) = IfKnown left (λ bytes. step limit true c bytes ≡ Refuses number) × (c'.offset ≡ c.offset)
StepsBy left now limit c c' old new stepped.Passed = Passes left now limit c c' [] × (new ≡ old)
StepsBy left now limit c c' old new stepped.Item = Passes left now limit c c' (item_held new ∷ [])

-- Parts were read that tell of these items, and the capture has then come so far.
pub record Gives (left now : Option (List ℕ)) (limit : ℕ) (c c' : Course) (items : List FeedItem) : Type 0 where
  pub parts : List Part
  pub bytes : Consumes left now (text parts)
  pub legal : AreParts limit true c parts
  pub items_are : items_from c.account (pieces_of parts) ≡ items
  pub stands : c' ≡ course_after c parts

-- Behind parts that tell of no item stands, at this offset, what the number says.
pub record RefusesAt (limit : ℕ) (c : Course) (bytes : List ℕ) (number offset : ℕ) : Type 0 where
  pub parts : List Part
  pub rest : List ℕ
  pub bytes_are : bytes ≡ text parts ++ rest
  pub legal : AreParts limit true c parts
  pub no_items : items_from c.account (pieces_of parts) ≡ []
  pub refused : step limit true (course_after c parts) rest ≡ Refuses number
  pub offset_is : offset ≡ (course_after c parts).offset

-- What the steps up to an item did.
abbrev pub Finds : (left now : Option (List ℕ)) → (limit : ℕ) → (c c' : Course) → (old new : Item) → Stepped → Type 0
Finds left now limit c c' old new stepped.Ended = Gives left now limit c c' [] × IsAtEnd now × (step limit true c' [] ≡ Ended) × (new ≡ old)
Finds left now limit c c' old new (stepped.Refused number) = IfKnown left (λ bytes. RefusesAt limit c bytes number c'.offset)
Finds left now limit c c' old new stepped.Passed = ⊥
Finds left now limit c c' old new stepped.Item = Gives left now limit c c' (item_held new ∷ [])

-- The header of a capture was read, or it is refused.
pub record Begins (left now : Option (List ℕ)) (limit : ℕ) (c' : Course) : Type 0 where
  pub part : Part
  pub bytes : Consumes left now part.bytes
  pub legal : IsPart limit false no_course part
  pub nothing : part.piece ≡ Nothing
  pub stands : c' ≡ part.next

abbrev pub BeginsWith : (left now : Option (List ℕ)) → (limit : ℕ) → (c' : Course) → Option ℕ → Type 0
BeginsWith left now limit c' None = Begins left now limit c'
BeginsWith left now limit c' (Some number) = IfKnown left (λ bytes. step limit false no_course bytes ≡ Refuses number)
