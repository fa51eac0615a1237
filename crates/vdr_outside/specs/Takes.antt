-- What one take of a port did.
use Rattle.std.specs.Prelude.{◌≡◌, ◌≤◌, ◌<◌, ◌^◌, ℕ, ℤ, List, [], take, Option}
use Rattle.vdr_terms.specs.Records.{Item}
use Rattle.vdr_terms.specs.Stamps.{IsStamp}
use Rattle.vdr_outside.specs.declared.port.Taken.{Taken}
use Rattle.vdr_outside.specs.declared.port.Taken.TheVariants.{Datagram, Quiet, Ended, Failed}
use Rattle.vdr_outside.specs.Calls.{Answer, other, ended, failed}
use Rattle.vdr_outside.specs.Told.{Stays, Gains, Loses, NoneLeft}

-- What of a datagram is given: of a longer one the first 1,473 bytes.
abbrev pub cut : Item → Item
cut item = record item { bytes = take 1473 item.bytes }

-- Where a port stands.
pub record Standing : Type 0 where
  pub left : Option (List Item)  -- the datagrams left, where they are told
  pub taken : Option (List Item)  -- those that it gave, as it gave them
  pub floor : ℕ  -- the last `received`

-- Nothing was given.
pub record Waits (old new : Standing) (into : List ℕ) : Type 0 where
  pub left : Stays old.left new.left
  pub taken : Stays old.taken new.taken
  pub floor : new.floor ≡ old.floor
  pub empty : into ≡ []

-- The first datagram left was given.
pub record Gives (old new : Standing) (received : ℕ) (utc : ℤ) (into : List ℕ) : Type 0 where
  pub item : Item
  pub received_is : item.received ≡ received
  pub utc_is : item.utc ≡ utc
  pub bytes : into ≡ take 1473 item.bytes
  pub left : Loses old.left new.left item
  pub taken : Gains old.taken new.taken (cut item)
  pub later : old.floor ≤ received
  pub floor : new.floor ≡ received
  pub small : received < 2 ^ 48
  pub stamp : IsStamp utc

abbrev pub Takes : Standing → Standing → Taken → List ℕ → Type 0
Takes old new (Datagram received utc) into = Gives old new received utc into
Takes old new Quiet into = Waits old new into
Takes old new Ended into = Waits old new into × NoneLeft old.left
Takes old new Failed into = Waits old new into

abbrev pub answer_of : Taken → Answer
answer_of (Datagram received utc) = other
answer_of Quiet = other
answer_of Ended = ended
answer_of Failed = failed
