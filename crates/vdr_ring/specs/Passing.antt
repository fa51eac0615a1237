-- The segments that meet a query and that a cursor has passed: each was read, and is intact.
use Rattle.std.specs.Prelude.{◌≡◌, ◌⊎◌, ◌<◌, ℕ, Bool, false, Option, Some, None, IfSome}
use Rattle.vdr_terms.specs.Queries.{Query, Span}
use Rattle.vdr_outside.specs.Disk.{Disk}
use Rattle.vdr_ring.specs.Damage.{IsIntact}
use Rattle.vdr_ring.specs.Meets.{IsKnownToMeet}
use Rattle.vdr_ring.specs.Rings.{RingState}
use Rattle.vdr_ring.specs.Visits.{slot_read}
use Rattle.vdr_ring.specs.declared.cursor.Standing.{Standing}

-- The segment of this number is behind the cursor, where that stands in a later one.
abbrev pub IsPassed : Option Standing → ℕ → Type 0
IsPassed None seq = ⊥
IsPassed (Some s) seq = seq < s.seq

-- The segment in which the cursor stands, if any, is one of which the ring knows that it meets the query within the span.
abbrev pub StandsToMeet : Query → Span → RingState → Option Standing → Type 0
StandsToMeet query span ring standing = IfSome standing (λ s. IsKnownToMeet query span ring.directory.index s.slot s.seq)

-- It is behind the cursor, or it is the one in this slot, in which the cursor stands.
abbrev pub IsReached : Option Standing → (slot seq : ℕ) → Type 0
IsReached None slot seq = ⊥
IsReached (Some s) slot seq = (seq < s.seq) ⊎ (slot ≡ s.slot)

-- From one segment to the next: all that meet the query and are behind the cursor then were behind it, or it stood in them; and where no
-- next one is there, that goes for all that meet the query.
pub record PassesOver (query : Query) (span : Span) (ring : RingState) (from to : Option Standing) (entered : Bool) : Type 0 where
  pub behind : (slot seq : ℕ) → IsKnownToMeet query span ring.directory.index slot seq → IsPassed to seq → IsReached from slot seq
  pub all : entered ≡ false → (slot seq : ℕ) → IsKnownToMeet query span ring.directory.index slot seq → IsReached from slot seq

module _ {tells tells_images : Type 0} where
  -- All of these are intact that are behind the cursor.
  abbrev pub ArePassedIntact : Query → Span → RingState → Disk tells tells_images → Option Standing → Type 0
  ArePassedIntact query span ring disk standing =
      (slot seq : ℕ) → IsKnownToMeet query span ring.directory.index slot seq → IsPassed standing seq → IsIntact (slot_read ring slot disk)

  -- All of them are.
  abbrev pub AreIntact : Query → Span → RingState → Disk tells tells_images → Type 0
  AreIntact query span ring disk = (slot seq : ℕ) → IsKnownToMeet query span ring.directory.index slot seq → IsIntact (slot_read ring slot disk)
