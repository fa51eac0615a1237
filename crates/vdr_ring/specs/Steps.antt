-- What a step of a cursor keeps, and what it says of damage.
use Rattle.std.specs.Prelude.{◌≡◌, ◌≢◌, ◌↔◌, ◌<◌, ℕ, Bool, true, false, get_or, Some, None, IfSome, Result, Ok, Err, OnOk}
use Rattle.vdr_terms.specs.Queries.{Query, Span}
use Rattle.vdr_outside.specs.Causes.{Rose}
use Rattle.vdr_outside.specs.Disk.{Disk, content}
use Rattle.vdr_outside.specs.declared.media.Media.{Ghosts as MediaTells}
use Rattle.vdr_ring.specs.Damage.{IsDamagedIn, IsIntact}
use Rattle.vdr_ring.specs.Meets.{AreApart}
use Rattle.vdr_ring.specs.Rings.{RingState}
use Rattle.vdr_ring.specs.Visits.{HasJudged, StandsAmong, slot_read}
use Rattle.vdr_ring.specs.declared.refused.ReadRefused.{ReadRefused}
use Rattle.vdr_ring.specs.declared.refused.ReadRefused.TheVariants.{Fault, Damaged}
use Rattle.vdr_ring.specs.Budgets.{Spends, budget}
use Rattle.vdr_ring.specs.Passing.{AreIntact, ArePassedIntact, StandsToMeet}
use Rattle.vdr_ring.specs.Walks.{CountsOn, CursorState, HasRead, MayStep, steps_left}
use Rattle.vdr_ring.specs.declared.cursor.Standing.{Standing}

-- What a step keeps, whatever it answers.
pub record KeepsStep {M : Type 0} (media : MediaTells M) (query : Query) (span : Span) (old new : RingState) (from to : CursorState) (before after : M) (result : Result Bool ReadRefused) : Type 0 where
  -- the ring has read of its medium alone
  pub read : HasRead old new (media.disk before) (media.disk after)
  -- no byte of another medium was read, and no count of faults falls
  pub counts : CountsOn old.medium (media.bytes_read before) (media.bytes_read after) (media.faults before) (media.faults after)
  -- it reads no more than was in its budget
  pub spends : Spends old.medium (budget old query span from.standing) (budget new query span to.standing) (media.bytes_read before) (media.bytes_read after) result
  -- the cursor may step on
  pub may : MayStep new to
  -- it has a record exactly where one was found
  pub item : to.visit.item ≢ None ↔ (result ≡ Ok true)
  -- a step to a record leaves fewer of them
  pub onward : result ≡ Ok true → steps_left to < steps_left from
  -- a fault comes only where that of the ring's medium rose
  pub cause : result ≡ Err Fault → Rose (get_or (media.faults before) old.medium 0) (get_or (media.faults after) old.medium 0)

module _ {tells tells_images : Type 0} where
  -- The damage that a step names is in the slot of the segment in which the cursor then stands.
  pub record NamesDamage (ring : RingState) (disk : Disk tells tells_images) (to : CursorState) (offset : ℕ) : Type 0 where
    pub segment : Standing
    pub stands : to.standing ≡ Some segment
    pub within : segment.slot < ring.slots
    pub damaged : IsDamagedIn ring.segment segment.slot (content disk.reads ring.medium) offset

  -- A step in the segment in which a cursor stands leaves it there, and after Ok that is intact.
  pub record JudgesHere (ring : RingState) (disk : Disk tells tells_images) (from to : CursorState) (result : Result Bool ReadRefused) : Type 0 where
    -- it stands in the same segment
    pub standing : to.standing ≡ from.standing
    -- it stands between the records of its slot, as it did
    pub among : tells → HasJudged ring disk → StandsAmong ring disk from.visit → StandsAmong ring disk to.visit
    -- its segment is intact
    pub intact : OnOk result (tells → HasJudged ring disk → IfSome from.standing (λ s. IsIntact (slot_read ring s.slot disk)))
    -- damage is on the ring's medium
    pub medium : (m offset : ℕ) → result ≡ Err (Damaged m offset) → m ≡ ring.medium
    -- and in the slot of its segment
    pub named : (m offset : ℕ) → result ≡ Err (Damaged m offset) → tells → HasJudged ring disk → StandsAmong ring disk from.visit → NamesDamage ring disk to offset

  -- How a cursor stands after a step on media that may be damaged, what damage it names, and that it passes over none.
  pub record TellsDamage (query : Query) (span : Span) (ring : RingState) (disk : Disk tells tells_images) (from to : CursorState) (result : Result Bool ReadRefused) : Type 0 where
    -- it stands between the records of its slot, as it did
    pub among : tells → HasJudged ring disk → StandsAmong ring disk from.visit → StandsAmong ring disk to.visit
    -- it stands in a segment that meets the query, as it did
    pub meets : StandsToMeet query span ring from.standing → StandsToMeet query span ring to.standing
    -- all segments that meet the query and that it passes are intact
    pub passed : tells → HasJudged ring disk → AreApart ring.directory.index → StandsToMeet query span ring from.standing
        → ArePassedIntact query span ring disk from.standing → ArePassedIntact query span ring disk to.standing
    -- and where no further record is there, all that meet it are
    pub whole : result ≡ Ok false → tells → HasJudged ring disk → AreApart ring.directory.index → StandsToMeet query span ring from.standing
        → ArePassedIntact query span ring disk from.standing → AreIntact query span ring disk
    -- damage is on the ring's medium
    pub medium : (m offset : ℕ) → result ≡ Err (Damaged m offset) → m ≡ ring.medium
    -- and in the slot of the segment in which it stands then
    pub named : (m offset : ℕ) → result ≡ Err (Damaged m offset) → tells → HasJudged ring disk → StandsAmong ring disk from.visit → NamesDamage ring disk to offset
