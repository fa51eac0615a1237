-- A visit over the records of a slot, and what a step of it answers.
use Rattle.std.specs.Prelude.{◌≡◌, ◌≢◌, ◌⊎◌, ◌↔◌, ◌+◌, ◌==◌, if◌then◌else◌, ℕ, Bool, true, false, List, [], ◌∷◌, ◌++◌, All, Contains, Option, Some, None, Result, Ok, Err}
use Rattle.vdr_terms.specs.Records.{Record}
use Rattle.vdr_outside.specs.Disk.{Disk, content}
use Rattle.vdr_segment.specs.Gates.{IsOpenAt}
use Rattle.vdr_index.specs.declared.position.Position.{Position}
use Rattle.vdr_index.specs.declared.selection.Selection.{Selection}
use Rattle.vdr_index.specs.Selections.{Passes, StartsSelected, is_selected}
use Rattle.vdr_index.specs.Positions.{front, IsAt, HasAhead, IsBrokenAt, StepsOver}
use Rattle.vdr_directory.specs.Sequence.{Placed, records_of}
use Rattle.vdr_ring.specs.Damage.{IsDamagedAt, IsIntact}
use Rattle.vdr_ring.specs.Rings.{RingState}
use Rattle.vdr_directory.specs.Opening.{slot_bytes}
use Rattle.vdr_ring.specs.declared.refused.ReadRefused.{ReadRefused}
use Rattle.vdr_ring.specs.declared.refused.ReadRefused.TheVariants.{Fault, Damaged}

-- The slot that a visit stands in, if any, its position there, and the record that it has stepped to.
pub record VisitState : Type 0 where
  pub slot : Option ℕ
  pub position : Position
  pub item : Option Record

abbrev pub without_item : VisitState → VisitState
without_item c = record c { item = None }

-- A visit in the slot that is loaded stands there rightly, so that it may go on without a look at what is behind it.
abbrev pub StandsIn : RingState → VisitState → Type 0
StandsIn ring c = (slot : ℕ) → c.slot ≡ Some slot → ring.loaded ≡ Some slot → IsAt ring.buffer c.position

-- Where a step in this slot begins: where the visit stands in it, else before its first batch.
abbrev pub position_within : ℕ → Option ℕ → Position → Position
position_within slot None position = front
position_within slot (Some s) position = if s == slot then position else front

abbrev pub position_in : ℕ → VisitState → Position
position_in slot c = position_within slot c.slot c.position

-- What a step from this position of a slot with these bytes, over records that are not selected, makes of a visit that has no record.
abbrev pub StepsFrom : Selection → (slot : ℕ) (bytes : List ℕ) → Position → (old : VisitState) → Result Bool ℕ → (new : VisitState) → Type 0
StepsFrom selection slot bytes position old (Ok true) new =
    (q : Position) × Passes bytes selection position q × StartsSelected bytes selection q × (IsBrokenAt bytes q → ⊥)
    × (r : Record) × StepsOver bytes q r new.position × (new.slot ≡ Some slot) × (new.item ≡ Some r)
StepsFrom selection slot bytes position old (Ok false) new =
    Passes bytes selection position new.position × ((records : List Record) → HasAhead bytes new.position records ↔ (records ≡ [])) × (new.slot ≡ Some slot) × (new.item ≡ None)
StepsFrom selection slot bytes position old (Err at) new = (q : Position) × Passes bytes selection position q × IsBrokenAt bytes q × (at ≡ q.to) × (new ≡ old)

-- What a step in a slot with these bytes, which stands at this place of its medium, makes of the visit.
abbrev pub Steps : Selection → (medium slot place : ℕ) (bytes : List ℕ) (old : VisitState) → Result Bool ReadRefused → (new : VisitState) → Type 0
Steps selection medium slot place bytes old (Ok true) new = IsOpenAt bytes 0 × StepsFrom selection slot bytes (position_in slot old) old (Ok true) new
Steps selection medium slot place bytes old (Ok false) new =
    ((IsOpenAt bytes 0 → ⊥) × (new.slot ≡ None) × (new.item ≡ None))
    ⊎ (IsOpenAt bytes 0 × IsAt bytes (position_in slot old) × StepsFrom selection slot bytes (position_in slot old) old (Ok false) new)
Steps selection medium slot place bytes old (Err Fault) new = new ≡ without_item old
Steps selection medium slot place bytes old (Err (Damaged m offset)) new =
    IsOpenAt bytes 0 × (m ≡ medium) × (new ≡ without_item old)
    × (((at : ℕ) × IsDamagedAt bytes at × (offset ≡ place + at))
    ⊎ ((IsAt bytes (position_in slot old) × (q : Position) × Passes bytes selection (position_in slot old) q × IsBrokenAt bytes q × (offset ≡ place + q.to))
    ⊎ ((IsAt bytes (position_in slot old) → ⊥) × (offset ≡ place))))

-- These records of a segment are ahead: those behind the visit where it stands in its slot, else all of them.
abbrev pub IsAhead : (bytes : List ℕ) (p : Placed) → VisitState → List Record → Type 0
IsAhead bytes p c records = ((c.slot ≡ Some p.slot) × IsAt bytes c.position × HasAhead bytes c.position records) ⊎ ((c.slot ≢ Some p.slot) × (records ≡ records_of p))

-- These records of a slot are ahead: those of its segment, and none where it is closed.
abbrev pub AreAhead : (bytes : List ℕ) (placed : List Placed) (slot : ℕ) → VisitState → List Record → Type 0
AreAhead bytes placed slot c records = ((p : Placed) × Contains placed p × (p.slot ≡ slot) × IsAhead bytes p c records) ⊎ (All (λ p. p.slot ≢ slot) placed × (records ≡ []))

-- The visit steps to the first of the records ahead that is selected, and those behind it are ahead of it then; or there is none.
abbrev pub Visits : Selection → (bytes : List ℕ) (placed : List Placed) (slot : ℕ) (records : List Record) → Result Bool ReadRefused → (new : VisitState) → Type 0
Visits selection bytes placed slot records (Ok true) new =
    (passed : List Record) × (r : Record) × (more : List Record) × (records ≡ passed ++ r ∷ more) × All (λ x. is_selected selection x ≡ false) passed
    × (is_selected selection r ≡ true) × (new.item ≡ Some r) × AreAhead bytes placed slot new more
Visits selection bytes placed slot records (Ok false) new = All (λ x. is_selected selection x ≡ false) records × (new.item ≡ None) × AreAhead bytes placed slot new []
Visits selection bytes placed slot records (Err Fault) new = (new.item ≡ None) × AreAhead bytes placed slot new records
Visits selection bytes placed slot records (Err (Damaged m offset)) new = ⊥

module _ {tells tells_images : Type 0} where
  -- What a slot reads as.
  abbrev pub slot_read : RingState → ℕ → Disk tells tells_images → List ℕ
  slot_read ring slot disk = slot_bytes ring.segment slot (content disk.reads ring.medium)

  -- The buffer holds what the slot that is loaded reads as.
  abbrev pub IsLoaded : RingState → Disk tells tells_images → Type 0
  IsLoaded ring disk = (slot : ℕ) → ring.loaded ≡ Some slot → tells → ring.buffer ≡ slot_read ring slot disk

  -- The slot that is loaded was judged: the buffer holds what it reads as, and that is intact.
  abbrev pub HasJudged : RingState → Disk tells tells_images → Type 0
  HasJudged ring disk = (slot : ℕ) → ring.loaded ≡ Some slot → tells → (ring.buffer ≡ slot_read ring slot disk) × IsIntact (slot_read ring slot disk)

  -- A visit that stands in a slot stands between its records: some are ahead of it, or none.
  abbrev pub StandsAmong : RingState → Disk tells tells_images → VisitState → Type 0
  StandsAmong ring disk c = (slot : ℕ) → c.slot ≡ Some slot → IsAt (slot_read ring slot disk) c.position × (records : List Record) × HasAhead (slot_read ring slot disk) c.position records
