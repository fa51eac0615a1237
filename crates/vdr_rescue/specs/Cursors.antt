-- Where a reader of one medium stands, and what is ahead of it.
use Rattle.std.specs.Prelude.{◌≡◌, ◌<◌, ◌≤◌, ◌+◌, ◌-◌, ◌*◌, ℕ, suc, Bool, true, false, List, [], ◌∷◌, ◌++◌, length, drop, All, IfSome, Option, Some, None}
use Rattle.vdr_terms.specs.Records.{Record}
use Rattle.vdr_segment.specs.declared.area.Area.{Area}
use Rattle.vdr_rescue.specs.declared.cursor.Inside.{Inside}
use Rattle.vdr_rescue.specs.declared.fronts.Head.{Head}
use Rattle.vdr_rescue.specs.declared.told.Told.{Told}
use Rattle.vdr_rescue.specs.Given.{GivesAbove, Stands, front}
use Rattle.vdr_rescue.specs.Readings.{AreRead, floor_behind}
use Rattle.vdr_rescue.specs.Runs.{run_behind}

-- The segments in the order in which they are read, what is told of those that were read, the one in which the reader stands, if any, its
-- bytes, the sequence number of the last one that was entered, and the place behind the last record that was given.
pub record CursorState : Type 0 where
  pub area : Area
  pub heads : List Head
  pub told : List Told
  pub inside : Option Inside
  pub buffer : List ℕ
  pub before : Option ℕ
  pub reached : ℕ

-- The segment in which it stands is one of them.
abbrev pub HasLeft : List Head → List Told → Option Inside → Type 0
HasLeft heads told None = length told ≤ length heads
HasLeft heads told (Some i) = length told < length heads

-- Its segments are slots of the medium, its buffer has room for one, and it stands rightly in what it holds.
pub record IsSettled (area : Area) (heads : List Head) (told : List Told) (inside : Option Inside) (buffer : List ℕ) : Type 0 where
  pub slots : All (λ h. h.slot < area.slots) heads
  pub room : length buffer ≡ area.segment
  pub left : HasLeft heads told inside
  pub stands : IfSome inside (λ i. Stands buffer i.stand)

-- What is told of a segment that gives these records more.
abbrev pub told_of : Inside → List Record → Told
told_of i here = record { fault = i.fault; run = run_behind i.run here }

-- From there on these records are given, and in the end this is told of all segments. Such is a reader that stands between segments, with the
-- others ahead, or in one.
abbrev pub EndsAt : (segment : ℕ) → List ℕ → List Head → List Told → Option Inside → (buffer : List ℕ) → (before : Option ℕ) → (reached : ℕ) → (given : List Record) → (all : List Told) → Type 0
EndsAt segment bytes heads told None buffer before reached given all =
    (rest : List Told) × AreRead segment bytes before reached (drop (length told) heads) rest given × (all ≡ told ++ rest)
EndsAt segment bytes heads told (Some i) buffer before reached given all =
    (here : List Record) × GivesAbove buffer i.stand i.floor here
    × ((rest : List Told) × (more : List Record) × AreRead segment bytes before (floor_behind reached here) (drop (suc (length told)) heads) rest more
    × (given ≡ here ++ more) × (all ≡ told ++ told_of i here ∷ rest))

abbrev pub Ends : List ℕ → CursorState → List Record → List Told → Type 0
Ends bytes c given all = EndsAt c.area.segment bytes c.heads c.told c.inside c.buffer c.before c.reached given all

-- At the front of a segment that is entered.
abbrev pub entered : Head → (floor : ℕ) → (fault : Option ℕ) → Inside
entered head floor fault = record { stand = front head.first; floor = floor; fault = fault; run = None }

-- What is ahead of a reader once it has gone to the next segment, or found none.
abbrev pub Enters : List ℕ → (more : Bool) → (now : CursorState) → List Record → List Told → Type 0
Enters bytes true now given all = Ends bytes now given all
Enters bytes false now given all = (given ≡ []) × (all ≡ now.told)

-- Before the first record.
abbrev pub at_front : CursorState → CursorState
at_front c = record c { told = []; inside = None; before = None; reached = 0 }

-- What is ahead of the reader after a step that answers so: the record that it stepped to and what is ahead then, or no record.
abbrev pub StepsTo : List ℕ → (found : Bool) → Record → (now : CursorState) → List Record → List Told → Type 0
StepsTo bytes true item now given all = (more : List Record) × (given ≡ item ∷ more) × Ends bytes now more all
StepsTo bytes false item now given all = (given ≡ []) × (all ≡ now.told)

-- The same of a step within a segment, behind which others may be ahead.
abbrev pub StepsIn : List ℕ → (found : Bool) → Record → (now : CursorState) → List Record → List Told → Type 0
StepsIn bytes true item now given all = (more : List Record) × (given ≡ item ∷ more) × Ends bytes now more all
StepsIn bytes false item now given all = Ends bytes now given all

-- How much is ahead at the most: no public clause cites it.
abbrev pub passed_in : Option Inside → ℕ
passed_in None = 0
passed_in (Some i) = i.stand.position.at

abbrev pub left_of : CursorState → ℕ
left_of c = (length c.heads - length c.told) * 33554432 - passed_in c.inside

-- The bytes that steps from there on read at most: a segment's for each that was not entered.
abbrev pub one_inside : Option Inside → ℕ
one_inside None = 0
one_inside (Some i) = 1

abbrev pub budget : CursorState → ℕ
budget c = (length c.heads - (length c.told + one_inside c.inside)) * c.area.segment
