-- What a contract sees of a reader, and what its calls say of the bytes.
use Rattle.std.specs.Prelude.{◌≡◌, ◌≤◌, ℕ, Bool, true, false, List, [], ◌∷◌, Option, None, Result, Ok, Err, IsErrOf, ⊤}
use Rattle.std.specs.Io.KnownBytes.{IsAtEnd}
use Rattle.vdr_outside.specs.Causes.{Rose}
use Rattle.vdr_feed.specs.declared.item.Item.{Item}
use Rattle.vdr_pcap.specs.Capture.{Course, Ended, no_course, step}
use Rattle.vdr_pcap.specs.Steps.{Begins, Gives}
use Rattle.vdr_pcap.specs.Taken.{item_held}
use Rattle.vdr_pcap.specs.declared.fault.CaptureFault.{CaptureFault}
use Rattle.vdr_pcap.specs.declared.fault.CaptureFault.TheVariants.{Fault, Refused}

-- where a reader stands
pub record Reading : Type 0 where
  -- how many items it may give
  pub limit : ℕ
  -- whether the header was asked for
  pub begun : Bool
  -- how far it has come
  pub course : Course
  -- the answer that it gives from now on, where there was a fault or a refusal
  pub stopped : Option CaptureFault

-- a reader on which nothing was called
abbrev pub new_reading : ℕ → Reading
new_reading limit = record { limit = limit; begun = false; course = no_course; stopped = None }

-- one that has come so far
abbrev pub reading_at : ℕ → Course → Reading
reading_at limit course = record { limit = limit; begun = true; course = course; stopped = None }

-- The header of a pcap file or of the first section was read.
abbrev pub GivesHeader : (left now : Option (List ℕ)) → (limit : ℕ) → Reading → Type 0
GivesHeader left now limit r' = Begins left now limit r'.course × (r' ≡ reading_at limit r'.course)

-- What a read without a fault did: it read the next item, or it found the end, and nothing that is an item before.
abbrev pub GivesItem : (left now : Option (List ℕ)) → (r r' : Reading) → Item → Bool → Type 0
GivesItem left now r r' held true = Gives left now r.limit r.course r'.course (item_held held ∷ []) × (r' ≡ reading_at r.limit r'.course)
GivesItem left now r r' held false = Gives left now r.limit r.course r'.course [] × IsAtEnd now
    × (step r.limit true r'.course [] ≡ Ended) × (r' ≡ reading_at r.limit r'.course)

-- what is said of a refusal's number and offset
abbrev pub IfRefused : {T : Type 0} → Result T CaptureFault → (ℕ → ℕ → Type 0) → Type 0
IfRefused (Ok x) P = ⊤
IfRefused (Err Fault) P = ⊤
IfRefused (Err (Refused number offset)) P = P number offset

-- The source's count of faults never falls, and a reader that had not stopped before answers a fault only where it rose.
pub record HasReadCause {T : Type 0} (stopped : Option CaptureFault) (before now : ℕ) (result : Result T CaptureFault) : Type 0 where
  -- the count does not fall
  pub later : before ≤ now
  -- a fault comes only where it rose
  pub rose : stopped ≡ None → IsErrOf result Fault → Rose before now
