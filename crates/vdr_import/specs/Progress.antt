-- How far a reader has come in a capture.
use Rattle.std.specs.Prelude.{◌≡◌, ◌≤◌, ℕ, Bool, true, false, List, Option, None, Some, Result, Ok, Err, ⊤}
use Rattle.std.specs.Io.KnownBytes.{Consumes, IsAtEnd, prepend_known}
use Rattle.vdr_outside.specs.Writes.{AppendsFront}
use Rattle.vdr_feed.specs.Feed.{longest_feed}
use Rattle.vdr_pcap.specs.Seen.{IfKnown}
use Rattle.vdr_feed.specs.declared.item.Item.{Item}
use Rattle.vdr_pcap.specs.Capture.{AreParts, Part, course_after, is_begun, no_course, text}
use Rattle.vdr_pcap.specs.Reader.{GivesItem, Reading}
use Rattle.vdr_pcap.specs.Steps.{RefusesAt}
use Rattle.vdr_pcap.specs.declared.fault.CaptureFault.{CaptureFault}
use Rattle.vdr_pcap.specs.declared.fault.CaptureFault.TheVariants.{Fault, Refused as ReadRefused}
use Rattle.vdr_import.specs.Imports.{IfCaptured, IfReached, IfRefusedBehind, imported}
use Rattle.vdr_import.specs.Relayed.{Gathers}
use Rattle.vdr_import.specs.declared.refused.ImportRefused.{ImportRefused}
use Rattle.vdr_import.specs.declared.refused.ImportRefused.TheVariants.{Input, Output, Refused}
use Rattle.vdr_import.specs.declared.side.Side.{Side}
use Rattle.vdr_import.specs.declared.side.Side.TheVariants as side

-- Of an input of which first so many bytes were left, it has read the header and these packets or blocks, in their order.
pub record HasRead (first now : Option (List ℕ)) (r : Reading) (parts : List Part) : Type 0 where
  pub read : Consumes first now (text parts)
  pub legal : AreParts longest_feed false no_course parts
  pub begins : is_begun parts ≡ true
  pub limit : r.limit ≡ longest_feed
  pub course : r.course ≡ course_after no_course parts
  pub few : r.course.account.items ≤ longest_feed
  pub begun : r.begun ≡ true
  pub going : r.stopped ≡ None

-- What a reader gave through a relay of which a side failed, or none.
abbrev pub next_as : Result Bool CaptureFault → Option Side → Result Bool ImportRefused
next_as (Ok more) failed = Ok more
next_as (Err (ReadRefused number offset)) failed = Err (Refused number offset)
next_as (Err Fault) (Some side.Output) = Err Output
next_as (Err Fault) (Some side.Input) = Err Input
next_as (Err Fault) None = Err Input

-- What was read next, by the answer.
abbrev pub GivesNext : (left now : Option (List ℕ)) → (r r' : Reading) → Item → Result Bool ImportRefused → Type 0
GivesNext left now r r' held (Ok more) = GivesItem left now r r' held more
GivesNext left now r r' held (Err (Refused number offset)) = IfKnown left (λ bytes. RefusesAt r.limit r.course bytes number offset)
GivesNext left now r r' held (Err Input) = ⊤
GivesNext left now r r' held (Err Output) = ⊤

-- What was written and what waits, by the answer.
abbrev pub GathersFeed : (left now taken taken' : Option (List ℕ)) → (waiting : List ℕ) → Result ⊤ ImportRefused → Type 0
GathersFeed left now taken taken' waiting (Ok x) = IsAtEnd now × IfCaptured left (λ parts. Gathers taken taken' (imported parts) waiting)
GathersFeed left now taken taken' waiting (Err (Refused number offset)) = IfRefusedBehind left number offset (λ parts. Gathers taken taken' (imported parts) waiting)
GathersFeed left now taken taken' waiting (Err Input) = IfReached left (λ parts. Gathers taken taken' (imported parts) waiting)
GathersFeed left now taken taken' waiting (Err Output) = IfReached left (λ parts. AppendsFront taken taken' (imported parts))

-- It has read the header and some packets or blocks, and the feed of their items was written, or waits.
pub record HasGathered (first now : Option (List ℕ)) (r : Reading) (taken taken' : Option (List ℕ)) (waiting : List ℕ) : Type 0 where
  pub parts : List Part
  pub read : HasRead first now r parts
  pub gathers : Gathers taken taken' (imported parts) waiting

-- What was gathered of the bytes that were read ahead: whatever was read and gathered before.
abbrev pub GoesOn : (ahead ahead' : List ℕ) → (r r' : Reading) → (taken taken' : Option (List ℕ)) → (waiting waiting' : List ℕ) → Type 0
GoesOn ahead ahead' r r' taken taken' waiting waiting' = (first left begin : Option (List ℕ)) → HasGathered first (prepend_known ahead left) r begin taken waiting
    → HasGathered first (prepend_known ahead' left) r' begin taken' waiting' × (r.course.account.items ≤ r'.course.account.items)

-- The sink failed behind a front of the feed of what was read.
abbrev pub FailsSo : (ahead : List ℕ) → Reading → (taken taken' : Option (List ℕ)) → (waiting : List ℕ) → Type 0
FailsSo ahead r taken taken' waiting = (first left begin : Option (List ℕ)) → HasGathered first (prepend_known ahead left) r begin taken waiting
    → IfReached first (λ parts. AppendsFront begin taken' (imported parts))
