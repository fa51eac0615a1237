-- What an order is answered, and the event that it is (this project's profile).
use Rattle.std.specs.Prelude.{◌≡◌, ◌⊎◌, ◌++◌, ◌∷◌, [], ℕ, Bool, true, List, cond, sum, Option, Some, None}
use Rattle.vdr_core.specs.Histories.{Act, Event, Opening}
use Rattle.vdr_durability.specs.Keeping.{moment_of}
use Rattle.vdr_outside.specs.Causes.{NoneFalls, Rose}
use Rattle.vdr_outside.specs.Disk.{Disk}
use Rattle.vdr_config.specs.Configuration.{Selector}
use Rattle.vdr_control.specs.Orders.{PlainOrder}
use Rattle.vdr_control.specs.Orders.PlainOrder.{Status, Save, Release, Incidents, Play, Evidence, Tell}
use Rattle.vdr_control.specs.Orders.PlainOrder.{Health}
use Rattle.vdr_health.specs.declared.gauged.Gauged.{Gauged}
use Rattle.vdr_control.specs.Orders.PlainOrder.{Export}
use Rattle.vdr_recorder.specs.Recordings.{RecorderState}
use Rattle.vdr_recorder.specs.Watched.{DoneAndTold, Watched}
use Rattle.vdr_reply.specs.Exports.{LacksMemoryToExport}
use Rattle.vdr_desk.specs.Answers.{Answer, ToldSoFar, told_on}
use Rattle.vdr_reply.specs.declared.rest.Rest.{Rest}
use Rattle.vdr_reply.specs.Plays.{IsPlayed, IsWaiting}
use Rattle.vdr_reply.specs.Orders.{act_after, changes, granted_act, text_after}
use Rattle.vdr_reply.specs.Texts.{fault_line, memory_line, page_text}

-- The text of an order whose event has this moment. One without met a fault, or came after one that did.
abbrev pub text_at : Option ℕ → (text : List ℕ) → List ℕ
text_at None text = fault_line
text_at (Some moment) text = text

-- There was no memory, where a page was to be told: what is refused needs none, and neither does a play.
abbrev pub LacksMemory : (said text : List ℕ) → Type 0
LacksMemory said text = (text ≡ memory_line) × (told : List ℕ) × (said ≡ page_text told)

-- The order is answered by what is to be said. What reads the records of media may be answered otherwise where a read has failed, and each
-- page and each file for want of memory.
abbrev pub Spells : (met_fault : Type 0) → PlainOrder → (said text : List ℕ) → Type 0
Spells met_fault Status said text = text ≡ said
Spells met_fault (Save label) said text = text ≡ said
Spells met_fault (Release id) said text = text ≡ said
Spells met_fault Incidents said text = (text ≡ said) ⊎ LacksMemory said text
Spells met_fault Health said text = text ≡ said
Spells met_fault (Play medium name from to) said text = (text ≡ said) ⊎ ((text ≡ fault_line) × met_fault)
Spells met_fault (Evidence id) said text = (text ≡ said) ⊎ (((text ≡ fault_line) × met_fault) ⊎ LacksMemory said text)
Spells met_fault (Tell medium telling) said text = (text ≡ said) ⊎ (((text ≡ fault_line) × met_fault) ⊎ LacksMemory said text)
Spells met_fault (Export medium name from to exporting) said text = (text ≡ said) ⊎ (((text ≡ fault_line) × met_fault) ⊎ LacksMemoryToExport said text)

-- This event is the order's, and the text is its reply in one turn: both are functions of the events before it, and of what was gauged outside where the order
-- asks for that. After a fault it is a look.
pub record IsReply (channels : List Selector) (met_fault : Type 0) (opening : Opening) (before : List Event) (own : Event) (order : PlainOrder) (text : List ℕ) : Type 0 where
  pub act_is : (own.act ≡ act_after opening before order) ⊎ ((own.act ≡ Act.Look) × (own.moment ≡ None))
  pub gauged : Gauged
  pub text_is : Spells met_fault order (text_at own.moment (text_after gauged channels opening before order)) text

module _ {tells tells_images : Type 0} where
  -- The order was one event after these, was told where it was done, and was answered so in one turn.
  pub record HasAnswered (channels : List Selector) (met_fault : Type 0) (opening : Opening) (events : List Event) (t0 : ℕ) (order : PlainOrder) (text : List ℕ)
      (before after : RecorderState) (old new : Disk tells tells_images) (hears : Type 0) (was is : Watched) : Type 0 where
    pub done : DoneAndTold hears opening events t0 (cond (changes order before.vault) (granted_act opening events order) Act.Look) after old new was is
    pub answer : IsReply channels met_fault opening events (record { act = cond (changes order before.vault) (granted_act opening events order) Act.Look; moment = moment_of after.vault.failed new.clock }) order text

-- The order was answered so: in one turn, or it is a play that was begun in its own event and went on in further turns. The fault is one of its
-- last turn.
abbrev pub IsAnswer : List Selector → (met_fault : Type 0) → Opening → Answer Event → Type 0
IsAnswer channels met_fault opening a = (IsReply channels met_fault opening a.before a.own a.order a.text × (a.during ≡ [])) ⊎ IsPlayed channels met_fault opening a

module _ {tells tells_images : Type 0} where
  -- The order was one event after these, was told where it was done, and was answered so, or so far.
  pub record HasAnsweredSoFar (channels : List Selector) (met_fault : Type 0) (opening : Opening) (events : List Event) (t0 : ℕ) (order : PlainOrder) (text : List ℕ) (left : Option Rest)
      (before after : RecorderState) (old new : Disk tells tells_images) (hears : Type 0) (was is : Watched) : Type 0 where
    pub done : DoneAndTold hears opening events t0 (cond (changes order before.vault) (granted_act opening events order) Act.Look) after old new was is
    pub answer : ToldSoFar (IsAnswer channels met_fault opening) (IsWaiting channels opening)
        (record { order = order; before = events; own = record { act = cond (changes order before.vault) (granted_act opening events order) Act.Look; moment = moment_of after.vault.failed new.clock }; during = []; text = text }) left

-- The answer goes on by a look of this moment, behind these further events, in which this piece was told.
abbrev pub HasGoneOn : List Selector → (met_fault : Type 0) → Opening → Answer Event → (later : List Event) → (moment : Option ℕ) → (piece : List ℕ) → Option Rest → Type 0
HasGoneOn channels met_fault opening a later moment piece left =
    ToldSoFar (IsAnswer channels met_fault opening) (IsWaiting channels opening) (told_on a (later ++ record { act = Act.Look; moment = moment } ∷ []) piece) left

-- What an order leaves as it was.
pub record LeavesRest (before after : RecorderState) : Type 0 where
  pub config : after.vault.config ≡ before.vault.config
  pub maker : after.maker ≡ before.maker
  pub is_open : after.is_open ≡ before.is_open
  pub place : after.vault.next_place ≡ before.vault.next_place
  pub last : after.vault.last ≡ before.vault.last

-- No count of faults falls. The media have failed only where they had failed before, or the count of one of them rose, and so their sum.
pub record HasOrderCause (failed failed_after : Bool) (before now : List ℕ) : Type 0 where
  pub later : NoneFalls before now
  pub rose : failed_after ≡ true → (failed ≡ true) ⊎ Rose (sum before) (sum now)
  pub stays : failed ≡ true → failed_after ≡ true
