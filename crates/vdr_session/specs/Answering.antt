-- The orders of a session's desks: what their marks are, and what their answers mean over an opening.
use Rattle.std.specs.Prelude.{◌≡◌, ◌+◌, ◌-◌, ◌^◌, ℕ, suc, Bool, true, List, ◌∷◌, length, get_or, drop, cond, min, nat_le, Some}
use Rattle.vdr_core.specs.Histories.{Event, Opening}
use Rattle.vdr_durability.specs.Keeping.{moment_of}
use Rattle.vdr_config.specs.Configuration.{Selector}
use Rattle.vdr_control.specs.Orders.{PlainOrder}
use Rattle.vdr_control.specs.Orders.PlainOrder.{Status, Save, Release, Incidents, Play, Evidence, Tell}
use Rattle.vdr_control.specs.Orders.PlainOrder.{Health}
use Rattle.vdr_control.specs.Orders.PlainOrder.{Export}
use Rattle.vdr_vault.specs.Vaults.{VaultState}
use Rattle.vdr_desk.specs.Answers.{Answer, IsBegun, seen_by}
use Rattle.vdr_reply.specs.declared.rest.Rest.{Rest}
use Rattle.vdr_reply.specs.Answers.{IsAnswer}
use Rattle.vdr_reply.specs.Plays.{IsWaiting}
use Rattle.vdr_reply.specs.Orders.{changes}
use Rattle.vdr_session.specs.declared.mark.Did.{Did}
use Rattle.vdr_session.specs.declared.mark.Did.TheVariants as dids
use Rattle.vdr_session.specs.declared.mark.Mark.{Mark}
use Rattle.vdr_session.specs.Events.{event_of, events_of}
use Rattle.vdr_session.specs.Marks.{misses, taken_in}

-- What an order does where it is granted.
abbrev pub did_for : PlainOrder → Did
did_for Status = dids.Look
did_for (Save label) = dids.Save label
did_for (Release id) = dids.Release id
did_for Incidents = dids.Look
did_for Health = dids.Look
did_for (Play medium name from to) = dids.Look
did_for (Evidence id) = dids.Look
did_for (Tell medium telling) = dids.Look
did_for (Export medium name from to exporting) = dids.Look

-- A count of faults rose.
abbrev pub rose_in : (before now : ℕ) → Bool
rose_in before now = nat_le (min (before + 1) (2 ^ 64 - 1)) now

-- The mark of an order of a desk, by the vault before it, and the media's counts of faults before and after.
abbrev pub order_mark : (desk : ℕ) → PlainOrder → VaultState → (failed_after : Bool) → (clock faults_before faults_after : ℕ) → Mark
order_mark desk order vault failed_after clock faults_before faults_after =
    record { did = cond (changes order vault) (did_for order) (cond (rose_in faults_before faults_after) dids.Miss dids.Look); moment = moment_of failed_after clock; desk = Some desk }

-- The mark of a further turn of an answer of a desk.
abbrev pub step_mark : (desk : ℕ) → (failed_after : Bool) → (clock faults_before faults_after : ℕ) → Mark
step_mark desk failed_after clock faults_before faults_after =
    record { did = cond (rose_in faults_before faults_after) dids.Miss dids.Look; moment = moment_of failed_after clock; desk = Some desk }

-- The answer as it stands in the history that the marks tell.
abbrev pub answer_over : Opening → Answer Mark → Answer Event
answer_over opening a = record {
  order = a.order;
  before = events_of opening a.before;
  own = event_of opening (taken_in a.before) (events_of opening a.before) a.own;
  during = drop (suc (length a.before)) (events_of opening (seen_by a));
  text = a.text;
}

-- The mark of its last turn.
abbrev pub last_mark : Answer Mark → Mark
last_mark a = get_or (a.own ∷ a.during) (length a.during) a.own

module _ (tells : Type 0) (began : Opening → ℕ → Type 0) (channels : List Selector) (desk : ℕ) (a : Answer Mark) where
  -- Its own mark is this desk's, and the answer is a function of the history before that.
  abbrev pub AnswersMark : Type 0
  AnswersMark = (a.own.desk ≡ Some desk) × (tells → (opening : Opening) (t0 : ℕ) → began opening t0 → IsAnswer channels (misses (last_mark a).did ≡ true) opening (answer_over opening a))

  -- So far it is such an answer, and this is left of it.
  abbrev pub AwaitsMark : Rest → Type 0
  AwaitsMark rest = (a.own.desk ≡ Some desk) × (tells → (opening : Opening) (t0 : ℕ) → began opening t0 → IsWaiting channels opening (answer_over opening a) rest)

-- Something is left of it.
abbrev pub BeginsMark : (tells : Type 0) → (began : Opening → ℕ → Type 0) → (channels : List Selector) → (desk : ℕ) → Answer Mark → Type 0
BeginsMark tells began channels desk = IsBegun (AwaitsMark tells began channels desk)
