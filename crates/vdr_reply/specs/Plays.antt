-- A play that is answered in several turns: what was sent so far, and how it ends (this project's profile).
use Rattle.std.specs.Prelude.{◌≡◌, ◌≢◌, ◌⊎◌, ◌++◌, ◌∷◌, ℕ, true, List, [], codes, Option, None, Some, Result, Ok, Err}
use Rattle.vdr_terms.specs.Queries.{Query}
use Rattle.vdr_terms.specs.Records.{Record}
use Rattle.vdr_core.specs.Histories.{Act, Event, Opening}
use Rattle.vdr_durability.specs.Playback.{selected}
use Rattle.vdr_durability.specs.Replies.{is_there}
use Rattle.vdr_config.specs.Configuration.{Selector}
use Rattle.vdr_entry.specs.Queries.{asked}
use Rattle.vdr_media.specs.Formatted.{members}
use Rattle.vdr_play.specs.Streams.{nothing_seen}
use Rattle.vdr_play.specs.Texts.{records_text}
use Rattle.vdr_ring.specs.declared.refused.ReadRefused.{ReadRefused}
use Rattle.vdr_ring.specs.declared.refused.ReadRefused.TheVariants.{Damaged, Fault}
use Rattle.vdr_vault.specs.Stretches.{still_selected}
use Rattle.vdr_vault.specs.declared.stretch.Stretch.{Stretch}
use Rattle.vdr_recorder.specs.Resuming.{IsGone, IsPlaying, places_left}
use Rattle.vdr_recorder.specs.declared.resume.Going.{Going}
use Rattle.vdr_recorder.specs.declared.resume.Going.TheVariants.{All, Gone, More}
use Rattle.vdr_recorder.specs.declared.resume.OpenPlay.{OpenPlay}
use Rattle.vdr_control.specs.Orders.{PlainOrder}
use Rattle.vdr_control.specs.Orders.PlainOrder.{Status, Save, Release, Incidents, Health, Play, Evidence, Tell, Export}
use Rattle.vdr_desk.specs.Answers.{Answer, seen_by}
use Rattle.vdr_reply.specs.declared.rest.Rest.{Rest}
use Rattle.vdr_reply.specs.Orders.{is_named, query_of}
use Rattle.vdr_reply.specs.Texts.{damage_line, done_line, fault_line, gone_line, page_text}

-- The order plays what this query selects.
abbrev pub AsksToPlay : List Selector → PlainOrder → Query → Type 0
AsksToPlay channels (Play medium name from to) query = (is_named channels name ≡ true) × (query ≡ query_of channels medium name from to)
AsksToPlay channels Status query = ⊥
AsksToPlay channels (Save label) query = ⊥
AsksToPlay channels (Release id) query = ⊥
AsksToPlay channels Incidents query = ⊥
AsksToPlay channels Health query = ⊥
AsksToPlay channels (Evidence id) query = ⊥
AsksToPlay channels (Tell medium telling) query = ⊥
AsksToPlay channels (Export medium name from to exporting) query = ⊥

-- The order plays what this query selects of what is there. Its own event is a look, which met no fault.
pub record HasBegun (channels : List Selector) (opening : Opening) (a : Answer Event) (query : Query) : Type 0 where
  pub asks : AsksToPlay channels a.order query
  pub there : is_there members opening a.before query.medium ≡ true
  pub act_is : a.own.act ≡ Act.Look
  pub works : a.own.moment ≢ None

-- The event of its last turn, and those before it.
pub record LastTurn (a : Answer Event) : Type 0 where
  pub events : List Event
  pub last : Event
  pub split : seen_by a ≡ events ++ last ∷ []

-- It was cut behind a whole record, by this line, and these records were left.
pub record IsCut (opening : Opening) (a : Answer Event) (query : Query) (line : List ℕ) (left : List Record) : Type 0 where
  pub front : List Record
  pub selects : selected opening a.before query ≡ front ++ left
  pub text_is : a.text ≡ done_line ++ records_text nothing_seen front ++ line

-- A read failed in its last turn, or the media had failed by then.
pub record IsCutByFault (met_fault : Type 0) (opening : Opening) (a : Answer Event) (query : Query) : Type 0 where
  pub left : List Record
  pub cut : IsCut opening a query fault_line left
  pub turn : LastTurn a
  pub fault : met_fault ⊎ (turn.last.moment ≡ None)

-- Of the places that were left, the first of which is told, one need not be retained any more by its last turn.
pub record IsCutAsGone (opening : Opening) (a : Answer Event) (query : Query) : Type 0 where
  pub stretch : Stretch
  pub cut : IsCut opening a query (gone_line stretch.next) (still_selected opening a.before query stretch)
  pub turn : LastTurn a
  pub gone : IsGone opening turn.events query stretch

-- It was sent in several turns: all that the query selected as it was ordered, or it was cut.
pub record IsPlayed (channels : List Selector) (met_fault : Type 0) (opening : Opening) (a : Answer Event) : Type 0 where
  pub query : Query
  pub begun : HasBegun channels opening a query
  pub ends : (a.text ≡ page_text (records_text nothing_seen (selected opening a.before query))) ⊎ (IsCutByFault met_fault opening a query ⊎ IsCutAsGone opening a query)

-- The first records were sent, and this is left.
pub record IsWaiting (channels : List Selector) (opening : Opening) (a : Answer Event) (rest : Rest) : Type 0 where
  pub begun : HasBegun channels opening a (asked rest.play.query)
  pub printed : List ℕ
  pub text_is : a.text ≡ done_line ++ printed
  pub playing : IsPlaying opening a.before printed rest.play

-- How many places are left.
abbrev pub left_of : Rest → ℕ
left_of rest = places_left rest.play

-- What the order's own turn sends, and what is left behind it.
abbrev pub BeginsPlay : Result OpenPlay ReadRefused → (text : List ℕ) → Option Rest → Type 0
BeginsPlay (Ok play) text left = (text ≡ done_line) × (left ≡ Some (record { play = play }))
BeginsPlay (Err Fault) text left = (text ≡ fault_line) × (left ≡ None)
BeginsPlay (Err (Damaged m offset)) text left = (text ≡ damage_line) × (left ≡ None)

-- What stands behind the records of a further turn, and what is left behind it.
abbrev pub EndsTurn : Result Going ReadRefused → OpenPlay → (was now : List ℕ) → Option Rest → Type 0
EndsTurn (Ok All) play was now left = (now ≡ was ++ codes ".\n") × (left ≡ None)
EndsTurn (Ok More) play was now left = (now ≡ was) × (left ≡ Some (record { play = play }))
EndsTurn (Ok (Gone place)) play was now left = (now ≡ was ++ gone_line place) × (left ≡ None)
EndsTurn (Err Fault) play was now left = (now ≡ was ++ fault_line) × (left ≡ None)
EndsTurn (Err (Damaged m offset)) play was now left = (now ≡ was ++ damage_line) × (left ≡ None)
