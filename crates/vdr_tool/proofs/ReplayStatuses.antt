-- What the answer of a recording is, by the status that tells it.
use Rattle.std.proofs.Common.{◌≡◌, ◌∙◌, inl, inr, ℕ, List, Result, Ok, Err, refl, sym, subst}
use Rattle.vdr_replay.specs.declared.ended.FeedEnd.{FeedEnd}
use Rattle.vdr_replay.specs.declared.ended.FeedEnd.TheVariants as ends
use Rattle.vdr_replay.specs.declared.ended.Replayed.{Replayed}
use Rattle.vdr_replay.specs.declared.ended.ReplayRefused.{ReplayRefused}
use Rattle.vdr_replay.specs.declared.ended.ReplayRefused.TheVariants as stops
use Rattle.vdr_command.specs.Outside.{OutputSeen}
use Rattle.vdr_command.specs.declared.status.Status.{Status}
use Rattle.vdr_command.specs.declared.status.Status.TheVariants.{Done, Unformatted, Damaged, MediaFault, InputFault, OutputFault, NoMemory, Feed, Place, Tick}
use Rattle.vdr_tool.specs.Possible.{IsReplayStatus}
use Rattle.vdr_tool.specs.Replays.{PrintsRun, TellsRun}
use Rattle.vdr_tool.specs.Summaries.{summary_text}

-- It ends with one of these.
run_ends : (end : FeedEnd) (summary : List ℕ) (status : Status) (was next : OutputSeen) → PrintsRun end summary status was next → IsReplayStatus status
run_ends ends.Whole summary status was next (inl done) = subst IsReplayStatus (sym done.0) tt
run_ends ends.Whole summary status was next (inr failed) = subst IsReplayStatus (sym failed.0) tt
run_ends ends.Input summary status was next prints = subst IsReplayStatus (sym prints.0) tt
run_ends (ends.Refused k at) summary status was next prints = subst IsReplayStatus (sym prints.0) tt

pub replay_ends_so : (answer : Result Replayed ReplayRefused) (status : Status) (was next : OutputSeen) → TellsRun answer status was next → IsReplayStatus status
replay_ends_so (Ok run) status was next told = run_ends run.end (summary_text run.groups run.records) status was next told
replay_ends_so (Err stops.NoMemory) status was next told = subst IsReplayStatus (sym told.0) tt
replay_ends_so (Err stops.Input) status was next told = subst IsReplayStatus (sym told.0) tt
replay_ends_so (Err (stops.Refused k at)) status was next told = subst IsReplayStatus (sym told.0) tt
replay_ends_so (Err stops.NotFormatted) status was next told = subst IsReplayStatus (sym told.0) tt
replay_ends_so (Err (stops.Damaged k at)) status was next told = subst IsReplayStatus (sym told.0) tt
replay_ends_so (Err stops.Place) status was next told = subst IsReplayStatus (sym told.0) tt
replay_ends_so (Err stops.Tick) status was next told = subst IsReplayStatus (sym told.0) tt
replay_ends_so (Err stops.Media) status was next told = subst IsReplayStatus (sym told.0) tt

module _ (status : Status) (was next : OutputSeen) where
  not_unformatted : (end : FeedEnd) (summary : List ℕ) → PrintsRun end summary status was next → status ≡ Unformatted → ⊥
  not_unformatted ends.Whole summary (inl done) is = let clash : Unformatted ≡ Done = sym is ∙ done.0 in let none : ⊥ = cc in absurd none
  not_unformatted ends.Whole summary (inr failed) is = let clash : Unformatted ≡ OutputFault = sym is ∙ failed.0 in let none : ⊥ = cc in absurd none
  not_unformatted ends.Input summary prints is = let clash : Unformatted ≡ InputFault = sym is ∙ prints.0 in let none : ⊥ = cc in absurd none
  not_unformatted (ends.Refused k at) summary prints is = let clash : Unformatted ≡ Feed k at = sym is ∙ prints.0 in let none : ⊥ = cc in absurd none

  not_damaged : (m offset : ℕ) → (end : FeedEnd) (summary : List ℕ) → PrintsRun end summary status was next → status ≡ Damaged m offset → ⊥
  not_damaged m offset ends.Whole summary (inl done) is = let clash : Damaged m offset ≡ Done = sym is ∙ done.0 in let none : ⊥ = cc in absurd none
  not_damaged m offset ends.Whole summary (inr failed) is = let clash : Damaged m offset ≡ OutputFault = sym is ∙ failed.0 in let none : ⊥ = cc in absurd none
  not_damaged m offset ends.Input summary prints is = let clash : Damaged m offset ≡ InputFault = sym is ∙ prints.0 in let none : ⊥ = cc in absurd none
  not_damaged m offset (ends.Refused k at) summary prints is = let clash : Damaged m offset ≡ Feed k at = sym is ∙ prints.0 in let none : ⊥ = cc in absurd none

  not_place : (end : FeedEnd) (summary : List ℕ) → PrintsRun end summary status was next → status ≡ Place → ⊥
  not_place ends.Whole summary (inl done) is = let clash : Place ≡ Done = sym is ∙ done.0 in let none : ⊥ = cc in absurd none
  not_place ends.Whole summary (inr failed) is = let clash : Place ≡ OutputFault = sym is ∙ failed.0 in let none : ⊥ = cc in absurd none
  not_place ends.Input summary prints is = let clash : Place ≡ InputFault = sym is ∙ prints.0 in let none : ⊥ = cc in absurd none
  not_place (ends.Refused k at) summary prints is = let clash : Place ≡ Feed k at = sym is ∙ prints.0 in let none : ⊥ = cc in absurd none

  not_tick : (end : FeedEnd) (summary : List ℕ) → PrintsRun end summary status was next → status ≡ Tick → ⊥
  not_tick ends.Whole summary (inl done) is = let clash : Tick ≡ Done = sym is ∙ done.0 in let none : ⊥ = cc in absurd none
  not_tick ends.Whole summary (inr failed) is = let clash : Tick ≡ OutputFault = sym is ∙ failed.0 in let none : ⊥ = cc in absurd none
  not_tick ends.Input summary prints is = let clash : Tick ≡ InputFault = sym is ∙ prints.0 in let none : ⊥ = cc in absurd none
  not_tick (ends.Refused k at) summary prints is = let clash : Tick ≡ Feed k at = sym is ∙ prints.0 in let none : ⊥ = cc in absurd none

  pub at_unformatted : (answer : Result Replayed ReplayRefused) → TellsRun answer status was next → status ≡ Unformatted → answer ≡ Err stops.NotFormatted
  at_unformatted (Ok run) told is = absurd (not_unformatted run.end (summary_text run.groups run.records) told is)
  at_unformatted (Err stops.NoMemory) told is = let clash : Unformatted ≡ NoMemory = sym is ∙ told.0 in let none : ⊥ = cc in absurd none
  at_unformatted (Err stops.Input) told is = let clash : Unformatted ≡ InputFault = sym is ∙ told.0 in let none : ⊥ = cc in absurd none
  at_unformatted (Err (stops.Refused k at)) told is = let clash : Unformatted ≡ Feed k at = sym is ∙ told.0 in let none : ⊥ = cc in absurd none
  at_unformatted (Err stops.NotFormatted) told is = refl
  at_unformatted (Err (stops.Damaged k at)) told is = let clash : Unformatted ≡ Damaged k at = sym is ∙ told.0 in let none : ⊥ = cc in absurd none
  at_unformatted (Err stops.Place) told is = let clash : Unformatted ≡ Place = sym is ∙ told.0 in let none : ⊥ = cc in absurd none
  at_unformatted (Err stops.Tick) told is = let clash : Unformatted ≡ Tick = sym is ∙ told.0 in let none : ⊥ = cc in absurd none
  at_unformatted (Err stops.Media) told is = let clash : Unformatted ≡ MediaFault = sym is ∙ told.0 in let none : ⊥ = cc in absurd none

  pub at_damaged : (m offset : ℕ) → (answer : Result Replayed ReplayRefused) → TellsRun answer status was next → status ≡ Damaged m offset → answer ≡ Err (stops.Damaged m offset)
  at_damaged m offset (Ok run) told is = absurd (not_damaged m offset run.end (summary_text run.groups run.records) told is)
  at_damaged m offset (Err stops.NoMemory) told is = let clash : Damaged m offset ≡ NoMemory = sym is ∙ told.0 in let none : ⊥ = cc in absurd none
  at_damaged m offset (Err stops.Input) told is = let clash : Damaged m offset ≡ InputFault = sym is ∙ told.0 in let none : ⊥ = cc in absurd none
  at_damaged m offset (Err (stops.Refused k at)) told is = let clash : Damaged m offset ≡ Feed k at = sym is ∙ told.0 in let none : ⊥ = cc in absurd none
  at_damaged m offset (Err stops.NotFormatted) told is = let clash : Damaged m offset ≡ Unformatted = sym is ∙ told.0 in let none : ⊥ = cc in absurd none
  at_damaged m offset (Err (stops.Damaged k at)) told is = let same : Damaged k at ≡ Damaged m offset = sym told.0 ∙ is in cc
  at_damaged m offset (Err stops.Place) told is = let clash : Damaged m offset ≡ Place = sym is ∙ told.0 in let none : ⊥ = cc in absurd none
  at_damaged m offset (Err stops.Tick) told is = let clash : Damaged m offset ≡ Tick = sym is ∙ told.0 in let none : ⊥ = cc in absurd none
  at_damaged m offset (Err stops.Media) told is = let clash : Damaged m offset ≡ MediaFault = sym is ∙ told.0 in let none : ⊥ = cc in absurd none

  pub at_place : (answer : Result Replayed ReplayRefused) → TellsRun answer status was next → status ≡ Place → answer ≡ Err stops.Place
  at_place (Ok run) told is = absurd (not_place run.end (summary_text run.groups run.records) told is)
  at_place (Err stops.NoMemory) told is = let clash : Place ≡ NoMemory = sym is ∙ told.0 in let none : ⊥ = cc in absurd none
  at_place (Err stops.Input) told is = let clash : Place ≡ InputFault = sym is ∙ told.0 in let none : ⊥ = cc in absurd none
  at_place (Err (stops.Refused k at)) told is = let clash : Place ≡ Feed k at = sym is ∙ told.0 in let none : ⊥ = cc in absurd none
  at_place (Err stops.NotFormatted) told is = let clash : Place ≡ Unformatted = sym is ∙ told.0 in let none : ⊥ = cc in absurd none
  at_place (Err (stops.Damaged k at)) told is = let clash : Place ≡ Damaged k at = sym is ∙ told.0 in let none : ⊥ = cc in absurd none
  at_place (Err stops.Place) told is = refl
  at_place (Err stops.Tick) told is = let clash : Place ≡ Tick = sym is ∙ told.0 in let none : ⊥ = cc in absurd none
  at_place (Err stops.Media) told is = let clash : Place ≡ MediaFault = sym is ∙ told.0 in let none : ⊥ = cc in absurd none

  pub at_tick : (answer : Result Replayed ReplayRefused) → TellsRun answer status was next → status ≡ Tick → answer ≡ Err stops.Tick
  at_tick (Ok run) told is = absurd (not_tick run.end (summary_text run.groups run.records) told is)
  at_tick (Err stops.NoMemory) told is = let clash : Tick ≡ NoMemory = sym is ∙ told.0 in let none : ⊥ = cc in absurd none
  at_tick (Err stops.Input) told is = let clash : Tick ≡ InputFault = sym is ∙ told.0 in let none : ⊥ = cc in absurd none
  at_tick (Err (stops.Refused k at)) told is = let clash : Tick ≡ Feed k at = sym is ∙ told.0 in let none : ⊥ = cc in absurd none
  at_tick (Err stops.NotFormatted) told is = let clash : Tick ≡ Unformatted = sym is ∙ told.0 in let none : ⊥ = cc in absurd none
  at_tick (Err (stops.Damaged k at)) told is = let clash : Tick ≡ Damaged k at = sym is ∙ told.0 in let none : ⊥ = cc in absurd none
  at_tick (Err stops.Place) told is = let clash : Tick ≡ Place = sym is ∙ told.0 in let none : ⊥ = cc in absurd none
  at_tick (Err stops.Tick) told is = refl
  at_tick (Err stops.Media) told is = let clash : Tick ≡ MediaFault = sym is ∙ told.0 in let none : ⊥ = cc in absurd none

  -- A run that was closed, whose feed was refused.
  pub run_refused : (number offset : ℕ) (end : FeedEnd) (summary : List ℕ) → PrintsRun end summary status was next → status ≡ Feed number offset → end ≡ ends.Refused number offset
  run_refused number offset ends.Whole summary (inl done) is = let clash : Feed number offset ≡ Done = sym is ∙ done.0 in let none : ⊥ = cc in absurd none
  run_refused number offset ends.Whole summary (inr failed) is = let clash : Feed number offset ≡ OutputFault = sym is ∙ failed.0 in let none : ⊥ = cc in absurd none
  run_refused number offset ends.Input summary prints is = let clash : Feed number offset ≡ InputFault = sym is ∙ prints.0 in let none : ⊥ = cc in absurd none
  run_refused number offset (ends.Refused k at) summary prints is = let same : Feed k at ≡ Feed number offset = sym prints.0 ∙ is in cc
