-- How `replay` ends, by what the recording answers and by what is printed of it.
use Rattle.std.specs.Io.KnownBytes.{IsAtEnd}
use Rattle.std.proofs.Common.{◌≡◌, inl, inr, ℕ, List, Result, Ok, Err, refl, sym, subst, ◌∙◌}
use Rattle.vdr_outside.specs.declared.media.Media.{Ghosts as MediaTells}
use Rattle.vdr_outside.specs.declared.source.Source.{Ghosts as SourceTells}
use Rattle.vdr_outside.proofs.Moments.{unchanged_none}
use Rattle.vdr_recorder.specs.Watched.{Watched}
use Rattle.vdr_replay.specs.Replays.{ReplaysFeed}
use Rattle.vdr_replay.specs.declared.ended.FeedEnd.{FeedEnd}
use Rattle.vdr_replay.specs.declared.ended.FeedEnd.TheVariants as ends
use Rattle.vdr_replay.specs.declared.ended.Replayed.{Replayed}
use Rattle.vdr_replay.specs.declared.ended.ReplayRefused.{ReplayRefused}
use Rattle.vdr_replay.specs.declared.ended.ReplayRefused.TheVariants as stops
use Rattle.vdr_command.specs.Opened.{OneAnswer}
use Rattle.vdr_command.specs.Outside.{AreLeftAlone, InputFailed, MediaSeen, OutputFailed, OutputSeen, Outside, Writes}
use Rattle.vdr_tool.specs.Replays.{PrintsRun, ReplayEnds, Replays, TellsRun}
use Rattle.vdr_command.specs.Statuses.{status_of_replay}
use Rattle.vdr_tool.specs.Summaries.{summary_text}
use Rattle.vdr_command.specs.declared.status.Status.{Status}
use Rattle.vdr_command.specs.declared.status.Status.TheVariants.{Done, InputFault, OutputFault, Feed}
use Rattle.vdr_tool.proofs.ReplayLemmas.{replay_fault, replays_known}

-- The status of a run that was not closed.
pub stop_at_input : (stop : ReplayRefused) → status_of_replay stop ≡ InputFault → stop ≡ stops.Input
stop_at_input stops.NoMemory is = let none : ⊥ = cc in absurd none
stop_at_input stops.Input is = refl
stop_at_input (stops.Refused number offset) is = let none : ⊥ = cc in absurd none
stop_at_input stops.NotFormatted is = let none : ⊥ = cc in absurd none
stop_at_input (stops.Damaged m offset) is = let none : ⊥ = cc in absurd none
stop_at_input stops.Place is = let none : ⊥ = cc in absurd none
stop_at_input stops.Tick is = let none : ⊥ = cc in absurd none
stop_at_input stops.Media is = let none : ⊥ = cc in absurd none

pub stop_not_done : (stop : ReplayRefused) → status_of_replay stop ≡ Done → ⊥
stop_not_done stops.NoMemory is = cc
stop_not_done stops.Input is = cc
stop_not_done (stops.Refused number offset) is = cc
stop_not_done stops.NotFormatted is = cc
stop_not_done (stops.Damaged m offset) is = cc
stop_not_done stops.Place is = cc
stop_not_done stops.Tick is = cc
stop_not_done stops.Media is = cc

pub stop_not_output : (stop : ReplayRefused) → status_of_replay stop ≡ OutputFault → ⊥
stop_not_output stops.NoMemory is = cc
stop_not_output stops.Input is = cc
stop_not_output (stops.Refused number offset) is = cc
stop_not_output stops.NotFormatted is = cc
stop_not_output (stops.Damaged m offset) is = cc
stop_not_output stops.Place is = cc
stop_not_output stops.Tick is = cc
stop_not_output stops.Media is = cc

-- The status of a run that was closed.
pub run_at_done : (end : FeedEnd) (summary : List ℕ) (status : Status) (was next : OutputSeen) → PrintsRun end summary status was next → status ≡ Done → end ≡ ends.Whole
run_at_done ends.Whole summary status was next prints is = refl
run_at_done ends.Input summary status was next prints is = let clash : InputFault ≡ Done = sym prints.0 ∙ is in let none : ⊥ = cc in absurd none
run_at_done (ends.Refused number offset) summary status was next prints is = let clash : Feed number offset ≡ Done = sym prints.0 ∙ is in let none : ⊥ = cc in absurd none

pub run_at_input : (end : FeedEnd) (summary : List ℕ) (status : Status) (was next : OutputSeen) → PrintsRun end summary status was next → status ≡ InputFault → end ≡ ends.Input
run_at_input ends.Whole summary status was next (inl done) is = let clash : Done ≡ InputFault = sym done.0 ∙ is in let none : ⊥ = cc in absurd none
run_at_input ends.Whole summary status was next (inr failed) is = let clash : OutputFault ≡ InputFault = sym failed.0 ∙ is in let none : ⊥ = cc in absurd none
run_at_input ends.Input summary status was next prints is = refl
run_at_input (ends.Refused number offset) summary status was next prints is = let clash : Feed number offset ≡ InputFault = sym prints.0 ∙ is in let none : ⊥ = cc in absurd none

pub run_at_output : (end : FeedEnd) (summary : List ℕ) (status : Status) (was next : OutputSeen) → PrintsRun end summary status was next → status ≡ OutputFault → OutputFailed was next
run_at_output ends.Whole summary status was next (inl done) is = let clash : Done ≡ OutputFault = sym done.0 ∙ is in let none : ⊥ = cc in absurd none
run_at_output ends.Whole summary status was next (inr failed) is = failed.1
run_at_output ends.Input summary status was next prints is = let clash : InputFault ≡ OutputFault = sym prints.0 ∙ is in let none : ⊥ = cc in absurd none
run_at_output (ends.Refused number offset) summary status was next prints is = let clash : Feed number offset ≡ OutputFault = sym prints.0 ∙ is in let none : ⊥ = cc in absurd none

-- The status of a feed that is refused is decided before the summary is written.
pub prints_refused : (end : FeedEnd) (number offset : ℕ) (summary : List ℕ) (was next : OutputSeen) → end ≡ ends.Refused number offset → Writes summary was next → PrintsRun end summary (Feed number offset) was next
prints_refused end number offset summary was next is wrote = subst (λ (e : FeedEnd). PrintsRun e summary (Feed number offset) was next) (sym is) (refl, wrote)

pub tells_stop : (answer : Result Replayed ReplayRefused) (stop : ReplayRefused) (was next : OutputSeen) → answer ≡ Err stop → next ≡ was → TellsRun answer (status_of_replay stop) was next
tells_stop answer stop was next is same = subst (λ (a : Result Replayed ReplayRefused). TellsRun a (status_of_replay stop) was next) (sym is) (refl, same)

pub tells_run : (answer : Result Replayed ReplayRefused) (run : Replayed) (status : Status) (was next : OutputSeen) → answer ≡ Ok run → PrintsRun run.end (summary_text run.groups run.records) status was next
    → TellsRun answer status was next
tells_run answer run status was next is prints = subst (λ (a : Result Replayed ReplayRefused). TellsRun a status was next) (sym is) prints

-- What is left alone is so in all that is seen of it.
pub left_alone : {tells tells_images A : Type 0} (see : A → MediaSeen tells tells_images) (old new : A) → new ≡ old → AreLeftAlone (see old) (see new)
left_alone see old new same = subst (λ a. AreLeftAlone (see old) (see a)) (sym same) (record {
  disk = unchanged_none (see old).disk;
  faults = refl;
  bytes_read = refl;
})

-- What is seen of media.
abbrev pub seen_media : {M : Type 0} (media : MediaTells M) → M → MediaSeen media.tells media.tells_images
seen_media media m = record { disk = media.disk m; faults = media.faults m; bytes_read = media.bytes_read m }

-- What the recording ensures is what is owed of the media.
pub replay_ends : {M I : Type 0} (media : MediaTells M) (source : SourceTells I) (old new : M) (before after : I) (hears : Type 0) (w : Watched) (answer : Result Replayed ReplayRefused)
    → ReplaysFeed media source old new before after hears w answer → ReplayEnds (source.left before) (source.left after) (seen_media media old) (seen_media media new) hears w answer
replay_ends media source old new before after hears w answer told = record {
  recorded = told.replayed;
  left = told.left;
  blank = told.blank;
  unopened = λ ends. left_alone (seen_media media) old new (told.unopened ends);
  untouched = λ refuses. let same = told.untouched refuses in record { leaves = same.0; reads = same.1 };
  missing = told.missing;
  header = told.header;
  openable = told.openable;
  unformatted = told.unformatted;
  damaged = told.damaged;
  others = told.others;
  beside = told.beside;
  cause = told.cause;
}

pub replays_so : {tells tells_images : Type 0} (old new : Outside tells tells_images) (hears : Type 0) (w : Watched) (status : Status) (answer : Result Replayed ReplayRefused) → OneAnswer old.media.disk.reads
    → (status ≡ Done → IsAtEnd new.input.left) → TellsRun answer status old.output new.output → (status ≡ InputFault → InputFailed old.input new.input)
    → (status ≡ OutputFault → OutputFailed old.output new.output) → ReplayEnds old.input.left new.input.left old.media new.media hears w answer → Replays old new hears w status
replays_so old new hears w status answer law done told input output media = record {
  done = done;
  answer = answer;
  told = told;
  input = input;
  output = output;
  media = media;
  complete = λ none. replays_known old.input.left new.input.left old.media new.media hears w old.output new.output law status answer (λ is. none.input (input is)) (λ is. none.output (output is))
      (λ is. none.media (replay_fault old.input.left new.input.left old.media new.media hears w old.output new.output status answer told media is)) told media;
}
