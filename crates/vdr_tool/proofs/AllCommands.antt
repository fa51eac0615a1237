-- What the program answers over all commands, from what each of them owes.
use Rattle.std.proofs.Common.{◌≡◌, ◌∙◌, ℕ, List, sym, subst, arith}
use Rattle.std.specs.Prelude.{◌≤◌, ⊤, String}
use Rattle.vdr_recorder.specs.Watched.{Watched}
use Rattle.vdr_command.specs.Outside.{NothingFailed, OutputSeen, Outside}
use Rattle.vdr_command.specs.declared.status.Status.{Status}
use Rattle.vdr_command.specs.declared.status.Status.TheVariants.{Done, Words, Config, Small, Unformatted, Formatted, Damaged, MediaFault, InputFault, OutputFault, Feed, NoChannel, NoIncident, SaveRefused, Place, Tick, ExportKind, ExportNothing, ExportMixed, ExportLong, ExportPart, Capture, NoEvidence, Missing}
use Rattle.vdr_tool.specs.Commands.{Asked}
use Rattle.vdr_tool.specs.Runs.{page, Asks, Ends, Runs}
use Rattle.std.specs.declared.alloc.Global.{Global}
use Rattle.vdr_outside.specs.Causes.{Rose}
use Rattle.vdr_command.specs.Endings.{WritesLine}
use Rattle.vdr_tool.specs.Answers.{Answers, Completes, IsAsked}
use Rattle.vdr_tool.proofs.AnswerFailures.{can_answer, own_input, own_media, own_output}
use Rattle.vdr_tool.proofs.AnswerCauses.{own_capture, own_config, own_evidence, own_formatted, own_place, own_tick, own_unformatted}
use Rattle.vdr_tool.proofs.AnswerOwn.{own_cause, own_channel, own_damaged, own_feed, own_incident, own_missing, own_small}
use Rattle.vdr_tool.proofs.AnswerFiles.{own_kind, own_long, own_mixed, own_nothing, own_part}
use Rattle.vdr_tool.proofs.AnswerDone.{permitted_done}

-- A count that rose up to a moment rose up to a later one.
rose_later : (before between now : ℕ) → between ≤ now → Rose before between → Rose before now
rose_later before between now later rose = omega (arith, later, rose)

module _ {tells tells_images : Type 0} (words : List (String Global)) (old new : Outside tells tells_images) (hears : Type 0) (w : Watched) (status : Status) where
  -- What stands outside before the line of the status is written.
  abbrev before_line : OutputSeen → Outside tells tells_images
  before_line between = record { input = new.input; output = between; media = new.media }

  done_so : (command : Asked) → Ends command old new hears w status → status ≡ Done → (page command).owes old new hears w Done
  done_so command h is =
      let same : new.output ≡ h.between = subst (λ (s : Status). WritesLine s h.between new.output) is h.line in
      subst (λ (o : OutputSeen). (page command).owes old (before_line o) hears w Done) (sym same)
      (subst (λ (s : Status). (page command).owes old (before_line h.between) hears w s) is h.owed)

  none_between : (between : OutputSeen) → between.faults ≤ new.output.faults → NothingFailed old new → NothingFailed old (before_line between)
  none_between between later none = record {
    input = none.input;
    output = λ rose. none.output (rose_later old.output.faults between.faults new.output.faults later rose);
    media = none.media;
  }

  -- Each command that is asked for ended by its page.
  pub completes_by : Runs words old new hears w status → Completes words old new status
  completes_by runs command asks none permits =
      let h = runs.done command asks in
      permitted_done old (before_line h.between) hears w status command h.owed (none_between h.between h.later.1 none) permits

  pub answers_none : Runs words old new hears w status → (IsAsked words (λ command. ⊤) → ⊥) → Answers words old new hears w status
  answers_none runs nothing =
      let is : status ≡ Words = (runs.refused (λ command asks. nothing (command, asks, tt))).0 in
      record {
        possible = λ command asks. absurd (nothing (command, asks, tt));
        words_only = λ same. nothing;
        none_asked = λ none. is;
        done = λ e. let clash : Words ≡ Done = sym is ∙ e in let none : ⊥ = cc in absurd none;
        config = λ number e. let clash : Words ≡ Config number = sym is ∙ e in let none : ⊥ = cc in absurd none;
        small = λ lacking e. let clash : Words ≡ Small lacking = sym is ∙ e in let none : ⊥ = cc in absurd none;
        unformatted = λ e told. let clash : Words ≡ Unformatted = sym is ∙ e in let none : ⊥ = cc in absurd none;
        formatted = λ e. let clash : Words ≡ Formatted = sym is ∙ e in let none : ⊥ = cc in absurd none;
        damaged = λ m offset e. let clash : Words ≡ Damaged m offset = sym is ∙ e in let none : ⊥ = cc in absurd none;
        missing = λ from e. let clash : Words ≡ Missing from = sym is ∙ e in let none : ⊥ = cc in absurd none;
        media = λ e. let clash : Words ≡ MediaFault = sym is ∙ e in let none : ⊥ = cc in absurd none;
        input = λ e. let clash : Words ≡ InputFault = sym is ∙ e in let none : ⊥ = cc in absurd none;
        output = λ e. let clash : Words ≡ OutputFault = sym is ∙ e in let none : ⊥ = cc in absurd none;
        feed = λ number offset e. let clash : Words ≡ Feed number offset = sym is ∙ e in let none : ⊥ = cc in absurd none;
        channel = λ e. let clash : Words ≡ NoChannel = sym is ∙ e in let none : ⊥ = cc in absurd none;
        incident = λ id e. let clash : Words ≡ NoIncident id = sym is ∙ e in let none : ⊥ = cc in absurd none;
        refused = λ cause e. let clash : Words ≡ SaveRefused cause = sym is ∙ e in let none : ⊥ = cc in absurd none;
        place = λ e told. let clash : Words ≡ Place = sym is ∙ e in let none : ⊥ = cc in absurd none;
        tick = λ e told. let clash : Words ≡ Tick = sym is ∙ e in let none : ⊥ = cc in absurd none;
        kind = λ e. let clash : Words ≡ ExportKind = sym is ∙ e in let none : ⊥ = cc in absurd none;
        nothing = λ e. let clash : Words ≡ ExportNothing = sym is ∙ e in let none : ⊥ = cc in absurd none;
        mixed = λ from e. let clash : Words ≡ ExportMixed from = sym is ∙ e in let none : ⊥ = cc in absurd none;
        long = λ e. let clash : Words ≡ ExportLong = sym is ∙ e in let none : ⊥ = cc in absurd none;
        part = λ number e. let clash : Words ≡ ExportPart number = sym is ∙ e in let none : ⊥ = cc in absurd none;
        capture = λ number offset e. let clash : Words ≡ Capture number offset = sym is ∙ e in let none : ⊥ = cc in absurd none;
        evidence = λ named offset e. let clash : Words ≡ NoEvidence named offset = sym is ∙ e in let none : ⊥ = cc in absurd none;
      }

  pub answers_one : Runs words old new hears w status → (command : Asked) → Asks words command → Answers words old new hears w status
  answers_one runs command asks =
      let h = runs.done command asks in
      let mid = before_line h.between in
      record {
        possible = λ other also. let k = runs.done other also in can_answer old (before_line k.between) hears w status other k.owed;
        done = λ is. (command, asks, done_so command h is);
        words_only = λ is asked. runs.words_only is asked.0 asked.1;
        none_asked = λ nothing. absurd (nothing (command, asks, tt));
        config = λ number is. own_config old mid hears w status number command h.owed is;
        small = λ lacking is. (command, asks, own_small old mid hears w status lacking command h.owed is);
        unformatted = λ is told. own_unformatted old mid hears w status command h.owed is told;
        formatted = λ is. own_formatted old mid hears w status command h.owed is;
        damaged = λ m offset is. (command, asks, own_damaged old mid hears w status m offset command h.owed is);
        missing = λ from is. (command, asks, own_missing old mid hears w status from command h.owed is);
        media = λ is. own_media old mid hears w status command h.owed is;
        input = λ is. own_input old mid hears w status command h.owed is;
        output = λ is. rose_later old.output.faults h.between.faults new.output.faults h.later.1 (own_output old mid hears w status command h.owed is);
        feed = λ number offset is. (command, asks, own_feed old mid hears w status number offset command h.owed is);
        channel = λ is. (command, asks, own_channel old mid hears w status command h.owed is);
        incident = λ id is. (command, asks, own_incident old mid hears w status id command h.owed is);
        refused = λ cause is. (command, asks, own_cause old mid hears w status cause command h.owed is);
        place = λ is told. own_place old mid hears w status command h.owed is told;
        tick = λ is told. own_tick old mid hears w status command h.owed is told;
        kind = λ is. (command, asks, own_kind old mid hears w status command h.owed is);
        nothing = λ is. (command, asks, own_nothing old mid hears w status command h.owed is);
        mixed = λ from is. (command, asks, own_mixed old mid hears w status from command h.owed is);
        long = λ is. (command, asks, own_long old mid hears w status command h.owed is);
        part = λ number is. (command, asks, own_part old mid hears w status number command h.owed is);
        capture = λ number offset is. own_capture old mid hears w status number offset command h.owed is;
        evidence = λ named offset is. own_evidence old mid hears w status named offset command h.owed is;
      }
