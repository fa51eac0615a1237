-- `check`: a configuration is read from the input, and what it needs is printed (this project's profile).
use Rattle.std.specs.Prelude.{◌≡◌, ◌⊎◌, ℕ, List, [], ◌∷◌, codes, Ok, Err, ⊤}
use Rattle.std.specs.Io.KnownBytes.{IsAtEnd}
use Rattle.vdr_feed.specs.Reader.{IfKnown}
use Rattle.vdr_config.specs.declared.bad.ConfigBad.{ConfigBad}
use Rattle.vdr_config.specs.Configuration.{Configuration}
use Rattle.vdr_config.specs.Grammar.{configuration}
use Rattle.vdr_tool.specs.Check.{IfChecked}
use Rattle.vdr_command.specs.Refusals.{RefusesConfig}
use Rattle.vdr_command.specs.Endings.{IsConfigRefusal, IsDone, IsWorkDone}
use Rattle.vdr_command.specs.Outside.{InputFailed, NothingFailed, OutputFailed, Outside, Prints, PrintsFront}
use Rattle.vdr_command.specs.Promises.{Promise}
use Rattle.vdr_command.specs.StatusLine.{IsConfig}
use Rattle.vdr_command.specs.declared.status.Status.{Status}
use Rattle.vdr_command.specs.declared.status.Status.TheVariants.{Done, Config, InputFault, OutputFault, NoMemory}

-- The command ends so, and in no other way.
abbrev pub IsCheckStatus : Status → Type 0
IsCheckStatus Done = ⊤
IsCheckStatus (Config number) = ⊤
IsCheckStatus InputFault = ⊤
IsCheckStatus OutputFault = ⊤
IsCheckStatus NoMemory = ⊤
IsCheckStatus status = ⊥

-- A configuration is done, and what is none is refused by the grammar's refusal.
abbrev pub ChecksAll : List ℕ → Status → Type 0
ChecksAll bytes status =
    ((c : Configuration) → configuration bytes ≡ Ok c → IsDone status)
    × ((bad : ConfigBad) → configuration bytes ≡ Err bad → IsConfigRefusal bad status)

-- What `check` owes.
pub record Checks {tells tells_images : Type 0} (old new : Outside tells tells_images) (status : Status) : Type 0 where
  pub own : IsCheckStatus status
  -- all was done: the input was read to its end, and its needs are printed
  pub done : status ≡ Done → IsAtEnd new.input.left × IfChecked old.input.left (λ text. Prints text old.output new.output)
  -- each refusal and failure comes only with its cause
  pub config : RefusesConfig status old.input.left old.output new.output
  pub input : status ≡ InputFault → InputFailed old.input new.input
  pub output : status ≡ OutputFault → OutputFailed old.output new.output × IfChecked old.input.left (λ text. PrintsFront text old.output new.output)
  -- a status line stands alone
  pub silent : IsWorkDone status ⊎ (IsConfig status ⊎ (new.output ≡ old.output))
  -- nothing else comes in the place of the needs, or of a refusal, but want of memory
  pub complete : NothingFailed old new → IfKnown old.input.left (λ bytes. ChecksAll bytes status)

abbrev pub checking : Promise
checking = record {
  words = λ texts. texts ≡ codes "check" ∷ [];
  legal = ⊤;
  reads_input = ⊤;
  uses_media = ⊥;
  owes = λ old new hears w status. Checks old new status;
}
