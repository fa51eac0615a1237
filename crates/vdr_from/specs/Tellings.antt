-- What a command prints of the records of a stored file (this project's profile).
--
-- A command ends as one of these says, and in no other way: of a file that tells its bytes each excludes the others, but for failures
-- of the file, of the output and of memory.
use Rattle.std.specs.Prelude.{◌≡◌, ◌⊎◌, ◌++◌, ℕ, List, Option}
use Rattle.vdr_terms.specs.Records.{Record}
use Rattle.vdr_visit.specs.Prints.{text_of, whole_text}
use Rattle.vdr_command.specs.Outside.{OutputFailed, OutputSeen, Prints, PrintsFront, Writes}
use Rattle.vdr_command.specs.StatusLine.{channel_line}
use Rattle.vdr_command.specs.declared.status.Status.{Status}
use Rattle.vdr_command.specs.declared.status.Status.TheVariants.{Done, InputFault, OutputFault, NoMemory, NoChannel, NoEvidence}
use Rattle.vdr_readout.specs.Reads.{AskedPlay, LacksChannel}
use Rattle.vdr_from.specs.Held.{IsAnother, IsNoEvidence, OfHeld, records_held}

module _ (whole : Option (List ℕ)) (asked : AskedPlay) (line : List Record → Record → List ℕ) (last : List Record → List ℕ) (was next : OutputSeen) where
  -- A front of the text of the records that are asked for was printed.
  abbrev pub IsBegun : Type 0
  IsBegun = OfHeld whole (λ x. PrintsFront (whole_text line last (records_held x asked)) was next)

  -- The text of the first of these records was printed, and nothing else.
  abbrev pub IsCutOff : Type 0
  IsCutOff = (first : List Record) × Prints (text_of line first) was next × OfHeld whole (λ x. (rest : List Record) × (records_held x asked ≡ first ++ rest))

  -- What stands in the output before the line of the status, and why the command ends so.
  abbrev pub ShowsHeld : Status → Type 0
  ShowsHeld Done = (all : List Record) × Prints (whole_text line last all) was next × OfHeld whole (λ x. all ≡ records_held x asked)
  ShowsHeld (NoEvidence part offset) =
      IsNoEvidence whole part offset was next ⊎ (IsAnother whole part × ((first : List Record) × Prints (text_of line first) was next))
  ShowsHeld InputFault = (next ≡ was) ⊎ IsCutOff
  ShowsHeld OutputFault = OutputFailed was next × IsBegun
  ShowsHeld NoMemory = (next ≡ was) ⊎ IsBegun
  ShowsHeld NoChannel = Writes (channel_line asked.channel) was next × OfHeld whole (λ x. LacksChannel x.config asked.channel)
  ShowsHeld status = ⊥

-- What a command owes that prints what a visitor makes of the records.
pub record TellsHeld (whole : Option (List ℕ)) (asked : AskedPlay) (line : List Record → Record → List ℕ) (last : List Record → List ℕ) (was next : OutputSeen) (status : Status) : Type 0 where
  pub shown : ShowsHeld whole asked line last was next status
