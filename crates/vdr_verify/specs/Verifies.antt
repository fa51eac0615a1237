-- Whether a file is evidence, and what is printed of it.
use Rattle.std.specs.Prelude.{◌≡◌, ◌≤◌, ℕ, List, Option, IfSome, Result, Ok, Err, ⊤}
use Rattle.std.specs.Io.KnownBytes.{Appends, IsAtEnd}
use Rattle.vdr_outside.specs.Causes.{Rose}
use Rattle.vdr_outside.specs.Writes.{AppendsFront}
use Rattle.vdr_terms.specs.Records.{Record}
use Rattle.vdr_evidence.specs.Files.{Heading}
use Rattle.vdr_verify.specs.Legal.{IsEvidence}
use Rattle.vdr_verify.specs.Standing.{Refuses}
use Rattle.vdr_verify.specs.Stops.{StopsAt}
use Rattle.vdr_verify.specs.Texts.{evidence_text}
use Rattle.vdr_verify.specs.declared.refused.VerifyRefused.{VerifyRefused}
use Rattle.vdr_verify.specs.declared.refused.VerifyRefused.TheVariants.{Input, Output, NoMemory, Illegal}

-- The bytes are evidence, and of the text of what they hold this is said.
pub record HoldsSo (P : List ℕ → Type 0) (bytes : List ℕ) : Type 0 where
  pub heading : Heading
  pub records : List Record
  pub is : IsEvidence bytes heading records
  pub told : P (evidence_text bytes heading records)

abbrev pub IfEvidence : Option (List ℕ) → (List ℕ → Type 0) → Type 0
IfEvidence left P = IfSome left (HoldsSo P)

-- What was read, by the answer.
abbrev pub Tells : {T : Type 0} → (T → List ℕ) → (left now : Option (List ℕ)) → Result T VerifyRefused → Type 0
Tells items left now (Ok text) = IsAtEnd now × IfEvidence left (λ told. items text ≡ told)
Tells items left now (Err refused) = Refuses left refused

-- What was printed, by the answer: the text of a file that is evidence, or else which part is the first that is not legal.
abbrev pub Verifies : (left now taken taken' : Option (List ℕ)) → Result ⊤ VerifyRefused → Type 0
Verifies left now taken taken' (Ok x) = IsAtEnd now × IfEvidence left (Appends taken taken')
Verifies left now taken taken' (Err (Illegal part offset)) = IfSome left (λ bytes. StopsAt bytes part offset)
Verifies left now taken taken' (Err Output) = IsAtEnd now × IfEvidence left (AppendsFront taken taken')
Verifies left now taken taken' (Err Input) = ⊤
Verifies left now taken taken' (Err NoMemory) = ⊤

-- The file was read to its end, and is evidence; its text may have failed.
abbrev pub IsVerified : Result ⊤ VerifyRefused → Type 0
IsVerified (Ok x) = ⊤
IsVerified (Err Output) = ⊤
IsVerified (Err Input) = ⊥
IsVerified (Err NoMemory) = ⊥
IsVerified (Err (Illegal part offset)) = ⊥

-- No count of faults falls, and a side is blamed only where it failed.
pub record HasCauses (input input' output output' : ℕ) (result : Result ⊤ VerifyRefused) : Type 0 where
  pub input_later : input ≤ input'
  pub output_later : output ≤ output'
  pub input_rose : result ≡ Err Input → Rose input input'
  pub output_rose : result ≡ Err Output → Rose output output'
