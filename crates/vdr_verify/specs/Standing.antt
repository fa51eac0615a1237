-- How far a file was read.
use Rattle.std.specs.Prelude.{◌≡◌, ◌≤◌, ℕ, ℤ, List, [], ◌∷◌, ◌++◌, Option, IfSome, Result, Ok, Err, codes, take, ⊤}
use Rattle.std.specs.Io.KnownBytes.{Consumes}
use Rattle.vdr_outside.specs.Causes.{Rose}
use Rattle.vdr_terms.specs.Stamps.{IsStamp}
use Rattle.vdr_entry.specs.Utc.{utc_text}
use Rattle.vdr_verify.specs.Legal.{AreParts}
use Rattle.vdr_evidence.specs.Files.{part}
use Rattle.vdr_verify.specs.Reading.{HasRead, ReadsOn}
use Rattle.vdr_verify.specs.Stops.{StopsAt, front_of}
use Rattle.vdr_verify.specs.declared.reader.Reader.{Reader}
use Rattle.vdr_verify.specs.declared.refused.VerifyRefused.{VerifyRefused}
use Rattle.vdr_verify.specs.declared.refused.VerifyRefused.TheVariants.{Input, Output, NoMemory, Illegal}

-- These bytes were read of all that was left first.
pub record IsBehind (first left : Option (List ℕ)) (reader : Reader) (front : List ℕ) : Type 0 where
  pub consumed : Consumes first left front
  pub held : HasRead reader front

-- The token and these parts of a heading were read.
pub record Stands (first left : Option (List ℕ)) (reader : Reader) (before : List (List ℕ)) : Type 0 where
  pub legal : AreParts [] before
  pub behind : IsBehind first left reader (front_of before)

-- What is refused is the first part that is not legal.
abbrev pub Refuses : (first : Option (List ℕ)) → VerifyRefused → Type 0
Refuses first (Illegal part offset) = IfSome first (λ bytes. StopsAt bytes part offset)
Refuses first Input = ⊤
Refuses first Output = ⊥
Refuses first NoMemory = ⊤

-- One part more was read, of which this holds, or it is refused.
abbrev pub Goes : {T : Type 0} → (first left : Option (List ℕ)) → Reader → (before : List (List ℕ)) → (T → List ℕ → Type 0) → Result T VerifyRefused → Type 0
Goes first left reader before Is (Ok x) = (piece : List ℕ) × Is x piece × Stands first left reader (before ++ piece ∷ [])
Goes first left reader before Is (Err refused) = Refuses first refused

-- The token was read, or it is refused.
abbrev pub StandsFirst : (first left : Option (List ℕ)) → Reader → Result ⊤ VerifyRefused → Type 0
StandsFirst first left reader (Ok x) = Stands first left reader []
StandsFirst first left reader (Err refused) = Refuses first refused

-- Bytes of a part more were read, or no legal one stands there.
abbrev pub Reads : (first left now : Option (List ℕ)) → (old new : Reader) → (bytes : List ℕ) → Result ℕ VerifyRefused → Type 0
Reads first left now old new bytes (Ok size) = ReadsOn left now old new (part (take size bytes))
Reads first left now old new bytes (Err refused) = Refuses first refused

-- ---- what a failure comes with

-- The source is blamed only where it failed, and the sink is not.
abbrev pub BlamesInput : {T : Type 0} → (before now : ℕ) → Result T VerifyRefused → Type 0
BlamesInput before now (Ok x) = ⊤
BlamesInput before now (Err Input) = Rose before now
BlamesInput before now (Err Output) = ⊥
BlamesInput before now (Err NoMemory) = ⊤
BlamesInput before now (Err (Illegal part offset)) = ⊤

-- The source's count of faults never falls, and it is blamed only where it failed.
pub record HasInputCause {T : Type 0} (before now : ℕ) (result : Result T VerifyRefused) : Type 0 where
  pub later : before ≤ now
  pub failed : BlamesInput before now result

-- ---- the query

-- Two stamps, each behind a space.
pub record AreStamps (bounds : List ℕ) (since until : ℤ) : Type 0 where
  pub first : IsStamp since
  pub second : IsStamp until
  pub spelled : bounds ≡ codes " " ++ utc_text since ++ codes " " ++ utc_text until
