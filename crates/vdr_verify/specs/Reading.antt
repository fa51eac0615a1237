-- How a file is read: what was read of it, piece by piece.
use Rattle.std.specs.Prelude.{◌≡◌, ◌≤◌, ◌<◌, ◌-◌, ◌^◌, ℕ, Bool, true, false, List, ◌++◌, length, take, min, Option, Some, None, Result, Ok, Err, IfSome, ⊤}
use Rattle.std.specs.Io.KnownBytes.{Consumes, IsAtEnd}
use Rattle.sha2.specs.Hashers.{Holds256}
use Rattle.vdr_outside.specs.declared.fault.Failed.{Failed}
use Rattle.vdr_evidence.specs.Files.{part}
use Rattle.vdr_verify.specs.declared.reader.Reader.{Reader}

-- Where so many bytes stand before: the number stands still at the greatest of 64 bits.
abbrev pub offset_behind : (front : List ℕ) → ℕ
offset_behind front = min (length front) (2 ^ 64 - 1)

-- It has read these bytes.
pub record HasRead (reader : Reader) (front : List ℕ) : Type 0 where
  pub hashed : Holds256 reader.hasher front
  pub offset_is : reader.offset ≡ offset_behind front

-- These bytes more were read.
pub record ReadsOn (left now : Option (List ℕ)) (old new : Reader) (piece : List ℕ) : Type 0 where
  pub consumed : Consumes left now piece
  pub held : (front : List ℕ) → HasRead old front → HasRead new (front ++ piece)

-- A piece of this length was read, or the input has fewer bytes.
abbrev pub Takes : (left now : Option (List ℕ)) → (old new : Reader) → (piece : List ℕ) → Result Bool Failed → Type 0
Takes left now old new piece (Ok true) = ReadsOn left now old new piece
Takes left now old new piece (Ok false) = IsAtEnd now × IfSome left (λ rest. length rest < length piece)
Takes left now old new piece (Err e) = ⊤

-- The rest does not begin with these bytes.
abbrev pub Lacks : (piece rest : List ℕ) → Type 0
Lacks piece rest = (after : List ℕ) → rest ≡ piece ++ after → ⊥

-- These bytes were read, or others stand there.
abbrev pub Expects : (left now : Option (List ℕ)) → (old new : Reader) → (wanted : List ℕ) → Result Bool Failed → Type 0
Expects left now old new wanted (Ok true) = ReadsOn left now old new wanted
Expects left now old new wanted (Ok false) = IfSome left (Lacks wanted)
Expects left now old new wanted (Err e) = ⊤

-- No part of at most so many bytes stands at the front.
abbrev pub HasNoPart : ℕ → (rest : List ℕ) → Type 0
HasNoPart room rest = (x after : List ℕ) → length x ≤ room → rest ≡ part x ++ after → ⊥

-- A part was read, or none stands there for which there is room.
abbrev pub TakesPart : (left now : Option (List ℕ)) → (old new : Reader) → (bytes : List ℕ) → Result (Option ℕ) Failed → Type 0
TakesPart left now old new bytes (Ok (Some size)) = ReadsOn left now old new (part (take size bytes))
TakesPart left now old new bytes (Ok None) = IfSome left (HasNoPart (length bytes))
TakesPart left now old new bytes (Err e) = ⊤
