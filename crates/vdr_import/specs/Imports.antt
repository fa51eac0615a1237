-- The feed of a capture's items.
use Rattle.std.specs.Prelude.{◌≤◌, ℕ, List, [], ◌∷◌, Option, Result, Ok, Err, IsErrOf, ⊤}
use Rattle.std.specs.Io.KnownBytes.{Appends, IsAtEnd}
use Rattle.vdr_feed.specs.Feed.{feed, longest_feed}
use Rattle.vdr_feed.specs.Reader.{IfKnown}
use Rattle.vdr_outside.specs.Causes.{Rose}
use Rattle.vdr_outside.specs.Writes.{AppendsFront}
use Rattle.vdr_pcap.specs.Account.{items_of}
use Rattle.vdr_pcap.specs.Capture.{IsCapture, IsRefusedAfter, Part, Reaches, pieces_of}
use Rattle.vdr_import.specs.declared.refused.ImportRefused.{ImportRefused}
use Rattle.vdr_import.specs.declared.refused.ImportRefused.TheVariants.{Input, Output, Refused}

-- What is written of these packets and blocks: the feed of their items, and nothing before the first header.
abbrev pub imported : List Part → List ℕ
imported [] = []
imported (p ∷ parts) = feed (items_of (pieces_of (p ∷ parts)))

-- The known bytes are a capture, of which this is said.
abbrev pub IfCaptured : (left : Option (List ℕ)) → (List Part → Type 0) → Type 0
IfCaptured left P = IfKnown left (λ bytes. (parts : List Part) × IsCapture longest_feed bytes parts × P parts)

-- They are refused so behind these packets and blocks, of which this is said.
abbrev pub IfRefusedBehind : (left : Option (List ℕ)) → (number offset : ℕ) → (List Part → Type 0) → Type 0
IfRefusedBehind left number offset P = IfKnown left (λ bytes. (parts : List Part) × ((rest : List ℕ) × IsRefusedAfter longest_feed bytes number offset parts rest) × P parts)

-- These packets and blocks stand in front of them.
abbrev pub IfReached : (left : Option (List ℕ)) → (List Part → Type 0) → Type 0
IfReached left P = IfKnown left (λ bytes. (parts : List Part) × ((rest : List ℕ) × Reaches longest_feed bytes parts rest) × P parts)

-- What was written, by the answer.
abbrev pub Imports : (left now taken taken' : Option (List ℕ)) → Result ⊤ ImportRefused → Type 0
Imports left now taken taken' (Ok x) = IsAtEnd now × IfCaptured left (λ parts. Appends taken taken' (imported parts))
Imports left now taken taken' (Err (Refused number offset)) = IfRefusedBehind left number offset (λ parts. Appends taken taken' (imported parts))
Imports left now taken taken' (Err Input) = IfReached left (λ parts. Appends taken taken' (imported parts))
Imports left now taken taken' (Err Output) = IfReached left (λ parts. AppendsFront taken taken' (imported parts))

-- No count of faults falls, and an answer that names the source or the sink comes only where its own rose.
pub record HasCauses {T : Type 0} (input input' output output' : ℕ) (result : Result T ImportRefused) : Type 0 where
  pub later_input : input ≤ input'
  pub later_output : output ≤ output'
  pub input_rose : IsErrOf result Input → Rose input input'
  pub output_rose : IsErrOf result Output → Rose output output'
