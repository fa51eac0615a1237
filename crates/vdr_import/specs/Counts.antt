-- The account of a capture's packets.
use Rattle.std.specs.Prelude.{◌≡◌, ℕ, List, Option, Result, Ok, Err, ⊤}
use Rattle.std.specs.Io.KnownBytes.{Appends, IsAtEnd}
use Rattle.vdr_outside.specs.Writes.{AppendsFront}
use Rattle.vdr_pcap.specs.Account.{account_of}
use Rattle.vdr_pcap.specs.Capture.{Course, Part, course_after, no_course, pieces_of}
use Rattle.vdr_pcap.specs.Packets.{Standing, lost_with}
use Rattle.vdr_import.specs.AccountTexts.{account_text}
use Rattle.vdr_import.specs.Imports.{IfCaptured, IfReached, IfRefusedBehind}
use Rattle.vdr_import.specs.declared.refused.ImportRefused.{ImportRefused}
use Rattle.vdr_import.specs.declared.refused.ImportRefused.TheVariants.{Input, Output, Refused}

-- how many packets the capture says that it lost
abbrev pub lost_of : Standing → ℕ
lost_of s = lost_with s.lost s.interfaces

-- What is printed of a capture that has come so far.
abbrev pub course_text : Course → List ℕ
course_text c = account_text c.account (lost_of c.standing)

-- The account of a capture of these packets and blocks.
abbrev pub counted_text : List Part → List ℕ
counted_text parts = account_text (account_of (pieces_of parts)) (lost_of (course_after no_course parts).standing)

-- What was read, by the answer.
abbrev pub Reads : (left now : Option (List ℕ)) → Course → Result ⊤ ImportRefused → Type 0
Reads left now c (Ok x) = IsAtEnd now × IfCaptured left (λ parts. course_text c ≡ counted_text parts)
Reads left now c (Err (Refused number offset)) = IfRefusedBehind left number offset (λ parts. ⊤)
Reads left now c (Err Input) = IfReached left (λ parts. ⊤)
Reads left now c (Err Output) = ⊥

-- The capture was read to its end; its text may have failed.
abbrev pub IsCounted : Result ⊤ ImportRefused → Type 0
IsCounted (Ok x) = ⊤
IsCounted (Err (Refused number offset)) = ⊥
IsCounted (Err Input) = ⊥
IsCounted (Err Output) = ⊤

-- What was printed, by the answer.
abbrev pub Counts : (left now taken taken' : Option (List ℕ)) → Result ⊤ ImportRefused → Type 0
Counts left now taken taken' (Ok x) = IsAtEnd now × IfCaptured left (λ parts. Appends taken taken' (counted_text parts))
Counts left now taken taken' (Err (Refused number offset)) = IfRefusedBehind left number offset (λ parts. ⊤)
Counts left now taken taken' (Err Input) = IfReached left (λ parts. ⊤)
Counts left now taken taken' (Err Output) = IfCaptured left (λ parts. AppendsFront taken taken' (counted_text parts))
