-- A capture: its packets or blocks, one after another.
use Rattle.std.specs.Prelude.{◌≡◌, ℕ, ◌+◌, ◌-◌, ◌^◌, Bool, true, false, ◌&&◌, ◌||◌, nat_le, nat_lt, List, [], ◌∷◌, ◌++◌, length, Option, None, Some, if◌then◌else◌}
use Rattle.std.specs.List.{flat_map}
use Rattle.vdr_pcap.specs.Account.{Datagram, counted, datagram_of, no_account}
use Rattle.vdr_pcap.specs.declared.account.Account.{Account}
use Rattle.vdr_pcap.specs.Blocks.{beginning, parsed}
use Rattle.vdr_pcap.specs.Packets.{Parsed, Ends, Refuses, Reads, Piece, Standing, no_standing}

-- How far a capture has come.
pub record Course : Type 0 where
  pub standing : Standing
  -- the bytes up to here
  pub offset : ℕ
  pub account : Account

abbrev pub no_course : Course
no_course = record { standing = no_standing; offset = 0; account = no_account }

abbrev pub is_some : Option Datagram → Bool
is_some None = false
is_some (Some d) = true

-- What may not follow: an item beyond the limit, or what ends behind the greatest number of 64 bits.
abbrev pub is_too_much : (limit offset items size : ℕ) → Piece → Bool
is_too_much limit offset items size piece = nat_lt (2 ^ 64 - 1) (offset + size) || (is_some (datagram_of piece) && nat_le limit items)

-- What stands at a place: nothing; what is refused; or so many bytes that tell this, behind which the capture has come so far.
pub data Step : Type 0 where
  Ended : Step
  Refused : (number : ℕ) → Step
  Takes : (size : ℕ) → (next : Course) → (piece : Piece) → Step

abbrev pub step_of : (limit : ℕ) → Course → Parsed → Step
step_of limit c Ends = Ended
step_of limit c (Refuses number) = Refused number
step_of limit c (Reads size next piece) =
    if is_too_much limit c.offset c.account.items size piece then Refused 7
    else Takes size (record { standing = next; offset = c.offset + size; account = counted piece c.account }) piece

-- The first step of a capture, and a later one.
abbrev pub step : (limit : ℕ) → (begun : Bool) → Course → List ℕ → Step
step limit false c bytes = step_of limit c (beginning c.standing bytes)
step limit true c bytes = step_of limit c (parsed c.standing bytes)

-- One packet or block of a capture, or the header of a pcap file: its bytes, how far the capture has then come, and what it tells.
pub record Part : Type 0 where
  pub bytes : List ℕ
  pub next : Course
  pub piece : Piece

-- It stands where the capture has come so far.
pub record IsPart (limit : ℕ) (begun : Bool) (c : Course) (p : Part) : Type 0 where
  pub is : step limit begun c p.bytes ≡ Takes (length p.bytes) p.next p.piece

-- These stand there, one after another.
abbrev pub AreParts : (limit : ℕ) → (begun : Bool) → Course → List Part → Type 0
AreParts limit begun c [] = Unit {0}
AreParts limit begun c (p ∷ parts) = IsPart limit begun c p × AreParts limit true p.next parts

abbrev pub text : List Part → List ℕ
text parts = flat_map (λ (p : Part). p.bytes) parts

abbrev pub pieces_of : List Part → List Piece
pieces_of [] = []
pieces_of (p ∷ parts) = p.piece ∷ pieces_of parts

-- how far the capture has come behind them
abbrev pub course_after : Course → List Part → Course
course_after c [] = c
course_after c (p ∷ parts) = course_after p.next parts

abbrev pub is_begun : List Part → Bool
is_begun [] = false
is_begun (p ∷ parts) = true

-- At the beginning of the bytes stand these parts, and then this rest.
pub record Reaches (limit : ℕ) (bytes : List ℕ) (parts : List Part) (rest : List ℕ) : Type 0 where
  pub spelled : bytes ≡ text parts ++ rest
  pub legal : AreParts limit false no_course parts

-- What stands behind these parts.
abbrev pub step_after : (limit : ℕ) → List Part → List ℕ → Step
step_after limit parts rest = step limit (is_begun parts) (course_after no_course parts) rest

-- The bytes are a capture of these parts.
pub record IsCapture (limit : ℕ) (bytes : List ℕ) (parts : List Part) : Type 0 where
  pub whole : Reaches limit bytes parts []
  pub ended : step_after limit parts [] ≡ Ended

-- The bytes are no capture: behind these parts stands, at this offset, what the number says.
pub record IsRefusedAfter (limit : ℕ) (bytes : List ℕ) (number offset : ℕ) (parts : List Part) (rest : List ℕ) : Type 0 where
  pub front : Reaches limit bytes parts rest
  pub fault : step_after limit parts rest ≡ Refused number
  pub offset_is : offset ≡ length (text parts)

abbrev pub IsRefused : ℕ → List ℕ → (number offset : ℕ) → Type 0
IsRefused limit bytes number offset = (parts : List Part) × (rest : List ℕ) × IsRefusedAfter limit bytes number offset parts rest
