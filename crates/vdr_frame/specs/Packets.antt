-- What a captured packet is (IPv4: RFC 791, UDP: RFC 768; which ports are those of groups, and what is cut: this project's profile).
use Rattle.std.specs.Prelude.{ℕ, ◌+◌, ◌-◌, ◌*◌, ◌/◌, ◌%◌, Bool, not, ◌&&◌, ◌||◌, ◌==◌, nat_lt, min, List, length, take, drop, slice_index, if◌then◌else◌, Result, Ok, Err}
use Rattle.vdr_frame.specs.Numbers.{u16_at}
use Rattle.vdr_frame.specs.Links.{behind_link}
use Rattle.vdr_frame.specs.Outcomes.{Outcome, Left, Cut, Whole}
use Rattle.vdr_frame.specs.declared.found.Cause.{Cause}
use Rattle.vdr_frame.specs.declared.found.Cause.TheVariants.{Short, Protocol, Fragment, Malformed, Port}

-- ---- UDP, from its header on

-- how many bytes of a payload count: one more than a datagram of a group may have
abbrev pub counted : (udp : List ℕ) → ℕ
counted udp = min (u16_at udp 4 - 8) 1473

-- A datagram to the port of a group, in a packet that has room for so many bytes of it, of which more fragments follow or none.
abbrev pub in_udp : (udp : List ℕ) → (room : ℕ) → (more : Bool) → (group : ℕ) → Outcome
in_udp udp room more group =
    if nat_lt (length udp) 6 then Cut group
    else if nat_lt (u16_at udp 4) 8 || (not more && nat_lt room (u16_at udp 4)) then Left Malformed
    else if more || nat_lt (length udp) (8 + counted udp) then Cut group
    else Whole group (take (counted udp) (drop 8 udp))

abbrev pub is_group_port : ℕ → Bool
is_group_port port = not (nat_lt port 60_001 || nat_lt 60_016 port)

-- a datagram to any port
abbrev pub at_port : (udp : List ℕ) → (room : ℕ) → (more : Bool) → Outcome
at_port udp room more =
    if nat_lt (length udp) 4 then Left Short
    else if not (is_group_port (u16_at udp 2)) then Left (Port (u16_at udp 2))
    else in_udp udp room more (u16_at udp 2 - 60_001)

-- ---- IPv4, from its header on

abbrev pub version : (packet : List ℕ) → ℕ
version packet = slice_index packet 0 / 16

abbrev pub header_length : (packet : List ℕ) → ℕ
header_length packet = 4 * (slice_index packet 0 % 16)

abbrev pub total_length : (packet : List ℕ) → ℕ
total_length packet = u16_at packet 2

abbrev pub more_fragments : (packet : List ℕ) → Bool
more_fragments packet = u16_at packet 6 / 8192 % 2 == 1

abbrev pub fragment_offset : (packet : List ℕ) → ℕ
fragment_offset packet = u16_at packet 6 % 8192

abbrev pub protocol : (packet : List ℕ) → ℕ
protocol packet = slice_index packet 9

abbrev pub is_malformed : (packet : List ℕ) → Bool
is_malformed packet = not (version packet == 4) || nat_lt (header_length packet) 20 || nat_lt (total_length packet) (header_length packet)

abbrev pub in_packet : (packet : List ℕ) → Outcome
in_packet packet =
    if nat_lt (length packet) 20 then Left Short
    else if is_malformed packet then Left Malformed
    else if not (protocol packet == 17) then Left Protocol
    else if not (fragment_offset packet == 0) then Left Fragment
    else at_port (drop (header_length packet) packet) (total_length packet - header_length packet) (more_fragments packet)

-- ---- the whole

abbrev pub found_behind : Result (List ℕ) Cause → Outcome
found_behind (Ok packet) = in_packet packet
found_behind (Err cause) = Left cause

-- What the captured bytes of a packet are, on a link of this type.
abbrev pub found_in : (link : ℕ) → List ℕ → Outcome
found_in link bytes = found_behind (behind_link link bytes)
