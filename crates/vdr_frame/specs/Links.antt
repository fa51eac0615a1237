-- What stands behind the header of a link (IEEE 802.3 and 802.1Q; the link types of pcap and their headers).
use Rattle.std.specs.Prelude.{ℕ, zero, suc, ◌/◌, Bool, not, ◌&&◌, ◌||◌, ◌==◌, nat_lt, List, length, drop, slice_index, if◌then◌else◌, Result, Ok, Err}
use Rattle.vdr_frame.specs.Numbers.{u16_at}
use Rattle.vdr_frame.specs.declared.found.Cause.{Cause}
use Rattle.vdr_frame.specs.declared.found.Cause.TheVariants.{Link, Short, Protocol, Ipv6}

-- the types of a tag: of 802.1Q, of a provider's bridge, and an older one
abbrev pub is_tag : ℕ → Bool
is_tag kind = kind == 0x8100 || kind == 0x88A8 || kind == 0x9100

-- what stands behind a header with this type
abbrev pub of_type : (kind : ℕ) → (rest : List ℕ) → Result (List ℕ) Cause
of_type kind rest = if kind == 0x0800 then Ok rest else if kind == 0x86DD then Err Ipv6 else Err Protocol

-- The same, behind at most so many tags. Behind the type of a tag stand two bytes of it, and the next type.
abbrev pub behind_tags : (tags kind : ℕ) → (rest : List ℕ) → Result (List ℕ) Cause
behind_tags zero kind rest = of_type kind rest
behind_tags (suc tags) kind rest =
    if not (is_tag kind) then of_type kind rest
    else if nat_lt (length rest) 4 then Err Short
    else behind_tags tags (u16_at rest 2) (drop 4 rest)

-- behind a header of so many bytes with a type at an offset, and up to two tags
abbrev pub behind_type : List ℕ → (at size : ℕ) → Result (List ℕ) Cause
behind_type bytes at size = if nat_lt (length bytes) size then Err Short else behind_tags 2 (u16_at bytes at) (drop size bytes)

-- four bytes that are a number in one order of bytes or the other
abbrev pub says : List ℕ → ℕ → Bool
says bytes n =
    (slice_index bytes 0 == n && slice_index bytes 1 == 0 && slice_index bytes 2 == 0 && slice_index bytes 3 == 0)
    || (slice_index bytes 0 == 0 && slice_index bytes 1 == 0 && slice_index bytes 2 == 0 && slice_index bytes 3 == n)

-- behind the address family of a loopback
abbrev pub behind_family : List ℕ → Result (List ℕ) Cause
behind_family bytes =
    if nat_lt (length bytes) 4 then Err Short
    else if says bytes 2 then Ok (drop 4 bytes)
    else if says bytes 10 || says bytes 24 || says bytes 28 || says bytes 30 then Err Ipv6
    else Err Protocol

-- behind no header: the version of IP tells
abbrev pub behind_version : List ℕ → Result (List ℕ) Cause
behind_version bytes =
    if nat_lt (length bytes) 1 then Err Short
    else if slice_index bytes 0 / 16 == 4 then Ok bytes
    else if slice_index bytes 0 / 16 == 6 then Err Ipv6
    else Err Protocol

abbrev pub is_loopback : ℕ → Bool
is_loopback link = link == 0 || link == 108

abbrev pub is_raw : ℕ → Bool
is_raw link = link == 12 || link == 14 || link == 101 || link == 228 || link == 229

-- The IPv4 packet behind the header of a link of this type, or why there is none: 1 Ethernet, 113 and 276 Linux cooked.
abbrev pub behind_link : (link : ℕ) → List ℕ → Result (List ℕ) Cause
behind_link link bytes =
    if link == 1 then behind_type bytes 12 14
    else if link == 113 then behind_type bytes 14 16
    else if link == 276 then behind_type bytes 0 20
    else if is_loopback link then behind_family bytes
    else if is_raw link then behind_version bytes
    else Err Link
