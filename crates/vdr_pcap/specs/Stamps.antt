-- The stamp of a captured packet, in milliseconds since 1970, rounded down.
use Rattle.std.specs.Prelude.{ℕ, Bool, ◌+◌, ◌-◌, ◌*◌, ◌/◌, ◌^◌, nat_le, nat_lt, Option, None, Some, if◌then◌else◌}
use Rattle.vdr_terms.specs.Stamps.{last_stamp}

-- a number of milliseconds, where it is a stamp
abbrev pub in_time : ℕ → Option ℕ
in_time n = if nat_le n last_stamp then Some n else None

-- of pcap: seconds, and a fraction in nanoseconds or microseconds
abbrev pub stamp_of_fraction : (nano : Bool) → (seconds fraction : ℕ) → Option ℕ
stamp_of_fraction nano seconds fraction = in_time (1000 * seconds + (if nano then fraction / 1_000_000 else fraction / 1000))

-- how many units of a resolution of pcapng are a second
abbrev pub units : ℕ → ℕ
units resolution = if nat_lt resolution 128 then 10 ^ resolution else 2 ^ (resolution - 128)

-- milliseconds, and seconds to be added, which are a number of eight bytes in two's complement
abbrev pub moved : (milliseconds added : ℕ) → Option ℕ
moved milliseconds added =
    if nat_lt added (2 ^ 63) then in_time (milliseconds + 1000 * added)
    else if nat_lt milliseconds (1000 * (2 ^ 64 - added)) then None
    else in_time (milliseconds - 1000 * (2 ^ 64 - added))

-- of pcapng: units of an interface's resolution, and its seconds to be added
abbrev pub stamp_of_units : (resolution added stamp : ℕ) → Option ℕ
stamp_of_units resolution added stamp = moved (1000 * stamp / units resolution) added
