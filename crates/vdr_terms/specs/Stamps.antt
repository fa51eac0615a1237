-- UTC stamps.
use Rattle.std.specs.Prelude.{◌≡◌, ◌≤◌, ℕ, ℤ, pos, unsigned_abs}

-- The last millisecond of the year 9999.
abbrev pub last_stamp : ℕ
last_stamp = 253_402_300_799_999

-- A stamp is a number of milliseconds since 1970, up to the end of the year 9999 (this project's profile).
pub record IsStamp (utc : ℤ) : Type 0 where
  pub whole : utc ≡ pos (unsigned_abs utc)
  pub in_time : unsigned_abs utc ≤ last_stamp
