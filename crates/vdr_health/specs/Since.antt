-- Since when a run goes (this project's profile).
use Rattle.std.specs.Prelude.{◌≡◌, ◌≤◌, ℤ, pos, unsigned_abs, Option, Some}
use Rattle.vdr_terms.specs.Stamps.{last_stamp}

-- It is a stamp, where it is known.
abbrev pub IsSince : Option ℤ → Type 0
IsSince since = (utc : ℤ) → since ≡ Some utc → (utc ≡ pos (unsigned_abs utc)) × (unsigned_abs utc ≤ last_stamp)
