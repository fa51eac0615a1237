-- When the silence of a group is told (this project's profile).
use Rattle.std.specs.Prelude.{ℕ, ◌+◌, Bool, true, false, ◌&&◌, not, nat_le, Option, Some, None}

-- It was heard, the last datagram came ten seconds ago or earlier, and that was not told yet.
abbrev pub is_silent : (last : Option ℕ) → (told : Bool) → (now : ℕ) → Bool
is_silent None told now = false
is_silent (Some last) told now = not told && nat_le (last + 10_000) now
