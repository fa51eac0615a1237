-- Media without a hole: the places of a medium's window run on (this project's profile).
use Rattle.std.specs.Prelude.{ℕ, List}
use Rattle.vdr_terms.specs.Records.{Record}
use Rattle.vdr_terms.specs.Order.{RunOn}
use Rattle.vdr_terms.specs.Windows.{window}

-- No place is skipped in the window of so many seconds.
abbrev pub IsUnbroken : ℕ → List Record → Type 0
IsUnbroken seconds records = (place : ℕ) × RunOn place (window seconds records)
