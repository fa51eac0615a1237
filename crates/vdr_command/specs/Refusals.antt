-- How the refusal of a configuration is told (this project's profile).
use Rattle.std.specs.Prelude.{◌≡◌, ℕ, List, ◌++◌, codes, decimal, Option, Err}
use Rattle.vdr_entry.specs.Escape.{escaped}
use Rattle.vdr_feed.specs.Reader.{IfKnown}
use Rattle.vdr_config.specs.declared.bad.ConfigBad.{ConfigBad}
use Rattle.vdr_config.specs.declared.bad.ConfigBad.TheVariants as bad
use Rattle.vdr_config.specs.Grammar.{configuration}
use Rattle.vdr_command.specs.Outside.{OutputSeen, Writes}
use Rattle.vdr_command.specs.StatusLine.{IfConfig}
use Rattle.vdr_command.specs.declared.status.Status.{Status}

-- The number of a refusal. Want of memory is none of the grammar's, and has a status of its own.
abbrev pub number_of : ConfigBad → ℕ
number_of bad.NoMemory = 0
number_of bad.Json = 1
number_of (bad.MissingKey path) = 2
number_of (bad.UnknownKey path) = 3
number_of (bad.Range path) = 4
number_of (bad.Repeated path) = 5
number_of (bad.ShortWindow path) = 6
number_of (bad.SmallSegment path) = 7
number_of bad.TooLong = 8

-- The path of the key that is refused, `-` where the whole text is.
abbrev pub key_of : ConfigBad → List ℕ
key_of bad.NoMemory = codes "-"
key_of bad.Json = codes "-"
key_of (bad.MissingKey path) = path
key_of (bad.UnknownKey path) = path
key_of (bad.Range path) = path
key_of (bad.Repeated path) = path
key_of (bad.ShortWindow path) = path
key_of (bad.SmallSegment path) = path
key_of bad.TooLong = codes "-"

-- The status line of a refusal.
unfoldable pub refusal_line : ConfigBad → List ℕ
refusal_line bad = codes "status 3 config " ++ decimal (number_of bad) ++ codes " " ++ escaped (key_of bad) ++ codes "\n"

-- The input is refused by the grammar, and its refusal is written, with the key.
abbrev pub RefusesConfig : Status → (left : Option (List ℕ)) → (old new : OutputSeen) → Type 0
RefusesConfig status left old new = IfConfig status (λ number. (bad : ConfigBad) × (number_of bad ≡ number) × IfKnown left (λ bytes. configuration bytes ≡ Err bad)
    × Writes (refusal_line bad) old new)
