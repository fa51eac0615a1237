-- What `check` prints of a configuration, and how its refusal is told (this project's profile).
use Rattle.std.specs.Prelude.{◌≡◌, ℕ, if◌then◌else◌, List, [], ◌++◌, length, filter, is_some, codes, decimal, Option, Result, Ok, Err, ⊤}
use Rattle.vdr_terms.specs.Needs.{cost, usable, needed_slots}
use Rattle.vdr_feed.specs.Reader.{IfKnown}
use Rattle.vdr_config.specs.declared.bad.ConfigBad.{ConfigBad}
use Rattle.vdr_config.specs.Configuration.{Configuration}
use Rattle.vdr_config.specs.Sizes.{sizes_of}
use Rattle.vdr_config.specs.Grammar.{configuration}
use Rattle.vdr_tool.specs.declared.checking.CheckRefused.{CheckRefused}
use Rattle.vdr_tool.specs.declared.checking.CheckRefused.TheVariants.{Input, Memory, Refused}

-- The number of configured groups.
abbrev pub groups_of : Configuration → ℕ
groups_of c = length (filter is_some c.groups)

abbrev pub need_line : List ℕ → ℕ → List ℕ
need_line name number = name ++ codes " " ++ decimal number ++ codes "\n"

-- The needs, one in a line: the slots are those of the fixed medium and of the long-term medium, and of the float-free medium where
-- the configuration gives its window.
unfoldable pub check_text : Configuration → List ℕ
check_text c =
    need_line (codes "groups") (groups_of c)
    ++ need_line (codes "cost") (cost (sizes_of c))
    ++ need_line (codes "usable") (usable (sizes_of c))
    ++ need_line (codes "capsule") (needed_slots (sizes_of c) 0)
    ++ need_line (codes "longterm") (needed_slots (sizes_of c) 1)
    ++ (if c.float_given then need_line (codes "floatfree") (needed_slots (sizes_of c) 2) else [])

-- The bytes, where they are known, are a configuration, and P holds of what `check` prints of it.
abbrev pub IfChecked : Option (List ℕ) → (List ℕ → Type 0) → Type 0
IfChecked left P = IfKnown left (λ bytes. (c : Configuration) × (configuration bytes ≡ Ok c) × P (check_text c))

-- What is said of a text that is refused.
abbrev pub IfRefused : CheckRefused → (ConfigBad → Type 0) → Type 0
IfRefused Input P = ⊤
IfRefused Memory P = ⊤
IfRefused (Refused bad) P = P bad

abbrev pub IfRefusedText : {T : Type 0} → Result T CheckRefused → (ConfigBad → Type 0) → Type 0
IfRefusedText (Ok x) P = ⊤
IfRefusedText (Err stop) P = IfRefused stop P
