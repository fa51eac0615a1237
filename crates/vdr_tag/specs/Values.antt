-- What the items of TAG blocks say (IEC 61162-450). The values that are accepted are this project's profile.
use Rattle.std.specs.Prelude.{ℕ, ◌+◌, min, Bool, ◌&&◌, ◌==◌, nat_le, List, [], ◌∷◌, length, Option, Some, None, option_map, if◌then◌else◌}
use Rattle.std.specs.Option.{option_or}
use Rattle.vdr_terms.specs.Texts.{are_graphic}
use Rattle.vdr_bytes.specs.Digits.{number}
use Rattle.vdr_tag.specs.Parts.{parts}
use Rattle.vdr_tag.specs.declared.grouping.Grouping.{Grouping}
use Rattle.vdr_tag.specs.declared.code.Code.{Code}
use Rattle.vdr_tag.specs.declared.code.Code.TheVariants.{Source, Destination, Line, Group, Time, Relative, Text, Other}

-- The values that items say, each by its code.
pub record TagValues : Type 0 where
  pub source : Option (List ℕ)
  pub destination : Option (List ℕ)
  pub line : Option ℕ  -- the line count
  pub group : Option Grouping
  pub time : Option ℕ  -- UNIX time
  pub relative : Option ℕ  -- relative time
  pub text : Option (List ℕ)
  pub others : ℕ  -- items with other codes, 65,535 where there are more

abbrev pub nothing : TagValues
nothing = record { source = None; destination = None; line = None; group = None; time = None; relative = None; text = None; others = 0 }

-- What the first items and then the later ones say. Where a code stands twice the first counts.
abbrev pub over : (first later : TagValues) → TagValues
over first later = record {
  source = option_or first.source later.source;
  destination = option_or first.destination later.destination;
  line = option_or first.line later.line;
  group = option_or first.group later.group;
  time = option_or first.time later.time;
  relative = option_or first.relative later.relative;
  text = option_or first.text later.text;
  others = min 65535 (first.others + later.others);
}

-- What several items say, one after another.
abbrev pub all_said : List TagValues → TagValues
all_said [] = nothing
all_said (values ∷ later) = over values (all_said later)

-- One to fifteen bytes of 0x21 to 0x7E, as the system function identifier `GP0001`.
abbrev pub is_identifier : List ℕ → Bool
is_identifier value = nat_le 1 (length value) && nat_le (length value) 15 && are_graphic value

abbrev pub in_order : Option ℕ → Option ℕ → Option ℕ → Option Grouping
in_order (Some n) (Some total) (Some code) = if nat_le 1 n && nat_le n total then Some (record { number = n; total = total; code = code }) else None
in_order _ _ _ = None

abbrev pub grouping_in : List (List ℕ) → Option Grouping
grouping_in (n ∷ total ∷ code ∷ []) = in_order (number 6 n) (number 6 total) (number 6 code)
grouping_in _ = None

-- `number-total-code`, each of one to six digits, with 1 <= number <= total.
abbrev pub grouping : List ℕ → Option Grouping
grouping value = grouping_in (parts 45 value)

-- The code that stands before the colon.
abbrev pub code_named : List ℕ → Code
code_named (b ∷ []) =
    if b == 115 then Source
    else if b == 100 then Destination
    else if b == 110 then Line
    else if b == 103 then Group
    else if b == 99 then Time
    else if b == 114 then Relative
    else if b == 116 then Text
    else Other
code_named _ = Other

-- What an item says, None where the value is not accepted under the code.
abbrev pub said_by : Code → (value : List ℕ) → Option TagValues
said_by Source value = if is_identifier value then Some (record nothing { source = Some value }) else None
said_by Destination value = if is_identifier value then Some (record nothing { destination = Some value }) else None
said_by Line value = option_map (λ n. record nothing { line = Some n }) (number 3 value)
said_by Group value = option_map (λ g. record nothing { group = Some g }) (grouping value)
said_by Time value = option_map (λ n. record nothing { time = Some n }) (number 18 value)
said_by Relative value = option_map (λ n. record nothing { relative = Some n }) (number 18 value)
said_by Text value = Some (record nothing { text = Some value })
said_by Other value = Some (record nothing { others = 1 })
