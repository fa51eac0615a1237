-- The items of a TAG block: `code:value`, separated by commas (IEC 61162-450).
use Rattle.std.specs.Prelude.{◌≡◌, ◌<◌, ◌++◌, ℕ, Bool, true, not, ◌&&◌, ◌==◌, nat_lt, List, ◌∷◌, length, Option, Some, None, is_some, filter_map, if◌then◌else◌}
use Rattle.std.specs.List.{list_all, position_or_len, before_first, after_first}
use Rattle.vdr_tag.specs.Parts.{parts}
use Rattle.vdr_tag.specs.declared.bad.BadTag.{BadTag}
use Rattle.vdr_tag.specs.declared.bad.BadTag.TheVariants.{Field, Value}
use Rattle.vdr_tag.specs.Values.{TagValues, code_named, over, said_by}

-- The bytes are an item that says these values: a code, a colon, a value that is accepted. The first colon ends the code.
pub record IsItem (bytes : List ℕ) (values : TagValues) : Type 0 where
  pub code : List ℕ
  pub value : List ℕ
  pub spelled : bytes ≡ code ++ 58 ∷ value
  pub given : 0 < length code
  pub ended : list_all (λ b. not (b == 58)) code ≡ true
  pub accepted : said_by (code_named code) value ≡ Some values

-- The items of a block, in their bytes.
abbrev pub items : List ℕ → List (List ℕ)
items text = parts 44 text

abbrev pub colon : List ℕ → ℕ
colon item = position_or_len (λ b. b == 58) item

-- A colon stands in the item, with something before it.
abbrev pub has_code : List ℕ → Bool
has_code item = nat_lt 0 (colon item) && nat_lt (colon item) (length item)

-- What an item says, None where its value is not accepted.
abbrev pub item_values : List ℕ → Option TagValues
item_values item = said_by (code_named (before_first (λ b. b == 58) item)) (after_first (λ b. b == 58) item)

-- The first refusal of the items of a block: no code, in any of them, before a value that is not accepted.
unfoldable pub items_refusal : List (List ℕ) → Option BadTag
items_refusal parts =
    if not (list_all has_code parts) then Some Field
    else if not (list_all (λ part. is_some (item_values part)) parts) then Some Value
    else None

-- What the items say whose values are accepted, in their order.
abbrev pub values_in : List (List ℕ) → List TagValues
values_in parts = filter_map item_values parts

-- What an item adds to what was said before it.
abbrev pub over_item : TagValues → Option TagValues → TagValues
over_item before None = before
over_item before (Some values) = over before values
