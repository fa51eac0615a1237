-- A TAG block between its two `\`: items, and the checksum field of their text (IEC 61162-450).
use Rattle.std.specs.Prelude.{◌≡◌, ℕ, true, not, ◌==◌, List, Option, Some, None, if◌then◌else◌}
use Rattle.std.specs.List.{AllZip, list_all}
use Rattle.vdr_bytes.specs.Checksum.{HasField, checksum, covered, written}
use Rattle.vdr_tag.specs.declared.bad.BadTag.{BadTag}
use Rattle.vdr_tag.specs.declared.bad.BadTag.TheVariants.{Missing, Wrong}
use Rattle.vdr_tag.specs.Values.{TagValues, all_said}
use Rattle.vdr_tag.specs.Items.{IsItem, items, items_refusal, values_in}

-- The bytes between two `\` are a block that says these values.
pub record IsBlock (inside : List ℕ) (values : TagValues) : Type 0 where
  pub text : List ℕ
  pub checksum : HasField inside text (checksum text)
  pub closed : list_all (λ b. not (b == 92)) inside ≡ true
  pub said : List TagValues
  pub items : AllZip IsItem (items text) said
  pub values_are : values ≡ all_said said

-- The first refusal of a block that is closed: its checksum, and then its items.
abbrev pub checked : (written : Option ℕ) (computed : ℕ) → Option BadTag → Option BadTag
checked None computed others = Some Missing
checked (Some sum) computed others = if sum == computed then others else Some (Wrong sum computed)

unfoldable pub block_refusal : List ℕ → Option BadTag
block_refusal inside = checked (written inside) (checksum (covered inside)) (items_refusal (items (covered inside)))

-- What the items of a block say.
unfoldable pub block_values : List ℕ → TagValues
block_values inside = all_said (values_in (items (covered inside)))
