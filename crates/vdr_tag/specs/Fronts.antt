-- The TAG blocks at the front of some bytes (IEC 61162-450).
use Rattle.std.specs.Prelude.{◌≡◌, ℕ, ◌+◌, ◌++◌, Bool, false, ◌==◌, nat_lt, List, [], ◌∷◌, length, Option, Some, None, Result, Ok, Err, flat_map, if◌then◌else◌}
use Rattle.std.specs.List.{before_first, position_or_len}
use Rattle.vdr_tag.specs.Parts.{parts}
use Rattle.vdr_tag.specs.declared.bad.BadTag.{BadTag}
use Rattle.vdr_tag.specs.declared.bad.BadTag.TheVariants.{Unclosed}
use Rattle.vdr_tag.specs.Values.{TagValues, nothing, over}
use Rattle.vdr_tag.specs.Blocks.{IsBlock, block_refusal, block_values}

-- A block with its two `\`.
abbrev pub block_text : List ℕ → List ℕ
block_text inside = 92 ∷ (inside ++ 92 ∷ [])

abbrev pub begins_block : List ℕ → Bool
begins_block [] = false
begins_block (b ∷ rest) = b == 92

-- Blocks, by what stands between their `\`, and what they say together.
abbrev pub AreBlocks : (insides : List (List ℕ)) (values : TagValues) → Type 0
AreBlocks [] values = values ≡ nothing
AreBlocks (inside ∷ insides) values = (first later : TagValues) × IsBlock inside first × AreBlocks insides later × (values ≡ over first later)

-- The first n bytes are TAG blocks that say these values, and no `\` stands behind them.
pub record HasFront (bytes : List ℕ) (values : TagValues) (n : ℕ) : Type 0 where
  pub insides : List (List ℕ)
  pub blocks : AreBlocks insides values
  pub rest : List ℕ
  pub spelled : bytes ≡ flat_map block_text insides ++ rest
  pub ended : begins_block rest ≡ false
  pub size : n ≡ length (flat_map block_text insides)

-- Behind a `\` stand the inside of a block that says these values, a `\`, and the rest.
pub record OpensBlock (after : List ℕ) (values : TagValues) (rest : List ℕ) : Type 0 where
  pub inside : List ℕ
  pub block : IsBlock inside values
  pub spelled : after ≡ inside ++ 92 ∷ rest

-- The refusal of what stands behind a `\` that opens a block.
abbrev pub opened_refusal : List ℕ → Option BadTag
opened_refusal rest = if nat_lt (position_or_len (λ b. b == 92) rest) (length rest) then block_refusal (before_first (λ b. b == 92) rest) else Some Unclosed

-- Behind blocks that are legal a block is opened that is refused.
pub record IsRefused (bytes : List ℕ) (bad : BadTag) : Type 0 where
  pub insides : List (List ℕ)
  pub values : TagValues
  pub blocks : AreBlocks insides values
  pub rest : List ℕ
  pub spelled : bytes ≡ flat_map block_text insides ++ 92 ∷ rest
  pub refused : opened_refusal rest ≡ Some bad

-- What a block and what stands behind it read as. A block takes two bytes more than stand inside.
abbrev pub behind_block : (refusal : Option BadTag) (values : TagValues) (size : ℕ) → Result (TagValues × ℕ) BadTag → Result (TagValues × ℕ) BadTag
behind_block (Some bad) values size later = Err bad
behind_block None values size (Err bad) = Err bad
behind_block None values size (Ok later) = Ok (over values later.0, size + later.1)

abbrev pub opened : (inside : List ℕ) (parts : List (List ℕ)) → Result (TagValues × ℕ) BadTag → Result (TagValues × ℕ) BadTag
opened inside [] later = Err Unclosed
opened inside (part ∷ parts) later = behind_block (block_refusal inside) (block_values inside) (length inside + 2) later

-- What bytes read as that are cut at each `\`: nothing stands before a block, and then what is inside of it.
abbrev pub front : List (List ℕ) → Result (TagValues × ℕ) BadTag
front ([] ∷ inside ∷ parts) = opened inside parts (front parts)
front _ = Ok (nothing, 0)

-- What the bytes read as: the values of the blocks at their front, and how many bytes these take.
unfoldable pub reading : List ℕ → Result (TagValues × ℕ) BadTag
reading bytes = front (parts 92 bytes)
