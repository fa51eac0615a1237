-- What begins each line that is told of equipment, and the words for what is left out (this project's profile).
use Rattle.std.specs.Prelude.{ℕ, ℤ, List, [], ◌∷◌, codes, decimal, Option, Some, None}
use Rattle.std.specs.List.{concat}
use Rattle.vdr_terms.specs.Groups.{group_name}
use Rattle.vdr_terms.specs.Records.{Record}
use Rattle.vdr_entry.specs.Escape.{escaped}
use Rattle.vdr_entry.specs.Utc.{utc_text}
use Rattle.vdr_durability.specs.Sources.{Source}

-- The record at which a line is told.
pub record Mark : Type 0 where
  pub place : ℕ
  pub utc : ℤ
  pub tick : ℕ

abbrev pub mark_of : Record → Mark
mark_of r = record { place = r.place; utc = r.utc; tick = r.tick }

-- PLACE UTC WORD GROUP SOURCE, and a space.
unfoldable pub front_text : Mark → (word : List ℕ) → Source → List ℕ
front_text m word source = concat (decimal m.place ∷ codes " " ∷ utc_text m.utc ∷ word ∷ group_name source.group ∷ codes " " ∷ source.name ∷ codes " " ∷ [])

abbrev pub letter_text : Option ℕ → List ℕ
letter_text None = codes "null"
letter_text (Some letter) = letter ∷ []

abbrev pub raw_text : Option (List ℕ) → List ℕ
raw_text None = codes "null"
raw_text (Some bytes) = escaped bytes
