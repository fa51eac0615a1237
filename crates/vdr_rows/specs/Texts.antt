-- A table of values as text (RFC 4180, but each record ends with LF alone).
use Rattle.std.specs.Prelude.{ℕ, Bool, true, false, ◌==◌, List, [], ◌∷◌, ◌++◌, Option, Some, None, codes, decimal, flat_map, if◌then◌else◌}
use Rattle.vdr_terms.specs.Groups.{group_name}
use Rattle.vdr_terms.specs.Records.{Record}
use Rattle.vdr_entry.specs.Utc.{utc_text}
use Rattle.vdr_rows.specs.declared.decimal.Decimal.{Decimal}
use Rattle.vdr_rows.specs.Decimals.{decimal_text}
use Rattle.vdr_rows.specs.Values.{Said}

-- What the rows of a line have in common: the record's stamp, its place, the name of its transmission group, the source of the TAG block, and the
-- address of the sentence.
pub record Heading : Type 0 where
  pub utc : List ℕ
  pub place : List ℕ
  pub group : List ℕ
  pub source : List ℕ
  pub sentence : List ℕ

-- Start and Stop belong to no group.
abbrev pub heading_of : Record → (source sentence : List ℕ) → Heading
heading_of r source sentence = record { utc = utc_text r.utc; place = decimal r.place; group = group_name r.group; source = source; sentence = sentence }

-- A row of the table.
pub record Row : Type 0 where
  pub heading : Heading
  pub said : Said

-- In a field in quotes a quote stands twice.
abbrev pub doubled_byte : ℕ → List ℕ
doubled_byte b = if b == 34 then 34 ∷ 34 ∷ [] else b ∷ []

abbrev pub doubled : List ℕ → List ℕ
doubled text = flat_map doubled_byte text

-- A field in quotes; none where it is empty.
abbrev pub quoted : List ℕ → List ℕ
quoted [] = []
quoted (b ∷ text) = 34 ∷ (doubled (b ∷ text) ++ 34 ∷ [])

abbrev pub number_text : Option Decimal → List ℕ
number_text None = []
number_text (Some number) = decimal_text number

abbrev pub valid_text : Option Bool → List ℕ
valid_text None = []
valid_text (Some false) = codes "0"
valid_text (Some true) = codes "1"

-- utc, place, transmission_group, source, sentence, item, name, value, unit, valid, text
abbrev pub fields_of : Heading → Said → List (List ℕ)
fields_of h s =
    h.utc ∷ h.place ∷ h.group ∷ quoted h.source ∷ h.sentence ∷ s.item ∷ s.name ∷ number_text s.number ∷ s.measure ∷ valid_text s.valid ∷ quoted s.words ∷ []

-- Fields with a comma between, and LF.
abbrev pub joined : List (List ℕ) → List ℕ
joined [] = []
joined (field ∷ []) = field ++ 10 ∷ []
joined (field ∷ next ∷ fields) = field ++ 44 ∷ joined (next ∷ fields)

unfoldable pub row_text : Heading → Said → List ℕ
row_text h s = joined (fields_of h s)

abbrev pub rows_text : List Row → List ℕ
rows_text rows = flat_map (λ row. row_text row.heading row.said) rows

abbrev pub table_header : List ℕ
table_header = codes "utc,place,transmission_group,source,sentence,item,name,value,unit,valid,text\n"
