-- The rows of a page that tell what `watch` prints (this project's profile): one for each line, `["watch",LINE]`.
use Rattle.std.specs.Prelude.{ℕ, Bool, false, not, ◌==◌, List, [], ◌∷◌, ◌++◌, codes, if◌then◌else◌}
use Rattle.vdr_page.specs.Strings.{escaped}

-- A byte of a text of lines. The first one of a line begins a row, and the line's end ends it.
unfoldable pub line_byte : (within : Bool) → (byte : ℕ) → List ℕ
line_byte within byte = (if within then [] else codes "[\"watch\",\"") ++ (if byte == 10 then codes "\"],\n" else escaped byte)

-- The rows of a text, the first byte of which stands within a line or at the begin of one.
abbrev pub rows_within : (within : Bool) → (text : List ℕ) → List ℕ
rows_within within [] = []
rows_within within (byte ∷ text) = line_byte within byte ++ rows_within (not (byte == 10)) text

-- The rows of a text of whole lines.
abbrev pub watch_rows : (text : List ℕ) → List ℕ
watch_rows text = rows_within false text
