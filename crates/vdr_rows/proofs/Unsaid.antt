-- Which lines say nothing of a position, by the bytes of their datagram.
use Rattle.std.proofs.Common.{◌≡◌, ◌∙◌, ℕ, Bool, true, false, ◌||◌, List, [], ◌∷◌, drop, Option, Some, None, Result, Ok, Err, bytes_eq, refl, ap}
use Rattle.std.specs.List.{list_all}
use Rattle.std.proofs.lemmas.Slice.Eq.{bytes_eq-Decides}
use Rattle.vdr_sentence.specs.Addresses.{address_of}
use Rattle.vdr_values.specs.declared.column.Column.{Column}
use Rattle.vdr_values.specs.Readings.{fields_of, read_as, read_by, reading, with_values}
use Rattle.vdr_values.specs.Rows.{Row}
use Rattle.vdr_values.specs.Table.{row_for, row_named, table}
use Rattle.vdr_values.specs.Values.{Value}
use Rattle.vdr_values.proofs.Lookups.{find-passes}
use Rattle.vdr_datagram.specs.Verdicts.{LineReading, LineSpan, Good, Tag, Sentence, line_spans}
use Rattle.vdr_rows.specs.declared.fix.Fix.TheVariants.{Unsaid}
use Rattle.vdr_rows.specs.declared.seeking.Sought.TheVariants.{Position}
use Rattle.vdr_rows.specs.Fixes.{AreUnsaid, fix_by, fix_in, fix_where, latitude_of, longitude_of}
use Rattle.vdr_rows.specs.Seeking.{mentions}
use Rattle.vdr_rows.specs.Values.{Fields}
use Rattle.vdr_rows.proofs.Carried.{ArePlain, IsPlain, all_plain, row_behind}

-- ---- the table of sentences

abbrev lacks : Option Column → Bool
lacks None = true
lacks (Some c) = false

-- Each row with a latitude and a longitude is of a formatter that is looked for.
abbrev is_known : Row → Bool
is_known r = mentions Position r.formatter || (lacks (latitude_of r.columns) || lacks (longitude_of r.columns))

all_known : list_all is_known table ≡ true
unfolding table
all_known = refl

no_fix : (values : Fields) (latitude longitude : Option Column) → (lacks latitude || lacks longitude) ≡ true → fix_by values latitude longitude ≡ Unsaid
no_fix values None longitude h = refl
no_fix values (Some latitude) None h = refl
no_fix values (Some latitude) (Some longitude) h = absurd (cc)

plain_row : (name : List ℕ) (row : Row) → row_named name ≡ Some row → mentions Position name ≡ false → (lacks (latitude_of row.columns) || lacks (longitude_of row.columns)) ≡ true
plain_row name row found h =
    let p = find-passes (λ r. bytes_eq r.formatter name) is_known table row all_known found in
    let same : row.formatter ≡ name = (bytes_eq-Decides row.formatter name).0 p.0 in
    by_test (mentions Position row.formatter) (ap (mentions Position) same ∙ h) p.1
  where
    by_test : (t : Bool) → t ≡ false → (t || (lacks (latitude_of row.columns) || lacks (longitude_of row.columns))) ≡ true → (lacks (latitude_of row.columns) || lacks (longitude_of row.columns)) ≡ true
    by_test true e k = absurd (cc)
    by_test false e k = k

-- ---- lines

plain_read : (content : List ℕ) → mentions Position (drop 2 (address_of content)) ≡ false → fix_where (reading content) ≡ Unsaid
unfolding reading
plain_read content h = by_row (row_for (address_of content)) refl
  where
    by_values : (row : Row) (read : Result (List (Option Value)) ℕ) → (lacks (latitude_of row.columns) || lacks (longitude_of row.columns)) ≡ true → fix_where (with_values row read) ≡ Unsaid
    by_values row (Ok values) none = no_fix values (latitude_of row.columns) (longitude_of row.columns) none
    by_values row (Err bad) none = refl

    by_row : (o : Option Row) → row_for (address_of content) ≡ o → fix_where (read_as o (fields_of content)) ≡ Unsaid
    by_row None e = refl
    by_row (Some row) e = by_values row (read_by row (fields_of content)) (plain_row (drop 2 (address_of content)) row (row_behind (address_of content) row e) h)

plain_fix : (line : LineReading) → IsPlain Position line → fix_in line ≡ Unsaid
plain_fix (Good tags sentence) h = plain_read sentence.content h
plain_fix (Tag bad) h = refl
plain_fix (Sentence tags bad) h = refl

plain_unsaid : (spans : List LineSpan) → ArePlain Position spans → AreUnsaid spans
plain_unsaid [] all = tt
plain_unsaid (span ∷ spans) all = (plain_fix span.verdict all.0, plain_unsaid spans all.1)

pub all_unsaid : (payload : List ℕ) → mentions Position payload ≡ false → AreUnsaid (line_spans payload)
all_unsaid payload h = plain_unsaid (line_spans payload) (all_plain Position payload h)
