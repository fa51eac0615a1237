-- Lines that are no signs, by their addresses.
use Rattle.std.proofs.Common.{◌≡◌, ◌∙◌, ◌||◌, ℕ, Bool, true, false, cond, List, drop, Option, Some, None, Result, Ok, Err, bytes_eq, codes, refl, ap, eqb, get_or}
use Rattle.std.specs.Prelude.{option_map}
use Rattle.vdr_sentence.specs.Addresses.{address_of}
use Rattle.vdr_values.specs.Readings.{fields_of, read_as, read_by, reading, with_values}
use Rattle.vdr_values.specs.Rows.{Row}
use Rattle.vdr_values.specs.Table.{row_for, row_named}
use Rattle.vdr_values.specs.Values.{Value}
use Rattle.vdr_values.proofs.Lookups.{named-good}
use Rattle.vdr_durability.specs.Sources.{Source}
use Rattle.vdr_datagram.specs.Verdicts.{LineReading, Good, Tag, Sentence}
use Rattle.vdr_alerts.specs.Alerts.{Saying}
use Rattle.vdr_sources.specs.Tables.{named}
use Rattle.vdr_watch.specs.Signs.{Says, Sign, code_in, sign_in, sign_read, sign_told}
use Rattle.vdr_watch.specs.Watched.{is_watched, watches}

off : (a b c d : Bool) (x y : Option Sign) (z w : Option Saying) → (a || (b || (c || d))) ≡ false → cond a x (cond b y (option_map Says (cond c z (cond d w None)))) ≡ None
off true b c d x y z w h = absurd (cc)
off false true c d x y z w h = absurd (cc)
off false false true d x y z w h = absurd (cc)
off false false false true x y z w h = absurd (cc)
off false false false false x y z w h = refl

row_behind : (address : List ℕ) (row : Row) → row_for address ≡ Some row → row_named (drop 2 address) ≡ Some row
row_behind address row h = by_test (eqb (get_or address 0 0) 80) h
  where
    by_test : (t : Bool) → cond t None (row_named (drop 2 address)) ≡ Some row → row_named (drop 2 address) ≡ Some row
    by_test true h = absurd (cc)
    by_test false h = h

none_told : (formatter : List ℕ) (source : Source) (code : Option ℕ) (tick : ℕ) (values : List (Option Value)) → watches formatter ≡ false → sign_told formatter source code tick values ≡ None
none_told formatter source code tick values h =
    off (bytes_eq formatter (codes "HBT")) (bytes_eq formatter (codes "ALR")) (bytes_eq formatter (codes "ALF")) (bytes_eq formatter (codes "ALC")) _ _ _ _ h

none_read : (source : Source) (code : Option ℕ) (tick : ℕ) (content : List ℕ) → watches (drop 2 (address_of content)) ≡ false → sign_read source code tick (reading content) ≡ None
unfolding reading
none_read source code tick content h = by_row (row_for (address_of content)) refl
  where
    by_values : (row : Row) (read : Result (List (Option Value)) ℕ) → watches row.formatter ≡ false → sign_read source code tick (with_values row read) ≡ None
    by_values row (Ok values) plain = none_told row.formatter source code tick values plain
    by_values row (Err bad) plain = refl

    by_row : (o : Option Row) → row_for (address_of content) ≡ o → sign_read source code tick (read_as o (fields_of content)) ≡ None
    by_row None e = refl
    by_row (Some row) e =
        let named_is : row.formatter ≡ drop 2 (address_of content) = (named-good _ row (row_behind (address_of content) row e)).0 in
        by_values row (read_by row (fields_of content)) (ap watches named_is ∙ h)

-- A line of another formatter is no sign.
pub nothing_shown : (group tick : ℕ) (line : LineReading) → is_watched line ≡ false → sign_in group tick line ≡ None
nothing_shown group tick (Good tags sentence) h = none_read (record { group = group; name = named tags.source }) (code_in tags.group) tick sentence.content h
nothing_shown group tick (Tag bad) h = refl
nothing_shown group tick (Sentence tags bad) h = refl
