-- What a visitor prints of records, and what of it stands in the output when it stops.
use Rattle.std.specs.Prelude.{ℕ, List, [], ◌∷◌, ◌++◌, Option, Result, Ok, Err, ⊤}
use Rattle.std.specs.Io.KnownBytes.{Appends, Keeps}
use Rattle.vdr_terms.specs.Records.{Record}
use Rattle.vdr_outside.specs.Writes.{AppendsFront}
use Rattle.vdr_visit.specs.declared.visit_refused.VisitorRefused.{VisitorRefused}
use Rattle.vdr_visit.specs.declared.visit_refused.VisitorRefused.TheVariants.{Output, Own}

-- One step of a visitor printed this text, a front of it where the output failed, and nothing where it stopped by itself.
abbrev pub HasPrinted : {R : Type 0} → (text : List ℕ) → (was now : Option (List ℕ)) → Result ⊤ (VisitorRefused R) → Type 0
HasPrinted text was now (Ok done) = Appends was now text
HasPrinted text was now (Err Output) = AppendsFront was now text
HasPrinted text was now (Err (Own reason)) = Keeps was now

-- What is printed of these records behind those that were seen, by what is printed of each one.
abbrev pub lines_behind : (line : List Record → Record → List ℕ) → (seen records : List Record) → List ℕ
lines_behind line seen [] = []
lines_behind line seen (r ∷ rs) = line seen r ++ lines_behind line (seen ++ r ∷ []) rs

-- The text of these records.
abbrev pub text_of : (line : List Record → Record → List ℕ) → List Record → List ℕ
text_of line records = lines_behind line [] records

-- The text of these records, where they are all.
abbrev pub whole_text : (line : List Record → Record → List ℕ) → (last : List Record → List ℕ) → List Record → List ℕ
whole_text line last records = text_of line records ++ last records
