-- Where records stand, and how many they are.
use Rattle.std.specs.Prelude.{ℕ, ◌+◌, ◌-◌, ◌^◌, min, List, [], ◌++◌, Option, None, Some, codes, decimal}
use Rattle.std.specs.List.{fold}
use Rattle.vdr_terms.specs.Records.{Record}
use Rattle.vdr_digest.specs.declared.span.Span.{Span}

-- with one more record. A count stands still at the greatest number of 64 bits
abbrev pub span_with : Option Span → Record → Option Span
span_with None r = Some (record { first = r.place; last = r.place; count = 1 })
span_with (Some s) r = Some (record { first = s.first; last = r.place; count = min (s.count + 1) (2 ^ 64 - 1) })

-- The places of the first and the last of these records, and how many they are; None where there is none.
abbrev pub span_of : List Record → Option Span
span_of records = fold span_with None records

-- as it is printed
abbrev pub span_text : Option Span → List ℕ
span_text None = codes "- - 0"
span_text (Some s) = decimal s.first ++ codes " " ++ decimal s.last ++ codes " " ++ decimal s.count
