-- The parts of a content that is cut at its commas.
use Rattle.std.proofs.Common.{◌≡◌, ◌≤◌, ◌<◌, ◌+◌, ℕ, List, length, Option, Some, None, refl, arith, eqb, Bor, slice_get, get_or, ◌⊎◌, inl, inr, IsNone, option_copied}
use Rattle.std.proofs.lemmas.List.Splits.{length-slice_split}
use Rattle.std.proofs.lemmas.Option.{slice_get_cases, slice_get_past}
use Rattle.vdr_sentence.specs.Fields.{fields, field_count}

-- The address and the fields.
pub length-fields : (content : List ℕ) → length (fields content) ≡ field_count content + 1
length-fields content = length-slice_split (λ b. eqb b 44) content

pub none_above_count : (content : List ℕ) (n : ℕ) (part : Option (Bor (List ℕ))) → option_copied part ≡ slice_get (fields content) n → IsNone part → field_count content < n
none_above_count content n None e h = by_length (slice_get_cases (fields content) n).1
  where
    by_length : ((x : List ℕ) × (n < length (fields content)) × (slice_get (fields content) n ≡ Some x) × (get_or (fields content) n x ≡ x)) ⊎ ((length (fields content) ≤ n) × (slice_get (fields content) n ≡ None)) → field_count content < n
    by_length (inl inside) = absurd (cc (e, inside.2))
    by_length (inr past) = omega (arith, past.0, length-fields content)
none_above_count content n (Some x) e h = absurd (cc)

pub above_count_none : (content : List ℕ) (n : ℕ) (part : Option (Bor (List ℕ))) → option_copied part ≡ slice_get (fields content) n → field_count content < n → IsNone part
above_count_none content n None e h = refl
above_count_none content n (Some x) e h =
    let past : length (fields content) ≤ n = omega (arith, length-fields content) in
    let none = slice_get_past (fields content) n past in
    absurd (cc (e, none))
