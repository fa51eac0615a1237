-- A checksum field at the end: what is written there, and how it is spelled.
use Rattle.std.proofs.Common.{◌≡◌, ◌++◌, ◌∙◌, ◌-◌, ℕ, Bool, true, false, cond, List, [], ◌∷◌, length, drop, Some, None, refl, sym, ap, arith, length-append, eqb}
use Rattle.std.proofs.Math.Seq.{drop-append_seam, take-append_seam}
use Rattle.std.proofs.lemmas.Bool.{eqb-true}
use Rattle.std.proofs.lemmas.List.{take-append-drop}
use Rattle.vdr_bytes.specs.Digits.{hex_byte}
use Rattle.vdr_bytes.specs.Checksum.{HasField, field_value, written, covered}

-- The bytes are `*` and two digits that write the sum.
pub record IsField (bytes : List ℕ) (sum : ℕ) : Type 0 where
  pub high : ℕ
  pub low : ℕ
  pub spelled : bytes ≡ 42 ∷ high ∷ low ∷ []
  pub digits : hex_byte high low ≡ Some sum

pub IsField-from_value : (bytes : List ℕ) (sum : ℕ) → field_value bytes ≡ Some sum → IsField bytes sum
IsField-from_value [] sum h = absurd (cc)
IsField-from_value (a ∷ []) sum h = absurd (cc)
IsField-from_value (a ∷ b ∷ []) sum h = absurd (cc)
IsField-from_value (a ∷ b ∷ c ∷ d ∷ rest) sum h = absurd (cc)
IsField-from_value (star ∷ high ∷ low ∷ []) sum h = by_test (eqb star 42) refl h
  where
    by_test : (t : Bool) → eqb star 42 ≡ t → cond t (hex_byte high low) None ≡ Some sum → IsField (star ∷ high ∷ low ∷ []) sum
    by_test true e h = record { high = high; low = low; spelled = λ i. eqb-true star 42 e i ∷ high ∷ low ∷ []; digits = h }
    by_test false e h = absurd (cc)

pub HasField-from_written : (bytes : List ℕ) (sum : ℕ) → written bytes ≡ Some sum → HasField bytes (covered bytes) sum
HasField-from_written bytes sum h =
    let at_end = IsField-from_value (drop (length bytes - 3) bytes) sum h in
    record {
      high = at_end.high;
      low = at_end.low;
      spelled = sym (take-append-drop (length bytes - 3) bytes) ∙ ap (λ rest. covered bytes ++ rest) at_end.spelled;
      digits = at_end.digits;
    }

length_before : (text : List ℕ) (high low : ℕ) → length (text ++ 42 ∷ high ∷ low ∷ []) - 3 ≡ length text
length_before text high low = omega (arith, length-append text (42 ∷ high ∷ low ∷ []))

pub written-append : (text : List ℕ) (high low : ℕ) → written (text ++ 42 ∷ high ∷ low ∷ []) ≡ hex_byte high low
written-append text high low =
    rw (length_before text high low) (rw (drop-append_seam text (42 ∷ high ∷ low ∷ [])) refl)

pub covered-append : (text : List ℕ) (high low : ℕ) → covered (text ++ 42 ∷ high ∷ low ∷ []) ≡ text
covered-append text high low = rw (length_before text high low) (take-append_seam text (42 ∷ high ∷ low ∷ []))

pub written-from_HasField : (bytes text : List ℕ) (sum : ℕ) → HasField bytes text sum → written bytes ≡ Some sum
written-from_HasField bytes text sum h = ap written h.spelled ∙ written-append text h.high h.low ∙ h.digits

pub covered-from_HasField : (bytes text : List ℕ) (sum : ℕ) → HasField bytes text sum → covered bytes ≡ text
covered-from_HasField bytes text sum h = ap covered h.spelled ∙ covered-append text h.high h.low
