-- Escaped bytes, piece by piece.
use Rattle.std.proofs.Common.{◌≡◌, ◌<◌, ◌/◌, ◌%◌, ◌+◌, ℕ, suc, Bool, true, false, cond, List, [], ◌∷◌, ◌++◌, length, take, drop, take_while, slice_index, refl, sym, ap, ◌∙◌, subst, arith}
use Rattle.std.proofs.Math.Seq.{take-add}
use Rattle.std.proofs.lemmas.Grind.{flat_map-append}
use Rattle.std.proofs.lemmas.List.{take-append-drop}
use Rattle.std.proofs.lemmas.List.Sums.{take_while-cons}
use Rattle.vdr_entry.specs.Escape.{escaped, escaped_byte, hex_digit, is_plain}

-- the rest behind the bytes that were printed
pub escaped-cut : (n : ℕ) (bytes : List ℕ) → escaped bytes ≡ escaped (take n bytes) ++ escaped (drop n bytes)
escaped-cut n bytes = ap escaped (sym (take-append-drop n bytes)) ∙ flat_map-append escaped_byte (take n bytes) (drop n bytes)

abbrev four : ℕ → List ℕ
four b = 60 ∷ hex_digit (b / 16) ∷ hex_digit (b % 16) ∷ 62 ∷ []

escaped_byte-at : (b : ℕ) (v : Bool) → is_plain b ≡ v → escaped_byte b ≡ cond v (b ∷ []) (four b)
escaped_byte-at b v is = ap (λ (w : Bool). cond w (b ∷ []) (four b)) is

plain_front : List ℕ → ℕ
plain_front bytes = length (take_while is_plain bytes)

plain_front-at : (b : ℕ) (bytes : List ℕ) (v : Bool) → is_plain b ≡ v → plain_front (b ∷ bytes) ≡ length (cond v (b ∷ take_while is_plain bytes) [])
unfolding plain_front
plain_front-at b bytes v is = ap length (take_while-cons is_plain b bytes) ∙ ap (λ (w : Bool). length (cond w (b ∷ take_while is_plain bytes) [])) is

-- a run of plain bytes stands for itself
run : (bytes : List ℕ) → escaped (take (plain_front bytes) bytes) ≡ take (plain_front bytes) bytes
unfolding plain_front
run [] = refl
run (b ∷ bytes) =
    let rest : escaped (take (plain_front bytes) bytes) ≡ take (plain_front bytes) bytes = run bytes in
    let by : (v : Bool) → is_plain b ≡ v → escaped (take (plain_front (b ∷ bytes)) (b ∷ bytes)) ≡ take (plain_front (b ∷ bytes)) (b ∷ bytes) =
    λ v. elim v as (λ w. is_plain b ≡ w → escaped (take (plain_front (b ∷ bytes)) (b ∷ bytes)) ≡ take (plain_front (b ∷ bytes)) (b ∷ bytes)) [
      | true ↦ λ is.
          subst (λ (n : ℕ). escaped (take n (b ∷ bytes)) ≡ take n (b ∷ bytes)) (sym (plain_front-at b bytes true is))
          (ap (λ (xs : List ℕ). xs ++ escaped (take (plain_front bytes) bytes)) (escaped_byte-at b true is) ∙ ap (λ (xs : List ℕ). b ∷ xs) rest)
      | false ↦ λ is. subst (λ (n : ℕ). escaped (take n (b ∷ bytes)) ≡ take n (b ∷ bytes)) (sym (plain_front-at b bytes false is)) refl
    ] in
    by (is_plain b) refl

pub escaped-run : (bytes : List ℕ) (n : ℕ) → n ≡ length (take_while is_plain bytes) → escaped (take n bytes) ≡ take n bytes
unfolding plain_front
escaped-run bytes n is = subst (λ (m : ℕ). escaped (take m bytes) ≡ take m bytes) (sym is) (run bytes)

some_plain : (b : ℕ) (bytes : List ℕ) (n : ℕ) → n ≡ length (take_while is_plain (b ∷ bytes)) → n ≡ 0 → is_plain b ≡ true → ⊥
unfolding plain_front
some_plain b bytes n is none at = let more : 0 ≡ suc (length (take_while is_plain bytes)) = sym none ∙ is ∙ plain_front-at b bytes true at in omega (arith, more)

-- where there is none, the first byte is escaped
pub escaped-first : (bytes : List ℕ) (n high low : ℕ) → n ≡ length (take_while is_plain bytes) → n ≡ 0 → 0 < length bytes
    → high ≡ hex_digit (slice_index bytes 0 / 16) → low ≡ hex_digit (slice_index bytes 0 % 16) → escaped (take 1 bytes) ≡ 60 ∷ high ∷ low ∷ 62 ∷ []
escaped-first [] n high low is none some e f = absurd (omega (arith, some))
escaped-first (b ∷ bytes) n high low is none some e f =
    let by : (v : Bool) → is_plain b ≡ v → escaped_byte b ≡ four b =
    λ v. elim v as (λ w. is_plain b ≡ w → escaped_byte b ≡ four b) [
      | true ↦ λ at. absurd (some_plain b bytes n is none at)
      | false ↦ λ at. escaped_byte-at b false at
    ] in
    ap (λ (xs : List ℕ). xs ++ []) (by (is_plain b) refl) ∙ ap (λ (m : ℕ). 60 ∷ m ∷ hex_digit (b % 16) ∷ 62 ∷ []) (sym e) ∙ ap (λ (m : ℕ). 60 ∷ high ∷ m ∷ 62 ∷ []) (sym f)

-- one piece more of bytes that are printed up to here
pub escaped-more : (bytes : List ℕ) (done n : ℕ) → escaped (take (done + n) bytes) ≡ escaped (take done bytes) ++ escaped (take n (drop done bytes))
escaped-more bytes done n = ap escaped (take-add done n bytes) ∙ flat_map-append escaped_byte (take done bytes) (take n (drop done bytes))
