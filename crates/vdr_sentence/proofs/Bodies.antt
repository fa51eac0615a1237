-- The body of a sentence against its content.
use Rattle.std.proofs.Common.{◌≡◌, ◌++◌, ◌∙◌, ◌+◌, ℕ, suc, Bool, true, false, ◌&&◌, ◌||◌, List, [], ◌∷◌, take, Some, refl, sym, ap, arith, length-append, eqb}
use Rattle.std.proofs.Math.Bool.{and_assoc, and-false}
use Rattle.std.proofs.lemmas.Bool.Decides.{nat_tests}
use Rattle.vdr_bytes.specs.Digits.{hex_byte, is_hex_digit}
use Rattle.vdr_bytes.proofs.HexLemmas.{AreHexDigits-from_byte}
use Rattle.vdr_sentence.specs.Characters.{begins_with_code, is_character, is_body_character, each_passes}
use Rattle.vdr_sentence.specs.Addresses.{address_of}

-- A checksum field behind the content makes no code at its end.
begins_with_code-before_star : (content rest : List ℕ) → begins_with_code (content ++ 42 ∷ rest) ≡ begins_with_code content
begins_with_code-before_star [] [] = refl
begins_with_code-before_star [] (x ∷ rest) = refl
begins_with_code-before_star (x ∷ []) rest = and-false (is_hex_digit x)
begins_with_code-before_star (x ∷ y ∷ more) rest = refl

is_body_character-before_star : (b : ℕ) (content : List ℕ) (high low : ℕ) → is_body_character b (content ++ 42 ∷ high ∷ low ∷ []) ≡ is_character b content
is_body_character-before_star b content high low =
    let code = begins_with_code-before_star content (high ∷ low ∷ []) in
    let long = length-append content (42 ∷ high ∷ low ∷ []) in
    grind (arith, nat_tests)

each_passes-before_star : (content : List ℕ) (high low : ℕ) → each_passes is_body_character (content ++ 42 ∷ high ∷ low ∷ []) ≡ (each_passes is_character content && each_passes is_body_character (42 ∷ high ∷ low ∷ []))
each_passes-before_star [] high low = refl
each_passes-before_star (b ∷ content) high low =
    (λ i. is_body_character-before_star b content high low i && each_passes-before_star content high low i)
    ∙ sym (and_assoc (is_character b content) (each_passes is_character content) (each_passes is_body_character (42 ∷ high ∷ low ∷ [])))

left_true : (a b : Bool) → (a && b) ≡ true → a ≡ true
left_true true b h = refl
left_true false b h = h

-- The characters of a content with its checksum field are those of the content.
pub characters_of_content : (content : List ℕ) (high low : ℕ) → each_passes is_body_character (content ++ 42 ∷ high ∷ low ∷ []) ≡ true → each_passes is_character content ≡ true
characters_of_content content high low h =
    left_true (each_passes is_character content) (each_passes is_body_character (42 ∷ high ∷ low ∷ [])) (sym (each_passes-before_star content high low) ∙ h)

hex_is_character : (b : ℕ) (after : List ℕ) → is_hex_digit b ≡ true → is_body_character b after ≡ true
hex_is_character b after h = grind (arith, nat_tests)

both_true : (a b : Bool) → a ≡ true → b ≡ true → (a && (b && true)) ≡ true
both_true a b ea eb = rw (ea, eb) refl

pub characters_of_body : (content : List ℕ) (high low sum : ℕ) → hex_byte high low ≡ Some sum → each_passes is_character content ≡ true → each_passes is_body_character (content ++ 42 ∷ high ∷ low ∷ []) ≡ true
characters_of_body content high low sum digits h =
    let hex = AreHexDigits-from_byte high low sum digits in
    each_passes-before_star content high low
    ∙ (λ i. h i && each_passes is_body_character (42 ∷ high ∷ low ∷ []))
    ∙ both_true (is_body_character high (low ∷ [])) (is_body_character low []) (hex_is_character high (low ∷ []) hex.first) (hex_is_character low [] hex.second)

pub take_one_more : (n b : ℕ) (bytes : List ℕ) → take (1 + n) (b ∷ bytes) ≡ b ∷ take n bytes
take_one_more n b bytes = let e : 1 + n ≡ suc n = omega arith in rw e refl

-- The address ends before the checksum field.
pub address_of-before_star : (content rest : List ℕ) → address_of (content ++ 42 ∷ rest) ≡ address_of content
address_of-before_star [] rest = refl
address_of-before_star (b ∷ content) rest = by_test (eqb b 44 || eqb b 42) refl (address_of-before_star content rest)
  where
    by_test : (t : Bool) → (eqb b 44 || eqb b 42) ≡ t → address_of (content ++ 42 ∷ rest) ≡ address_of content → address_of (b ∷ (content ++ 42 ∷ rest)) ≡ address_of (b ∷ content)
    by_test true e more = rw e refl
    by_test false e more = rw e (take_one_more _ b _ ∙ ap (λ xs. b ∷ xs) more ∙ sym (take_one_more _ b _))
