-- What a sentence is (IEC 61162-1).
use Rattle.std.specs.Prelude.{◌≡◌, ◌≤◌, ◌++◌, ℕ, true, List, [], ◌∷◌, length}
use Rattle.vdr_bytes.specs.Digits.{upper_digits}
use Rattle.vdr_bytes.specs.Checksum.{HasField, checksum}
use Rattle.vdr_sentence.specs.Characters.{is_start, is_character, each_passes}
use Rattle.vdr_sentence.specs.Addresses.{is_address, address_of}

-- A start and a content that make a sentence. With six bytes around the content it has at most 82.
pub record IsContent (start : ℕ) (content : List ℕ) : Type 0 where
  pub begins : is_start start ≡ true
  pub short : length content ≤ 76
  pub characters : each_passes is_character content ≡ true
  pub address : is_address (address_of content) ≡ true

-- The bytes are the sentence with this start and content: the start, the content, the checksum field of the content, CR LF.
pub record IsSentence (bytes : List ℕ) (start : ℕ) (content : List ℕ) : Type 0 where
  pub legal : IsContent start content
  pub body : List ℕ
  pub checksum : HasField body content (checksum content)
  pub spelled : bytes ≡ start ∷ (body ++ 13 ∷ 10 ∷ [])

-- The sentence that is written: its checksum has upper-case digits.
abbrev pub written_text : (start : ℕ) (content : List ℕ) → List ℕ
written_text start content = start ∷ (content ++ 42 ∷ (upper_digits (checksum content) ++ 13 ∷ 10 ∷ []))
