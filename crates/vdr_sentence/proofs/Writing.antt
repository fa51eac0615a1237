-- What is written is a sentence.
use Rattle.std.proofs.Common.{◌≡◌, ◌++◌, ◌∙◌, ◌/◌, ◌%◌, ℕ, not, List, [], ◌∷◌, length, Some, None, refl, sym, ap, append_assoc, ltb}
use Rattle.std.proofs.lemmas.Bool.{not-false, ltb-false}
use Rattle.vdr_bytes.specs.Digits.{hex_byte, upper_digit}
use Rattle.vdr_bytes.specs.Checksum.{checksum}
use Rattle.vdr_bytes.proofs.Refusals.{row_none}
use Rattle.vdr_sentence.specs.declared.bad.Bad.TheVariants.{Start, Length, Character, Address}
use Rattle.vdr_sentence.specs.Characters.{is_start, is_character, each_passes}
use Rattle.vdr_sentence.specs.Addresses.{is_address, address_of}
use Rattle.vdr_sentence.specs.Sentences.{IsContent, IsSentence, written_text}
use Rattle.vdr_sentence.specs.Refusals.{writing_refusal}

pub IsContent-from_none : (start : ℕ) (content : List ℕ) → writing_refusal start content ≡ None → IsContent start content
unfolding writing_refusal
IsContent-from_none start content h =
    let begins = row_none (not (is_start start)) Start _ h in
    let short = row_none (ltb 76 (length content)) Length _ begins.1 in
    let characters = row_none (not (each_passes is_character content)) Character _ short.1 in
    let address = row_none (not (is_address (address_of content))) Address _ characters.1 in
    record {
      begins = not-false (is_start start) begins.0;
      short = ltb-false 76 (length content) short.0;
      characters = not-false (each_passes is_character content) characters.0;
      address = not-false (is_address (address_of content)) address.0;
    }

pub IsSentence-written : (bytes : List ℕ) (start : ℕ) (content : List ℕ) → IsContent start content
    → hex_byte (upper_digit (checksum content / 16)) (upper_digit (checksum content % 16)) ≡ Some (checksum content)
    → bytes ≡ written_text start content → IsSentence bytes start content
IsSentence-written bytes start content legal digits written =
    let high = upper_digit (checksum content / 16) in
    let low = upper_digit (checksum content % 16) in
    record {
      legal = legal;
      body = content ++ 42 ∷ high ∷ low ∷ [];
      checksum = record { high = high; low = low; spelled = refl; digits = digits };
      spelled = written ∙ ap (λ xs. start ∷ xs) (sym (append_assoc content (42 ∷ high ∷ low ∷ []) (13 ∷ 10 ∷ [])));
    }
