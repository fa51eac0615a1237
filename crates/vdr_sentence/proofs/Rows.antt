-- Worked examples, by computation.
use Rattle.std.proofs.Common.{◌≡◌, ◌++◌, ℕ, List, [], ◌∷◌, Some, None, Ok, refl, codes, replicate}
use Rattle.vdr_bytes.specs.Checksum.{checksum}
use Rattle.vdr_sentence.specs.declared.bad.Bad.TheVariants.{Start, Length, Character, Address, Missing, Wrong}
use Rattle.vdr_sentence.specs.Fields.{field, field_count}
use Rattle.vdr_sentence.specs.Refusals.{body, body_refusal, first_refusal, frame_refusal, reading, writing_refusal}
use Rattle.vdr_sentence.specs.Sentences.{written_text}

-- A text and CR LF.
abbrev line : List ℕ → List ℕ
line text = text ++ 13 ∷ 10 ∷ []

pub heading_checksum : checksum (codes "GPHDT,123.456,T") ≡ 0x32
heading_checksum = refl

pub heading_written : written_text 36 (codes "GPHDT,123.456,T") ≡ line (codes "$GPHDT,123.456,T*32")
heading_written = refl

pub heading_read : reading (line (codes "$GPHDT,123.456,T*32")) ≡ Ok (record { start = 36; content = codes "GPHDT,123.456,T" })
unfolding reading frame_refusal body_refusal body
heading_read = refl

-- Digits in lower case.
pub ais_read : reading (line (codes "!AIVDM,1,1,,B,177KQJ5000G?tO`K>RA1wUbN0TKH,0*5c")) ≡ Ok (record { start = 33; content = codes "AIVDM,1,1,,B,177KQJ5000G?tO`K>RA1wUbN0TKH,0" })
unfolding reading frame_refusal body_refusal body
ais_read = refl

-- The fields of a position, one of them empty.
pub position_count : field_count (codes "GPGLL,4916.45,N,12311.12,W,225444,A,") ≡ 7
position_count = refl

pub position_fields : (field 0 (codes "GPGLL,4916.45,N") ≡ None) × (field 1 (codes "GPGLL,4916.45,N") ≡ Some (codes "4916.45")) × (field 2 (codes "GPGLL,4916.45,") ≡ Some []) × (field 3 (codes "GPGLL,4916.45,N") ≡ None)
position_fields = (refl, refl, refl, refl)

-- The refusals in their order, each where later ones hold too.
pub refusals_in_order :
    (first_refusal [] ≡ Some Start)
    × (first_refusal (codes "GP~HDT") ≡ Some Start)
    × (first_refusal (codes "$GP~HDT") ≡ Some Length)
    × (first_refusal (line (codes "$GP~HD")) ≡ Some Character)
    × (first_refusal (line (codes "$GPHD,123.456,T")) ≡ Some Address)
    × (first_refusal (line (codes "$GPHDT,123.456,T")) ≡ Some Missing)
    × (first_refusal (line (codes "$GPHDT,123.456,T*33")) ≡ Some (Wrong 0x33 0x32))
unfolding frame_refusal body_refusal body
refusals_in_order = (refl, refl, refl, refl, refl, refl, refl)

-- The `*` stands before two bytes. Those that are no digits are no checksum.
pub refused_fields :
    (first_refusal (line (codes "$GPHDT,123.456,T*3")) ≡ Some Character)
    × (first_refusal (line (codes "$GPHDT,123*456,T*32")) ≡ Some Character)
    × (first_refusal (line (codes "$GPHDT,123.456,T*3G")) ≡ Some Missing)
unfolding frame_refusal body_refusal body
refused_fields = (refl, refl, refl)

-- 82 bytes are the most.
pub longest :
    (first_refusal (line (codes "$GPTXT," ++ replicate 70 49 ++ codes "*63")) ≡ None)
    × (first_refusal (line (codes "$GPTXT," ++ replicate 71 49 ++ codes "*52")) ≡ Some Length)
unfolding frame_refusal body_refusal body
longest = (refl, refl)

-- A code stands for its character. One digit makes no code.
pub character_codes :
    (first_refusal (line (codes "$GPHDT,^24,T*43")) ≡ None)
    × (first_refusal (line (codes "$GPHDT,^2,T*77")) ≡ Some Character)
unfolding frame_refusal body_refusal body
character_codes = (refl, refl)

-- A proprietary address has four bytes and more, also five.
pub proprietary :
    (first_refusal (line (codes "$PGRME,15.0,M,45.0,M,25.0,M*1C")) ≡ None)
    × (first_refusal (line (codes "$PABC,1*0D")) ≡ None)
    × (first_refusal (line (codes "$PAB,1*4E")) ≡ Some Address)
unfolding frame_refusal body_refusal body
proprietary = (refl, refl, refl)

-- What is not written.
pub not_written :
    (writing_refusal 0 (codes "GP~HD") ≡ Some Start)
    × (writing_refusal 36 (replicate 77 126) ≡ Some Length)
    × (writing_refusal 36 (codes "GP~HD") ≡ Some Character)
    × (writing_refusal 36 (codes "GPHDT,1*2") ≡ Some Character)
    × (writing_refusal 36 (codes "GPHD") ≡ Some Address)
unfolding writing_refusal
not_written = (refl, refl, refl, refl, refl)
