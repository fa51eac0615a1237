-- The header of an image datagram (this project's profile; it is not the binary header of IEC 61162-450).
use Rattle.std.specs.Prelude.{◌≡◌, ◌<◌, ◌≤◌, ◌^◌, ◌&&◌, ◌==◌, ℕ, Bool, true, List, length}
use Rattle.vdr_terms.specs.Texts.{are_graphic}

-- A part of an image: who sends it to whom, the number of its block, its own sequence number and the greatest of the block, and its data.
pub record Header : Type 0 where
  pub source : List ℕ
  pub destination : List ℕ
  pub block : ℕ
  pub sequence : ℕ
  pub greatest : ℕ
  pub body : List ℕ

-- Six bytes of 0x21 to 0x7E, as the system function identifier `EI0001` of IEC 61162-450.
abbrev pub is_identifier : List ℕ → Bool
is_identifier text = (length text == 6) && are_graphic text

-- A header of the profile.
pub record IsHeader (h : Header) : Type 0 where
  pub source : is_identifier h.source ≡ true
  pub destination : is_identifier h.destination ≡ true
  pub block : h.block < 2 ^ 32
  pub first : 1 ≤ h.sequence
  pub last : h.sequence ≤ h.greatest
  pub most : h.greatest ≤ 65_535
