-- How many slots of a medium hold a segment, legal or not (this project's profile).
use Rattle.std.specs.Prelude.{◌≡◌, ◌↔◌, ◌+◌, ℕ, zero, suc, Bool, IsTrue, List, if◌then◌else◌}
use Rattle.vdr_segment.specs.declared.header.Header.{Header}
use Rattle.vdr_segment.specs.Gates.{IsOpenAt}
use Rattle.vdr_segment.specs.Headers.{IsHeader}
use Rattle.vdr_directory.specs.Opening.{front_bytes}

-- The first 64 bytes of a slot are those of a segment: an open gate, and a header behind it.
pub record IsUsed (bytes : List ℕ) : Type 0 where
  pub gate : IsOpenAt bytes 0
  pub header : Header
  pub is : IsHeader bytes header

-- So many of the first n slots hold one.
abbrev pub AreUsed : (segment : ℕ) → List ℕ → (n used : ℕ) → Type 0
AreUsed segment bytes zero used = used ≡ 0
AreUsed segment bytes (suc n) used =
    (here : Bool) × (IsTrue here ↔ IsUsed (front_bytes segment n bytes)) × (before : ℕ) × AreUsed segment bytes n before × (used ≡ (if here then before + 1 else before))
