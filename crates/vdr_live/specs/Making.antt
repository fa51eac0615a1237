-- The sizes of the media that a configuration asks for (this project's profile).
use Rattle.std.specs.Prelude.{◌≡◌, ◌≤◌, ◌⊎◌, ℕ}
use Rattle.vdr_terms.specs.Needs.{Fits, needed_slots}
use Rattle.vdr_config.specs.declared.media.TooSmall.{TooSmall}
use Rattle.vdr_config.specs.Configuration.{Configuration}
use Rattle.vdr_config.specs.Sizes.{sizes_of}

-- A medium of this size has the slots that it needs, and no smaller one has.
abbrev pub IsLeast : Configuration → (m size : ℕ) → Type 0
IsLeast c m size = Fits (sizes_of c) m size × ((other : ℕ) → Fits (sizes_of c) m other → size ≤ other)

-- No medium has them.
abbrev pub NoneFits : Configuration → (m : ℕ) → Type 0
NoneFits c m = (size : ℕ) → Fits (sizes_of c) m size → ⊥

-- The first of the capsule and the long-term medium that no size gives the slots that it needs, which are told, with none that it has.
pub record IsFirstLacking (c : Configuration) (small : TooSmall) : Type 0 where
  pub first : (small.medium ≡ 0) ⊎ ((small.medium ≡ 1) × ((size : ℕ) × Fits (sizes_of c) 0 size))
  pub none : NoneFits c small.medium
  pub need : small.need ≡ needed_slots (sizes_of c) small.medium
  pub have : small.have ≡ 0
