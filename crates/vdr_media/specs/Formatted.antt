-- Whether media are formatted, and with an empty history.
use Rattle.std.specs.Prelude.{◌≡◌, ◌≢◌, ◌⊎◌, ℕ, ◌<◌, ◌≤◌, List, ◌∷◌, length, All}
use Rattle.std.specs.List.{range_with_len}
use Rattle.vdr_segment.specs.Gates.{IsOpenAt}
use Rattle.vdr_outside.specs.Disk.{Image, content}
use Rattle.vdr_config.specs.Configuration.{Configuration}
use Rattle.vdr_terms.specs.Slots.{slots_from}
use Rattle.vdr_media.specs.Layout.{IsClosedAt}
use Rattle.vdr_media.specs.Medium.{IsEmptyMedium}

-- The media of a recording, by number: the capsule leads, and a batch goes to the long-term medium after it, and then to so many
-- further ones. Whatever else there is is left alone.
abbrev pub members_with : (further : ℕ) → List ℕ
members_with further = 0 ∷ 1 ∷ range_with_len 2 further

-- How many further media the image says that there are: none in this version.
abbrev pub further_in : Image → ℕ
further_in image = 0

abbrev pub members_in : Image → List ℕ
members_in image = members_with (further_in image)

-- The media of this version.
abbrev pub members : List ℕ
members = members_with 0

-- Medium 0 decides: the media are formatted exactly where it has room for all that stands before the segments and its gate is open.
pub record IsFormatted (image : Image) : Type 0 where
  pub room : slots_from ≤ length (content image 0)
  pub gate : IsOpenAt (content image 0) 0

abbrev pub IsUnformatted : Image → Type 0
IsUnformatted image = (length (content image 0) < slots_from) ⊎ IsClosedAt (content image 0) 0

-- Each of these media is formatted with this configuration and holds nothing.
pub record IsEmptyHistory (members : List ℕ) (c : Configuration) (text : List ℕ) (image : Image) : Type 0 where
  pub each : All (λ m. IsEmptyMedium m c text (content image m)) members

-- The same with the configuration that the text is.
abbrev pub IsEmptyHistoryOf : List ℕ → List ℕ → Image → Type 0
IsEmptyHistoryOf members text image = (c : Configuration) × IsEmptyHistory members c text image

-- One of these images, as far as the other media go.
pub record SameBeside (members : List ℕ) (from : Image → Type 0) (i : Image) : Type 0 where
  pub image : Image
  pub was : from image
  pub same : (k : ℕ) → All (λ m. k ≢ m) members → content i k ≡ content image k
