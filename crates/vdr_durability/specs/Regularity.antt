-- Regular media: each by itself, as it is and restored, and how far the live incidents span (this project's profile).
use Rattle.std.specs.Prelude.{ℕ, ◌≤◌, ◌≡◌, List, [], ◌∷◌, ◌++◌, All}
use Rattle.vdr_terms.specs.Order.{AreInOrder}
use Rattle.vdr_terms.specs.Needs.{Sizes, cost, usable}
use Rattle.vdr_durability.specs.Layout.{Batches, batches_size_at, batches_in}
use Rattle.vdr_durability.specs.Regular.{IsRegular}
use Rattle.vdr_durability.specs.Victims.{ArePinsOf}
use Rattle.vdr_durability.specs.Readings.{Reading, records_on, restored}
use Rattle.vdr_durability.specs.Shown.{pins_on}

-- The segments of a medium, in order of sequence number. A medium without a segment has an empty newest one.
pub record Layout : Type 0 where
  pub older : List Batches
  pub newest : Batches

abbrev pub segments_of : Layout → List Batches
segments_of layout = layout.older ++ layout.newest ∷ []

-- Medium m has the batches of these segments, and is regular as it is.
pub record IsRegularAsRead (sizes : Sizes) (reading : Reading) (m : ℕ) (layout : Layout) : Type 0 where
  pub laid_out : reading.batches m ≡ batches_in (segments_of layout)
  pub segments : IsRegular (cost sizes) (usable sizes) sizes.batch layout.older layout.newest

-- It is regular as it is and restored, with pins that the configuration allows.
pub record IsRegularMember (sizes : Sizes) (members : List ℕ) (reading : Reading) (m : ℕ) (layout : Layout) : Type 0 where
  pub as_read : IsRegularAsRead sizes reading m layout
  pub order : AreInOrder (records_on (restored members reading) m)
  pub paced : (s : ℕ) → batches_size_at s ((restored members reading).batches m) ≤ cost sizes
  pub pins : ArePinsOf sizes m (records_on (restored members reading) m) (pins_on m reading.table)

-- The media are regular.
abbrev pub AreRegular : Sizes → List ℕ → (ℕ → Layout) → Reading → Type 0
AreRegular sizes members layouts reading = All (λ m. IsRegularMember sizes members reading m (layouts m)) members
