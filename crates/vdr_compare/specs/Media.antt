-- What a comparison says of two media, whatever their bytes are (this project's profile).
use Rattle.std.specs.Prelude.{◌≡◌, ◌<◌, ◌≤◌, ℕ, Bool, List, Option, Result, Ok, Err, sum}
use Rattle.vdr_config.specs.Sizes.{window_of}
use Rattle.vdr_outside.specs.Causes.{NoneFalls, Rose}
use Rattle.vdr_outside.specs.Disk.{Image, content}
use Rattle.vdr_outside.specs.declared.fault.PartRefused.TheVariants as parts
use Rattle.vdr_rescue.specs.Alones.{RefusesAlone, Rescue, Rescued}
use Rattle.vdr_compare.specs.declared.comparing.CompareRefused.TheVariants as compares
use Rattle.vdr_compare.specs.declared.difference.Verdict.{Verdict}
use Rattle.vdr_compare.specs.declared.media.MediaRefused.{MediaRefused}
use Rattle.vdr_compare.specs.declared.media.MediaRefused.TheVariants.{Opening, Comparing}
use Rattle.vdr_compare.specs.declared.standing.Standing.{Standing}
use Rattle.vdr_compare.specs.declared.standing.Windows.{Windows}
use Rattle.vdr_compare.specs.Comparisons.{Compares, windows_of}
use Rattle.vdr_compare.specs.Conditions.{Condition}
use Rattle.vdr_compare.specs.Openings.{AreAlike}
use Rattle.vdr_compare.specs.Standings.{standings}

-- P holds of what the capsule and the long-term medium give, each read alone: of whether their configurations have the same text and of what
-- is found of each one, and of the windows and the places of their records.
abbrev pub OfBoth : Image → (P : Condition → Windows → List Standing → Type 0) → Type 0
OfBoth image P = (alike : Bool) × AreAlike (content image 0) (content image 1) alike
    × ((x y : Rescue) → Rescued 0 (content image 0) x → Rescued 1 (content image 1) y
    → P (record { alike = alike; capsule = x.findings; longterm = y.findings }) (windows_of (window_of x.config 0) (window_of y.config 1) x.given y.given) (standings x.given y.given))

-- The comparison was printed, or a front of it; or a medium can't be opened alone, and nothing was.
abbrev pub ComparesMedia : Image → (old new : Option (List ℕ)) → Result Verdict MediaRefused → Type 0
ComparesMedia image old new (Ok verdict) = OfBoth image (λ c w places. Compares c w places old new (Ok verdict))
ComparesMedia image old new (Err (Comparing why)) = OfBoth image (λ c w places. Compares c w places old new (Err why))
ComparesMedia image old new (Err (Opening parts.NoMemory)) = new ≡ old
ComparesMedia image old new (Err (Opening (parts.Damaged m offset))) = (new ≡ old) × (m < 2) × RefusesAlone m (content image m) offset
ComparesMedia image old new (Err (Opening parts.Fault)) = new ≡ old

-- Which object failed where there is an error.
pub record HasMediaCause {T : Type 0} (before now : List ℕ) (printed prints : ℕ) (result : Result T MediaRefused) : Type 0 where
  pub later : NoneFalls before now
  pub opening : result ≡ Err (Opening parts.Fault) → Rose (sum before) (sum now)
  pub fault : result ≡ Err (Comparing compares.Fault) → Rose (sum before) (sum now)
  pub written : printed ≤ prints
  pub output : result ≡ Err (Comparing compares.Output) → Rose printed prints
