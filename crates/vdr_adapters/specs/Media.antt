-- Two media as files, as their clauses see them (this project's profile).
use Rattle.std.specs.Prelude.{◌≡◌, ◌≢◌, ℕ, List, [], ◌∷◌}
use Rattle.vdr_outside.specs.Disk.{Disk}
use Rattle.vdr_outside.specs.Untold.{sizes_alone}
use Rattle.vdr_adapters.specs.Files.{Place, place_of}
use Rattle.vdr_adapters.specs.declared.file.FileMedium.{FileMedium}
use Rattle.vdr_adapters.specs.declared.media.FileMedia.{FileMedia}

module _ {F : Type 0} where
  abbrev pub place_in : FileMedium F → Place F
  place_in medium = place_of medium.state medium.file

  -- Files tell neither contents nor images.
  abbrev pub disk_of : FileMedia F → Disk ⊥ ⊥
  disk_of media = sizes_alone (media.capsule.size ∷ media.long_term.size ∷ [])

  abbrev pub faults_of : FileMedia F → List ℕ
  faults_of media = media.capsule.faults ∷ media.long_term.faults ∷ []

  abbrev pub read_of : FileMedia F → List ℕ
  read_of media = media.capsule.bytes_read ∷ media.long_term.bytes_read ∷ []

  -- This was done on medium m, the capsule or else the long-term medium, and nothing on the other one.
  pub record OnOwn (m : ℕ) (old new : FileMedia F) (Does : FileMedium F → FileMedium F → Type 0) : Type 0 where
    pub capsule : m ≡ 0 → Does old.capsule new.capsule × (new.long_term ≡ old.long_term)
    pub long_term : m ≢ 0 → Does old.long_term new.long_term × (new.capsule ≡ old.capsule)
