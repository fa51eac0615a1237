-- What writes and syncs leave of media. It is the model of a disk of this project's profile: between two syncs each written range of
-- a medium may hold any bytes after a stop, and the bytes outside stay; after a sync that succeeded a stop leaves what a read gives.
-- Lists of steps stand the newest first.
use Rattle.std.specs.Prelude.{◌≡◌, ◌≤◌, ◌⊎◌, ℕ, Bool, true, false, List, [], ◌∷◌, length}
use Rattle.vdr_outside.specs.Disk.{Image, Overwritten, content, written}

-- A write or a sync, and whether it was done. Else it failed.
pub data Step : Type 0 where
  write : (medium at : ℕ) (bytes : List ℕ) (done : Bool) → Step
  sync : (medium : ℕ) (done : Bool) → Step

-- What one step leaves of what the media read as.
abbrev pub after : Step → Image → Image
after (write m at bytes true) image = written image m at bytes
after (write m at bytes false) image = image
after (sync m done) image = image

-- What the media read as.
abbrev pub reads_after : Image → List Step → Image
reads_after start [] = start
reads_after start (step ∷ earlier) = after step (reads_after start earlier)

-- The images that a stop may leave. A write that failed is torn like one that was done.
abbrev pub Left : Image → List Step → Image → Type 0
Left start [] i = i ≡ start
Left start (write m at bytes done ∷ earlier) i = Overwritten m at (length bytes) (Left start earlier) i
Left start (sync m true ∷ earlier) i = Left start earlier i × (content i m ≡ content (reads_after start earlier) m)
Left start (sync m false ∷ earlier) i = Left start earlier i

-- The images that a stop may have left after t of the steps, or after more of them.
abbrev pub LeftSince : Image → ℕ → List Step → Image → Type 0
LeftSince start t [] i = Left start [] i
LeftSince start t (step ∷ earlier) i = Left start (step ∷ earlier) i ⊎ ((t ≤ length earlier) × LeftSince start t earlier i)

-- The images that a stop may have left after t of the steps, or after fewer of them.
abbrev pub LeftUntil : Image → ℕ → List Step → Image → Type 0
LeftUntil start t [] i = Left start [] i
LeftUntil start t (step ∷ earlier) i = ((length (step ∷ earlier) ≤ t) × Left start (step ∷ earlier) i) ⊎ LeftUntil start t earlier i
