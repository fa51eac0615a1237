-- What holds at every moment of a call.
use Rattle.std.specs.Prelude.{◌≤◌, ◌⊎◌, ◌↔◌, ℕ, List}
use Rattle.vdr_outside.specs.Disk.{Disk, Image, Durable, SameBut, content}

-- Of these images one, but for medium m, whose contents have P.
pub record Changed (m : ℕ) (P : List ℕ → Type 0) (from : Image → Type 0) (i : Image) : Type 0 where
  pub image : Image
  pub was : from image
  pub others : SameBut m image i
  pub has : P (content i m)

module _ {tells tells_images : Type 0} where
  -- Each image that a stop at some moment from old to new may have left has P, and nothing of the past changes.
  pub record AtEachMoment (old new : Disk tells tells_images) (P : Image → Type 0) : Type 0 where
    pub later : old.clock ≤ new.clock
    pub each : (i : Image) → new.since old.clock i → P i
    pub before : (t : ℕ) (i : Image) → t ≤ old.clock → new.since t i → old.since t i ⊎ P i  -- for a run that began earlier
    pub past : (t : ℕ) (i : Image) → t ≤ old.clock → new.until t i ↔ old.until t i

  -- At every moment medium m has contents with P, and the others are as a stop before the call may have left them.
  abbrev pub ChangesOnly : ℕ → (List ℕ → Type 0) → Disk tells tells_images → Disk tells tells_images → Type 0
  ChangesOnly m P old new = AtEachMoment old new (Changed m P old.now)

  -- Medium m reads as contents with Q, and a stop now leaves it so.
  pub record Settled (m : ℕ) (Q : List ℕ → Type 0) (disk : Disk tells tells_images) : Type 0 where
    pub durable : Durable m disk
    pub reads : tells → Q (content disk.reads m)
