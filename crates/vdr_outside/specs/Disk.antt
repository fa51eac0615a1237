-- What media read as, what a stop may leave of them, and what each call does to that.
-- The model of a disk: between two syncs each written range may hold any bytes after a stop, and the bytes outside stay; after a
-- sync that succeeded a stop leaves what a read gives; a stop strikes all media at one moment (this project's profile).
use Rattle.std.specs.Prelude.{◌≡◌, ◌≢◌, ◌<◌, ◌≤◌, ◌⊎◌, ◌↔◌, ◌+◌, ℕ, zero, suc, List, [], ◌∷◌, length, map, get_or, set, Result, OnOk}
use Rattle.vdr_outside.specs.Causes.{Rose}

-- The whole contents of all media, in their order.
abbrev pub Image : Type 0
Image = List (List ℕ)

-- The bytes of medium m.
abbrev pub content : Image → ℕ → List ℕ
content image m = get_or image m []

-- The bytes b, with x in place of what stands from a position on. What would stand past the end is lost.
abbrev pub over : List ℕ → ℕ → List ℕ → List ℕ
over [] at x = []
over (y ∷ b) (suc at) x = y ∷ over b at x
over (y ∷ b) zero [] = y ∷ b
over (y ∷ b) zero (z ∷ x) = z ∷ over b zero x

-- The image with the bytes x on medium m from a position on.
abbrev pub written : Image → ℕ → ℕ → List ℕ → Image
written image m at x = set image m (over (content image m) at x)

-- The media at one time. `tells` is a fact where the object tells its contents, `tells_images` where it tells what a stop may leave.
pub record Disk (tells tells_images : Type 0) : Type 1 where
  pub sizes : List ℕ  -- of each medium
  pub reads : Image  -- what each medium reads as, where that is told
  pub now : Image → Type 0  -- the images that a stop now may leave
  pub clock : ℕ  -- the present moment
  pub since : ℕ → Image → Type 0  -- the images that a stop at that moment or a later one may have left
  pub until : ℕ → Image → Type 0  -- the images that a stop at that moment or an earlier one may have left
  -- an object has images only where it tells them, and then it tells its contents, which are one of them
  pub told : (i : Image) → now i → tells_images
  pub shown : tells_images → tells × now reads
  pub sized : (t : ℕ) (i : Image) → since t i → map length i ≡ sizes
  pub sized_as_read : tells → map length reads ≡ sizes
  -- what may be left now counts since each moment up to now, and nothing else since now
  pub counts_now : (t : ℕ) (i : Image) → t ≤ clock → now i → since t i
  pub only_now : (i : Image) → since clock i → now i
  -- a moment from u on is one from an earlier t on
  pub earlier : (t u : ℕ) (i : Image) → t ≤ u → since u i → since t i
  -- what may be left now counts until each moment from now on
  pub counts_until : (t : ℕ) (i : Image) → clock ≤ t → now i → until t i
  -- a moment up to t is one up to a later u
  pub later : (t u : ℕ) (i : Image) → t ≤ u → until t i → until u i
  -- and each moment is one up to t, or one from t on
  pub until_or_since : (t u : ℕ) (i : Image) → t ≤ clock → until u i → until t i ⊎ since t i

-- The range stands within the medium.
abbrev pub InRange : List ℕ → ℕ → ℕ → ℕ → Type 0
InRange sizes m at n = (m < length sizes) × (at + n ≤ get_or sizes m 0)

module _ {tells tells_images : Type 0} where
  -- Time goes on by one moment at most: a stop since t might have left what it might have left before, or what it may leave now. Nothing of the
  -- past changes.
  pub record Elapses (old new : Disk tells tells_images) : Type 0 where
    pub later : old.clock ≤ new.clock
    pub nothing_else : (t : ℕ) (i : Image) → t ≤ old.clock → new.since t i → old.since t i ⊎ new.now i
    pub keeps : (t : ℕ) (i : Image) → t ≤ old.clock → old.since t i → new.since t i
    pub by_one : new.clock ≤ old.clock + 1
    pub past : (t : ℕ) (i : Image) → t ≤ old.clock → new.until t i ↔ old.until t i

  -- The clock rises, where images are told. One that stands at the greatest u64 or beyond counts as risen.
  abbrev pub Rises : Disk tells tells_images → Disk tells tells_images → Type 0
  Rises old new = tells_images → Rose old.clock new.clock

  -- A call that was done took one tick of the clock, where images are told.
  abbrev pub Ticks : {T E : Type 0} → Disk tells tells_images → Disk tells tells_images → Result T E → Type 0
  Ticks old new result = OnOk result (tells_images → new.clock ≡ old.clock + 1)

  -- No image can be left that could not be left before, as by a read and a sync.
  abbrev pub Narrows : Disk tells tells_images → Disk tells tells_images → Type 0
  Narrows old new = (i : Image) → new.now i → old.now i

  -- A stop now leaves medium m as it reads: nothing that was written to it is still unsynced.
  pub record Durable (m : ℕ) (disk : Disk tells tells_images) : Type 0 where
    pub each : (i : Image) → disk.now i → content i m ≡ content disk.reads m

  -- A call that reads alone: everything is as before.
  pub record Unchanged (old new : Disk tells tells_images) : Type 0 where
    pub sizes : new.sizes ≡ old.sizes
    pub reads : tells → new.reads ≡ old.reads
    pub clock : new.clock ≡ old.clock
    pub since : (t : ℕ) (i : Image) → new.since t i ↔ old.since t i
    pub until : (t : ℕ) (i : Image) → new.until t i ↔ old.until t i

-- All media but m read as before.
abbrev pub SameBut : ℕ → Image → Image → Type 0
SameBut m old new = (k : ℕ) → k ≢ m → content new k ≡ content old k

-- One of these images with any bytes in n places of medium m.
pub record Overwritten (m at n : ℕ) (from : Image → Type 0) (i : Image) : Type 0 where
  pub image : Image
  pub was : from image
  pub bytes : List ℕ
  pub size : length bytes ≡ n
  pub is : i ≡ written image m at bytes

-- After a write that may have failed: of each image that may be left now, the range holds any bytes.
abbrev pub Tears : {tells tells_images : Type 0} → ℕ → ℕ → ℕ → Disk tells tells_images → Disk tells tells_images → Type 0
Tears m at n old new = (i : Image) → new.now i → Overwritten m at n old.now i
