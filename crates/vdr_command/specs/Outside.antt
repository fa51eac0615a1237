-- What stands outside of the program at one time: what each object tells, and how often it failed.
use Rattle.std.specs.Prelude.{◌≡◌, ℕ, List, sum, Option}
use Rattle.std.specs.Io.KnownBytes.{Appends}
use Rattle.vdr_outside.specs.Causes.{Rose}
use Rattle.vdr_outside.specs.Disk.{Disk, Unchanged}
use Rattle.vdr_outside.specs.Writes.{AppendsFront}
use Rattle.vdr_command.specs.StatusLine.{Wrote}

-- An input, and the bytes left, where it tells them.
pub record InputSeen : Type 0 where
  pub left : Option (List ℕ)
  pub faults : ℕ

-- An output, and the bytes taken, where it tells them.
pub record OutputSeen : Type 0 where
  pub taken : Option (List ℕ)
  pub faults : ℕ

-- Media. How often each one failed, and how many bytes were read of it, stand in their order.
pub record MediaSeen (tells tells_images : Type 0) : Type 1 where
  pub disk : Disk tells tells_images
  pub faults : List ℕ
  pub bytes_read : List ℕ

-- All of it.
pub record Outside (tells tells_images : Type 0) : Type 1 where
  pub input : InputSeen
  pub output : OutputSeen
  pub media : MediaSeen tells tells_images

-- The object failed in between.
abbrev pub InputFailed : (old new : InputSeen) → Type 0
InputFailed old new = Rose old.faults new.faults

abbrev pub OutputFailed : (old new : OutputSeen) → Type 0
OutputFailed old new = Rose old.faults new.faults

abbrev pub MediaFailed : {tells tells_images : Type 0} → (old new : MediaSeen tells tells_images) → Type 0
MediaFailed old new = Rose (sum old.faults) (sum new.faults)

-- The media were left alone: everything is as it was.
pub record AreLeftAlone {tells tells_images : Type 0} (old new : MediaSeen tells tells_images) : Type 0 where
  pub disk : Unchanged old.disk new.disk
  pub faults : new.faults ≡ old.faults
  pub bytes_read : new.bytes_read ≡ old.bytes_read

-- No object failed in between.
pub record NothingFailed {tells tells_images : Type 0} (old new : Outside tells tells_images) : Type 0 where
  pub input : InputFailed old.input new.input → ⊥
  pub output : OutputFailed old.output new.output → ⊥
  pub media : MediaFailed old.media new.media → ⊥

-- The output took the text, or a front of it.
abbrev pub Prints : List ℕ → (old new : OutputSeen) → Type 0
Prints text old new = Appends old.taken new.taken text

abbrev pub PrintsFront : List ℕ → (old new : OutputSeen) → Type 0
PrintsFront text old new = AppendsFront old.taken new.taken text

-- It took the text, or a front of it where it failed.
abbrev pub Writes : List ℕ → (old new : OutputSeen) → Type 0
Writes text old new = Wrote text old.taken new.taken old.faults new.faults
