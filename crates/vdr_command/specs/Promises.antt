-- What a command promises: each has a page, and its row in the table of vdr_tool, `Runs.page`.
use Rattle.std.specs.Prelude.{ℕ, List}
use Rattle.vdr_command.specs.Outside.{Outside}
use Rattle.vdr_command.specs.declared.status.Status.{Status}
use Rattle.vdr_recorder.specs.Watched.{Watched}

pub record Promise : Type 1 where
  -- the words that ask for it, and that their numbers are in their ranges
  pub words : List (List ℕ) → Type 0
  pub legal : Type 0
  -- a command that does not read the input, or use the media, leaves them untouched
  pub reads_input : Type 0
  pub uses_media : Type 0
  -- how it ends, with what stands outside before it and when it has ended, up to the line of its status, which `run` writes then, and with what
  -- an object was told meanwhile, where it hears anything
  pub owes : {tells tells_images : Type 0} → (old new : Outside tells tells_images) → (hears : Type 0) → Watched → Status → Type 0
