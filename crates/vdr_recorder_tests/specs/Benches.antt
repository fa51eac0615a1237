-- What holds of a recorder between the calls of a test, so that no test owes it.
use Rattle.std.specs.Prelude.{◌≡◌, ◌≤◌, ◌<◌, ◌+◌, ◌*◌, ◌^◌, ℕ, List, true, false}
use Rattle.vdr_terms.specs.Counting.{next_number}
use Rattle.vdr_core.specs.Runs.{RunStart}
use Rattle.vdr_core.specs.Taken.{Captured}
use Rattle.vdr_vault.specs.Vaults.{AreRings}
use Rattle.vdr_run.specs.Making.{counted_of}
use Rattle.vdr_recorder.specs.Making.{MakesBy}
use Rattle.vdr_recorder.specs.Recordings.{RecorderState}

-- No run is open, and each ring is its medium's.
pub record IsIdle (r : RecorderState) (sizes : List ℕ) : Type 0 where
  pub rings : AreRings r.vault sizes
  pub closed : r.is_open ≡ false

-- A run is open that took so many items: each took two places at most, and one number.
pub record IsRunning (r : RecorderState) (sizes : List ℕ) (taken : ℕ) : Type 0 where
  pub rings : AreRings r.vault sizes
  pub begun : r.is_open ≡ true
  pub makes : r.vault.failed ≡ false → (start : RunStart) × (popped : List Captured) × MakesBy r.vault.config start popped r.maker
  pub place : r.maker.place ≤ 2 ^ 62 + 2 * taken
  pub numbers : (g : ℕ) → g < 16 → next_number (counted_of r.maker g).pending ≤ taken

-- The run that is open took sixteen items at most.
pub record MayClose (r : RecorderState) (sizes : List ℕ) : Type 0 where
  pub rings : AreRings r.vault sizes
  pub begun : r.is_open ≡ true
  pub place : r.maker.place ≤ 2 ^ 62 + 32
  pub numbers : (g : ℕ) → g < 16 → next_number (counted_of r.maker g).pending ≤ 16
