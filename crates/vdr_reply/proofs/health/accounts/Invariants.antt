use Rattle.std.proofs.Common.{◌≡◌, ◌<◌, ℕ, List, None, true, length, get_or}
use Rattle.vdr_core.specs.Runs.{RunStart}
use Rattle.vdr_core.specs.Taken.{Captured}
use Rattle.vdr_health.specs.Runs.{account_if}
use Rattle.vdr_health.specs.Tallies.{Tallies}
use Rattle.vdr_recorder.specs.Making.{MakesBy}
use Rattle.vdr_reply.proofs.health.accounts.Given as goal

abbrev pub invariant-loop-group : goal.invariant-loop-group
invariant-loop-group l =
    ((start : RunStart) (popped : List Captured) → MakesBy l.recorder.vault.config start popped l.recorder.maker → Tallies true popped l.tally
    → (k : ℕ) → k < l.group → get_or l.sums k None ≡ account_if start popped k)
    × (length l.sums ≡ 16)
