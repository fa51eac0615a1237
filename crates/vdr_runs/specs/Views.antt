-- What contracts see of a run that is kept.
use Rattle.std.specs.Prelude.{IfSome}
use Rattle.vdr_terms.specs.Stamps.{IsStamp}
use Rattle.vdr_runs.specs.Runs.{Run}

-- Its stamps are stamps.
pub record IsKept (run : Run) : Type 0 where
  pub since : IfSome run.since (λ utc. IsStamp utc)
  pub until : IfSome run.until (λ utc. IsStamp utc)
