-- What a ledger keeps of what is open.
use Rattle.std.specs.Prelude.{◌≡◌, ℕ}
use Rattle.vdr_ais.specs.Pending.{HasRead}
use Rattle.vdr_page.specs.Opens.{Open}
use Rattle.vdr_page.specs.declared.ledger.Ledger.{Ledger}

pub record Keeps (step : ℕ) (o : Open) (l : Ledger) : Type 0 where
  pub step_is : l.series.step ≡ step
  pub rows_are : l.series.rows ≡ o.rows
  pub counts_are : l.counts ≡ o.counts
  pub marks_are : l.slots ≡ o.marks
  pub read : HasRead o.back l.unfinished
