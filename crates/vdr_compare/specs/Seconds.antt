-- The second with which records end (this project's profile).
use Rattle.std.specs.Prelude.{ℕ, List, fold}
use Rattle.vdr_terms.specs.Records.{Record, second}

-- The second of the last record, 0 where there is none.
abbrev pub last_from : ℕ → List Record → ℕ
last_from n records = fold (λ _ r. second r.tick) n records

abbrev pub last_second : List Record → ℕ
last_second records = last_from 0 records
