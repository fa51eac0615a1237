-- How often an object outside was called, and what it answered.
use Rattle.std.specs.Prelude.{ℕ, ◌+◌, ◌-◌, ◌^◌, min}

pub data Answer : Type 0 where
  other : Answer
  ended : Answer
  failed : Answer

pub record Asked : Type 0 where
  pub times : ℕ  -- how many calls there were
  pub ends : ℕ  -- how many of them answered that all was given
  pub failures : ℕ  -- how many of them failed
  pub last : Answer  -- what the last one answered, `other` before the first

-- One more, except that a count stays at the greatest u64.
abbrev pub one_more : ℕ → ℕ
one_more n = min (n + 1) (2 ^ 64 - 1)

-- After one more call.
abbrev pub asked_again : Asked → Answer → Asked
asked_again a other = record a { times = one_more a.times; last = other }
asked_again a ended = record a { times = one_more a.times; ends = one_more a.ends; last = ended }
asked_again a failed = record a { times = one_more a.times; failures = one_more a.failures; last = failed }
