-- A source in memory.
use Rattle.std.specs.Prelude.{ℕ, List, length, drop, min}
use Rattle.vdr_outside.specs.Calls.{one_more}

pub record SourceInMemory : Type 0 where
  pub left : List ℕ  -- the bytes not yet given
  pub piece : ℕ  -- at most so many are given at a call
  pub failing : List ℕ  -- the calls that fail, by their numbers from 0
  pub calls : ℕ  -- how many were made
  pub faults : ℕ  -- how many of them failed

-- How many bytes a call gives to a buffer of this length.
abbrev pub given_to : ℕ → SourceInMemory → ℕ
given_to room s = min room (min s.piece (length s.left))

-- What a call leaves that gives so many bytes, and one that fails.
abbrev pub after_read : ℕ → SourceInMemory → SourceInMemory
after_read n s = record s { left = drop n s.left; calls = one_more s.calls }

abbrev pub after_failed_read : SourceInMemory → SourceInMemory
after_failed_read s = record s { calls = one_more s.calls; faults = one_more s.faults }
