-- How often media in memory were called.
use Rattle.std.specs.Prelude.{ℕ, ◌+◌, ◌-◌, ◌^◌, min}
use Rattle.vdr_memory.specs.declared.call.Work.{Work}
use Rattle.vdr_memory.specs.declared.call.Work.TheVariants.{Write, Sync}
use Rattle.vdr_memory.specs.declared.counts.CallCounts.{CallCounts}
use Rattle.vdr_outside.specs.Calls.{one_more}

-- All calls. It is also the number of the next one.
abbrev pub total : CallCounts → ℕ
total made = min (made.reads + made.writes + made.syncs) (2 ^ 64 - 1)

-- The writes and syncs.
abbrev pub changes : CallCounts → ℕ
changes made = min (made.writes + made.syncs) (2 ^ 64 - 1)

-- After one more call.
abbrev pub one_read : CallCounts → CallCounts
one_read made = record made { reads = one_more made.reads }

abbrev pub one_change : Work → CallCounts → CallCounts
one_change (Write at length) made = record made { writes = one_more made.writes }
one_change Sync made = record made { syncs = one_more made.syncs }
