use Rattle.std.proofs.Common.{◌≡◌, drop, replicate, None}
use Rattle.vdr_config.specs.Grammar.{table_of}
use Rattle.vdr_config.proofs.groups.rate_table.Given as goal

abbrev pub invariant-loop-group : goal.invariant-loop-group
invariant-loop-group l = table_of l.table (drop l.group-index l.groups) ≡ table_of (replicate 16 None) l.groups
