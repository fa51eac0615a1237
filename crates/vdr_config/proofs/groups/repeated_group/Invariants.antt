use Rattle.std.proofs.Common.{◌≡◌, drop, take}
use Rattle.vdr_config.specs.Grammar.{repeat_after, first_repeat, same_group}
use Rattle.vdr_config.proofs.groups.repeated_group.Given as goal

abbrev pub invariant-loop-i : goal.invariant-loop-i
invariant-loop-i l = repeat_after same_group (take l.i l.groups) (drop l.i l.groups) ≡ first_repeat same_group l.groups
