use Rattle.std.proofs.Common.{◌≡◌, drop, take}
use Rattle.vdr_config.specs.Grammar.{repeat_after, first_repeat, same_name}
use Rattle.vdr_config.proofs.channels.repeated_channel.Given as goal

abbrev pub invariant-loop-i : goal.invariant-loop-i
invariant-loop-i l = repeat_after same_name (take l.i l.channels) (drop l.i l.channels) ≡ first_repeat same_name l.channels
