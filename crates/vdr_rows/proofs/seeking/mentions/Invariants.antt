use Rattle.std.proofs.Common.{◌≡◌, ◌||◌, drop}
use Rattle.vdr_rows.specs.Seeking.{mentions}
use Rattle.vdr_rows.proofs.seeking.mentions.Given as goal

abbrev pub invariant-loop-at : goal.invariant-loop-at
invariant-loop-at l = record {
  same : (l.found || mentions l.sought (drop l.at l.text)) ≡ mentions l.sought l.text;
}
