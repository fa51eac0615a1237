use Rattle.std.proofs.Common.{◌-◌, ◌≡◌, ◌≤◌, All, length, take, true}
use Rattle.vdr_page.specs.Strings.{is_plain}
use Rattle.vdr_page.proofs.field.plain_length.Given as goal

abbrev pub invariant-loop-count : goal.invariant-loop-count
invariant-loop-count l = record {
  within : l.count ≤ length l.bytes;
  plain : All (λ byte. is_plain byte ≡ true) (take l.count l.bytes);
}

abbrev pub decreases-loop-count : goal.decreases-loop-count
decreases-loop-count l = length l.bytes - l.count
