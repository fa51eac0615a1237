-- The lines below a number.
use Rattle.std.proofs.Common.{◌≡◌, ◌≤◌, ◌+◌, ◌*◌, ◌++◌}
use Rattle.arrayvec.specs.ArrayVec.{array_vec_len}
use Rattle.vdr_import.specs.AccountTexts.{groups_below}
use Rattle.vdr_import.proofs.account_text.push_groups.Given as goal

abbrev pub invariant-loop-group : goal.invariant-loop-group
invariant-loop-group l = record {
  grown : l.text.items ≡ l.fn.text.items ++ groups_below l.group l.account;
  short : array_vec_len l.text ≤ 29 + 60 * l.group;
}
