-- The lines below a number.
use Rattle.std.proofs.Common.{◌≡◌, ◌≤◌, ◌+◌, ◌*◌, ◌++◌}
use Rattle.arrayvec.specs.ArrayVec.{array_vec_len}
use Rattle.vdr_import.specs.AccountTexts.{left_below}
use Rattle.vdr_import.proofs.account_text.push_rows.Given as goal

abbrev pub invariant-loop-row : goal.invariant-loop-row
invariant-loop-row l = record {
  grown : l.text.items ≡ l.fn.text.items ++ left_below l.row l.account;
  short : array_vec_len l.text ≤ 989 + 52 * l.row;
}
