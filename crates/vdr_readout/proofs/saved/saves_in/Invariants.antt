use Rattle.std.proofs.Common.{◌≡◌, ◌≤◌, map}
use Rattle.arrayvec.specs.ArrayVec.{array_vec_len}
use Rattle.vdr_page.specs.Fronts.{save_of}
use Rattle.vdr_readout.specs.Paged.{saves_to}
use Rattle.vdr_readout.proofs.saved.saves_in.Given as goal

abbrev pub invariant-loop-before : goal.invariant-loop-before
invariant-loop-before l = record {
  are : map save_of l.saves.items ≡ saves_to l.before l.recorder.vault.table;
  few : array_vec_len l.saves ≤ l.before;
}
