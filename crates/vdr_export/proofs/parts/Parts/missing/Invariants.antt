use Rattle.std.proofs.Common.{◌≡◌, ◌+◌, drop}
use Rattle.vdr_export.specs.Answers.{first_missing}
use Rattle.vdr_export.proofs.parts.Parts.missing.Given as goal

abbrev pub invariant-loop-part : goal.invariant-loop-part
invariant-loop-part l = record {
  number : l.number ≡ l.part-index + 1;
  none : first_missing 1 l.fn.self ≡ first_missing l.number (drop l.part-index l.fn.self);
}
