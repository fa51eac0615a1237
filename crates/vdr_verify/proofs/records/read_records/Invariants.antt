-- Records were read.
use Rattle.std.proofs.Common.{◌≡◌, ◌≤◌, ℕ, List, [], Option, None}
use Rattle.vdr_evidence.specs.Files.{Heading}
use Rattle.vdr_verify.specs.Accounts.{HasStamps}
use Rattle.vdr_verify.specs.Lists.{HasCounted, IsBehindRecords, places_above}
use Rattle.vdr_verify.proofs.records.read_records.Given as goal

abbrev pub invariant-loop-account : goal.invariant-loop-account
invariant-loop-account g l = record {
  read : (first : Option (List ℕ)) (h : Heading) → IsBehindRecords first (g.I.Source.left l.fn.input) l.fn.reader l.fn.asked None h [] → HasCounted first (g.I.Source.left l.input) l.reader l.fn.asked h l.account;
  end_is : l.end ≡ l.reader.offset;
  stamps : HasStamps l.account;
  later : g.I.Source.faults l.fn.input ≤ g.I.Source.faults l.input;
}

abbrev pub decreases-loop-account : goal.decreases-loop-account
decreases-loop-account g l = places_above l.account.last
