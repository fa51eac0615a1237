use Rattle.std.proofs.Common.{◌≤◌, ◌-◌, List, length}
use Rattle.std.specs.Prelude.{◌↔◌}
use Rattle.vdr_terms.specs.Records.{Record as Entry}
use Rattle.vdr_rescue.specs.Given.{GivesAbove, Stands}
use Rattle.vdr_rescue.proofs.given.next_above.Given as goal

abbrev pub invariant-loop-next : goal.invariant-loop-next
invariant-loop-next l = record {
  stands : Stands l.segment l.at;
  onward : l.fn.stand.position.at ≤ l.at.position.at;
  same : (records : List Entry) → GivesAbove l.segment l.fn.stand l.floor records ↔ GivesAbove l.segment l.at l.floor records;
}

abbrev pub decreases-loop-next : goal.decreases-loop-next
decreases-loop-next l = length l.segment - l.at.position.at
