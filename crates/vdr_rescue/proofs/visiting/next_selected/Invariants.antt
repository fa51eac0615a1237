use Rattle.std.proofs.Common.{◌≡◌, ◌≤◌, ◌+◌, List, get_or}
use Rattle.std.specs.Prelude.{◌↔◌}
use Rattle.vdr_outside.specs.Causes.{NoneFalls}
use Rattle.vdr_outside.specs.Disk.{Unchanged, content}
use Rattle.vdr_terms.specs.Records.{Record as Entry}
use Rattle.vdr_entry.specs.Queries.{asked}
use Rattle.vdr_rescue.specs.declared.told.Told.{Told as Tale}
use Rattle.vdr_rescue.specs.Costs.{ReadsNoOther}
use Rattle.vdr_rescue.specs.Cursors.{budget, left_of}
use Rattle.vdr_rescue.specs.Visiting.{IsLeft}
use Rattle.vdr_rescue.proofs.visiting.next_selected.Given as goal

abbrev pub invariant-loop-item : goal.invariant-loop-item
invariant-loop-item g l = record {
  area : l.cursor.area ≡ l.fn.cursor.area;
  heads : l.cursor.heads ≡ l.fn.cursor.heads;
  unchanged : Unchanged (g.M.Media.disk l.fn.media) (g.M.Media.disk l.media);
  left : left_of l.cursor ≤ left_of l.fn.cursor;
  spent : get_or (g.M.Media.bytes_read l.media) l.fn.cursor.area.medium 0 + budget l.cursor ≤ get_or (g.M.Media.bytes_read l.fn.media) l.fn.cursor.area.medium 0 + budget l.fn.cursor;
  others : ReadsNoOther l.fn.cursor.area.medium (g.M.Media.bytes_read l.fn.media) (g.M.Media.bytes_read l.media);
  later : NoneFalls (g.M.Media.faults l.fn.media) (g.M.Media.faults l.media);
  gives : g.M.Media.tells → (records : List Entry) (all : List Tale)
      → IsLeft (content (g.M.Media.disk l.fn.media).reads l.fn.cursor.area.medium) l.saves.table l.fn.cursor (asked l.query) records all
      ↔ IsLeft (content (g.M.Media.disk l.fn.media).reads l.fn.cursor.area.medium) l.saves.table l.cursor (asked l.query) records all;
}

abbrev pub decreases-loop-item : goal.decreases-loop-item
decreases-loop-item g l = left_of l.cursor
