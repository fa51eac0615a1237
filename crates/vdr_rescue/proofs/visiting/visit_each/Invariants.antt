use Rattle.std.proofs.Common.{◌≡◌, ◌≤◌, ◌+◌, ◌++◌, [], List, get_or}
use Rattle.std.specs.Io.KnownBytes.{Appends}
use Rattle.std.specs.Prelude.{◌↔◌}
use Rattle.vdr_outside.specs.Causes.{NoneFalls}
use Rattle.vdr_outside.specs.Disk.{Unchanged, content}
use Rattle.vdr_terms.specs.Records.{Record as Entry}
use Rattle.vdr_entry.specs.Queries.{asked}
use Rattle.vdr_visit.specs.Prints.{text_of}
use Rattle.vdr_rescue.specs.declared.told.Told.{Told as Tale}
use Rattle.vdr_rescue.specs.Costs.{ReadsNoOther}
use Rattle.vdr_rescue.specs.Cursors.{budget, left_of}
use Rattle.vdr_rescue.specs.Visiting.{IsLeft}
use Rattle.vdr_rescue.proofs.visiting.visit_each.Given as goal

abbrev pub invariant-loop-visitor : goal.invariant-loop-visitor
invariant-loop-visitor g l = record {
  area : l.cursor.area ≡ l.fn.cursor.area;
  heads : l.cursor.heads ≡ l.fn.cursor.heads;
  unchanged : Unchanged (g.M.Media.disk l.fn.media) (g.M.Media.disk l.media);
  spent : get_or (g.M.Media.bytes_read l.media) l.fn.cursor.area.medium 0 + budget l.cursor ≤ get_or (g.M.Media.bytes_read l.fn.media) l.fn.cursor.area.medium 0 + budget l.fn.cursor;
  others : ReadsNoOther l.fn.cursor.area.medium (g.M.Media.bytes_read l.fn.media) (g.M.Media.bytes_read l.media);
  later : NoneFalls (g.M.Media.faults l.fn.media) (g.M.Media.faults l.media);
  output : g.O.Sink.faults l.fn.out ≤ g.O.Sink.faults l.out;
  visits : (seen : List Entry)
      × ((first : g.row.V.Denot) → g.V.Visitor.has first [] l.fn.visitor → g.V.Visitor.has first seen l.visitor × Appends (g.O.Sink.taken l.fn.out) (g.O.Sink.taken l.out) (text_of (g.V.Visitor.line first) seen))
      × (g.M.Media.tells → (all : List Tale) (records : List Entry)
      → IsLeft (content (g.M.Media.disk l.fn.media).reads l.fn.cursor.area.medium) l.saves.table l.fn.cursor (asked l.query) records all
      ↔ ((rest : List Entry) × (records ≡ seen ++ rest) × IsLeft (content (g.M.Media.disk l.fn.media).reads l.fn.cursor.area.medium) l.saves.table l.cursor (asked l.query) rest all));
}

abbrev pub decreases-loop-visitor : goal.decreases-loop-visitor
decreases-loop-visitor g l = left_of l.cursor
