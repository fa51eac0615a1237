use Rattle.std.proofs.Common.{◌≡◌, ◌≤◌, ◌+◌, List, get_or}
use Rattle.std.specs.Prelude.{◌↔◌}
use Rattle.vdr_outside.specs.Causes.{NoneFalls}
use Rattle.vdr_outside.specs.Disk.{Unchanged, content}
use Rattle.vdr_terms.specs.Records.{Record as Entry}
use Rattle.vdr_rescue.specs.declared.told.Told.{Told as Tale}
use Rattle.vdr_rescue.specs.Costs.{ReadsNoOther}
use Rattle.vdr_rescue.specs.Cursors.{Ends, budget, left_of}
use Rattle.vdr_rescue.proofs.cursor.Cursor.step.Given as goal

abbrev pub invariant-loop-self : goal.invariant-loop-self
invariant-loop-self g l = record {
  area : l.self.area ≡ l.fn.self.area;
  heads : l.self.heads ≡ l.fn.self.heads;
  unchanged : Unchanged (g.M.Media.disk l.fn.media) (g.M.Media.disk l.media);
  left : left_of l.self ≤ left_of l.fn.self;
  spent : get_or (g.M.Media.bytes_read l.media) l.fn.self.area.medium 0 + budget l.self ≤ get_or (g.M.Media.bytes_read l.fn.media) l.fn.self.area.medium 0 + budget l.fn.self;
  others : ReadsNoOther l.fn.self.area.medium (g.M.Media.bytes_read l.fn.media) (g.M.Media.bytes_read l.media);
  later : NoneFalls (g.M.Media.faults l.fn.media) (g.M.Media.faults l.media);
  same : g.M.Media.tells → (given : List Entry) (all : List Tale)
      → Ends (content (g.M.Media.disk l.fn.media).reads l.fn.self.area.medium) l.fn.self given all ↔ Ends (content (g.M.Media.disk l.fn.media).reads l.fn.self.area.medium) l.self given all;
}

abbrev pub decreases-loop-self : goal.decreases-loop-self
decreases-loop-self g l = left_of l.self
